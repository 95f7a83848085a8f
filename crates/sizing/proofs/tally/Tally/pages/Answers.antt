use Rattle.std.proofs.Common.{arith}
use Rattle.plan.specs.Plans.{plan_sizes}
use Rattle.plan.specs.Classes.{chunks_of}
use Rattle.plan.proofs.Ask.{known}
use Rattle.plan.proofs.Facts.{fair}
use Rattle.sizing.proofs.tally.Tally.pages.Goals as goal

pub pages_for-requires : goal.pages_for-requires
pages_for-requires c =
    let k = known chunks_of (plan_sizes c.args.self.now.plan) c.args.class c.in-Some.chunks c.in-Some.ensures.value in
    let f = fair c.args.self.now.plan c.args.class k.low k.high in
    omega arith
