use Rattle.plan.proofs.Ask.{tiles_class}
use Rattle.plan.proofs.plan.Plan.chunks_per_page.Goals as goal

pub returns-clause-tiles : goal.returns-clause-tiles
returns-clause-tiles c = λ n e. tiles_class c.args.self.now c.args.class c.in_ok-size.size n c.in_ok-size.ensures e
