use Rattle.std.proofs.Common.{sym, ap, ◌∙◌, arith}
use Rattle.recency.specs.Lists.{foremost}
use Rattle.slabs.proofs.Ends.{beyond, classes_long}
use Rattle.slabs.proofs.slab.Slab.first.Goals as goal

pub returns-in_err-get : goal.returns-in_err-get
returns-in_err-get c = λ ls f. let past = c.in_err-get.ensures.lookup.3 in c.from_residual.ensures ∙ sym (ap foremost (beyond c.args.self.now c.requires ls f c.args.stand c.args.class (omega (arith, classes_long c.args.self.now c.requires))))
