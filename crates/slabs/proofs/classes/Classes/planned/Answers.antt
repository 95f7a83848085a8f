use Rattle.std.proofs.Common.{rules, arith}
use Rattle.plan.specs.Plans.{plan_sizes}
use Rattle.slabs.specs.Classes.{no_class, Fresh}
use Rattle.slabs.proofs.Making.{made_each}
use Rattle.slabs.proofs.classes.Classes.planned.Goals as goal

pub returns-clause-classes : goal.returns-clause-classes
returns-clause-classes c = λ class lt. made_each _ (Fresh (plan_sizes c.args.plan.now)) _ (λ i y q k. search rules) c.from_fn.result 0 33 c.from_fn.ensures.items.each class no_class (omega arith) (omega arith)
