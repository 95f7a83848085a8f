use Rattle.std.proofs.Common.{◌≡◌, ◌/◌, arith, rules}
use Rattle.slabs.specs.Layouts.{class_at}
use Rattle.slabs.specs.Slabs.{layout}
use Rattle.slabs.proofs.Ends.{owners_few}
use Rattle.slabs.proofs.slab.Slab.class_of.Goals as goal

pub returns-clause-few : goal.returns-clause-few
returns-clause-few c =
    let s = c.args.self.now in
    let i = c.args.i in
    let is : c.map_or.result ≡ class_at (layout s) i = search rules in
    omega (arith, owners_few s c.requires.sound (i / 85))
