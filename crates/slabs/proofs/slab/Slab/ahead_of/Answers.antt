use Rattle.std.proofs.Common.{◌∷◌, ◌++◌, sym, subst}
use Rattle.slabs.specs.declared.class.Stand.TheVariants.{Held}
use Rattle.slabs.specs.Rows.{RowsRead}
use Rattle.slabs.specs.Classes.{list_at}
use Rattle.slabs.specs.Layouts.{class_at}
use Rattle.slabs.specs.Slabs.{rows_of, layout}
use Rattle.slabs.proofs.Sounds.{class_few}
use Rattle.slabs.proofs.slab.Slab.ahead_of.Goals as goal

pub returns : goal.returns
returns c = λ ls f a b e.
    let s = c.args.self.now in
    let i = c.args.i in
    let class = class_at (layout s) i in
    let list = list_at s.classes.all class Held in
    c.ahead_of.ensures list a b
    (subst (λ rows. RowsRead list rows (a ++ i ∷ b)) (sym c.deref.ensures.value)
    (subst (λ ids. RowsRead list (rows_of s) ids) e (f.reads class Held (class_few s c.requires.sound i class Held c.requires.held))))
