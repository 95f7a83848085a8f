use Rattle.std.proofs.Common.{◌<◌, ◌∷◌, map, length, ◌∙◌, arith}
use mathlib.Core.Logic.{∥∥₁_map}
use lib.ListN.{length-map}
use Rattle.recency.proofs.Columns.{column_of_rest, column_kept}
use Rattle.linked_rows.proofs.Held.{even, marks_in, marked}
use Rattle.linked_rows.proofs.register.Register.enter.Goals as goal

pub insert-requires : goal.insert-requires
insert-requires g c = record { within = c.requires.within; outside = ∥∥₁_map c.requires.outside (λ s. (s.0, s.1.kept, s.2)) }

pub grow-requires : goal.grow-requires
grow-requires g c =
    let rows = c.args.rows.now in
    let one = c.insert.new.rows in
    let i = c.args.i in
    let link_of = g.R.Chained.link_of in
    let hash_of = g.R.Chained.hash_of in
    let mark_of = g.R.Marked.mark_of in
    let told = c.set_held.ensures in
    let lt : i < length one = omega (arith, c.requires.within, even g.R.Chained.bare rows one c.insert.ensures.rest) in
    let here : i < length (map mark_of rows) = omega (arith, c.requires.within, length-map rows mark_of) in
    let marks = column_of_rest g.R.Chained.bare mark_of g.met.R.Marked.mark_stays rows one c.insert.ensures.rest in
    ∥∥₁_map c.requires.outside (λ s. (
      i ∷ s.0,
      marked link_of hash_of mark_of c.args.self.now.chains c.saturating_add-self.result c.insert.new.heads rows one i 1 c.index-rows-i.result c.set_held.new.self (i ∷ s.0)
          lt told.link told.hash told.marked (c.insert.ensures.held s.0 s.1.kept s.2) (marks_in (map mark_of rows) s.0 i here s.2 s.1.marks) marks,
    ))

pub returns : goal.returns
returns g c =
    let rows = c.args.rows.now in
    let one = c.insert.new.rows in
    let i = c.args.i in
    let link_of = g.R.Chained.link_of in
    let hash_of = g.R.Chained.hash_of in
    let mark_of = g.R.Marked.mark_of in
    let rest_of = g.R.Marked.rest_of in
    let told = c.set_held.ensures in
    let lt : i < length one = omega (arith, c.requires.within, even g.R.Chained.bare rows one c.insert.ensures.rest) in
    let here : i < length (map mark_of rows) = omega (arith, c.requires.within, length-map rows mark_of) in
    let marks = column_of_rest g.R.Chained.bare mark_of g.met.R.Marked.mark_stays rows one c.insert.ensures.rest in
    record {
      held = λ ids h out.
          c.grow.ensures.held (i ∷ ids)
          (marked link_of hash_of mark_of c.args.self.now.chains c.saturating_add-self.result c.insert.new.heads rows one i 1 c.index-rows-i.result c.set_held.new.self (i ∷ ids)
          lt told.link told.hash told.marked (c.insert.ensures.held ids h.kept out) (marks_in (map mark_of rows) ids i here out h.marks) marks);
      rest =
          c.grow.ensures.rest
          ∙ column_kept rest_of one i c.index-rows-i.result c.set_held.new.self lt told.rest
          ∙ column_of_rest g.R.Chained.bare rest_of g.met.R.Marked.rest_stays rows one c.insert.ensures.rest;
    }
