use Rattle.std.proofs.Common.{◌<◌, map, length, ◌∙◌, arith}
use mathlib.Core.Logic.{∥∥₁_map}
use lib.ListN.{length-map}
use Rattle.recency.specs.Numbers.{without}
use Rattle.recency.proofs.Columns.{column_of_rest, column_kept}
use Rattle.linked_rows.proofs.Held.{even, marks_out, marked}
use Rattle.linked_rows.proofs.register.Register.leave.Goals as goal

pub remove-requires : goal.remove-requires
remove-requires g c = record { within = c.requires.within; inside = ∥∥₁_map c.requires.inside (λ s. (s.0, s.1.kept, s.2)) }

pub grow-requires : goal.grow-requires
grow-requires g c =
    let rows = c.args.rows.now in
    let one = c.remove.new.rows in
    let i = c.args.i in
    let link_of = g.R.Chained.link_of in
    let hash_of = g.R.Chained.hash_of in
    let mark_of = g.R.Marked.mark_of in
    let told = c.set_held.ensures in
    let lt : i < length one = omega (arith, c.requires.within, even g.R.Chained.bare rows one c.remove.ensures.rest) in
    let here : i < length (map mark_of rows) = omega (arith, c.requires.within, length-map rows mark_of) in
    let marks = column_of_rest g.R.Chained.bare mark_of g.met.R.Marked.mark_stays rows one c.remove.ensures.rest in
    ∥∥₁_map c.requires.inside (λ s. (
      without i s.0,
      marked link_of hash_of mark_of c.args.self.now.chains c.saturating_sub-self.result c.remove.new.heads rows one i 0 c.index-rows-i.result c.set_held.new.self (without i s.0)
          lt told.link told.hash told.marked (c.remove.ensures.held s.0 s.1.kept s.2) (marks_out (map mark_of rows) s.0 i here s.1.marks) marks,
    ))

pub returns : goal.returns
returns g c =
    let rows = c.args.rows.now in
    let one = c.remove.new.rows in
    let i = c.args.i in
    let link_of = g.R.Chained.link_of in
    let hash_of = g.R.Chained.hash_of in
    let mark_of = g.R.Marked.mark_of in
    let rest_of = g.R.Marked.rest_of in
    let told = c.set_held.ensures in
    let lt : i < length one = omega (arith, c.requires.within, even g.R.Chained.bare rows one c.remove.ensures.rest) in
    let here : i < length (map mark_of rows) = omega (arith, c.requires.within, length-map rows mark_of) in
    let marks = column_of_rest g.R.Chained.bare mark_of g.met.R.Marked.mark_stays rows one c.remove.ensures.rest in
    record {
      held = λ ids h out.
          c.grow.ensures.held (without i ids)
          (marked link_of hash_of mark_of c.args.self.now.chains c.saturating_sub-self.result c.remove.new.heads rows one i 0 c.index-rows-i.result c.set_held.new.self (without i ids)
          lt told.link told.hash told.marked (c.remove.ensures.held ids h.kept out) (marks_out (map mark_of rows) ids i here h.marks) marks);
      rest =
          c.grow.ensures.rest
          ∙ column_kept rest_of one i c.index-rows-i.result c.set_held.new.self lt told.rest
          ∙ column_of_rest g.R.Chained.bare rest_of g.met.R.Marked.rest_stays rows one c.remove.ensures.rest;
    }
