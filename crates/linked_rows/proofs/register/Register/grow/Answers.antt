use Rattle.std.proofs.Common.{map, get_or, sym, ap, ◌∙◌}
use mathlib.Core.Logic.{∥∥₁_map}
use Rattle.recency.proofs.Columns.{column_of_rest}
use Rattle.linked_rows.proofs.register.Register.grow.Goals as goal

pub grow_after-requires : goal.grow_after-requires
grow_after-requires g c = ∥∥₁_map c.requires (λ s. (map g.R.Chained.link_of c.args.rows.now, map g.R.Chained.hash_of c.args.rows.now, s.0, s.1.kept))

pub move_one-requires : goal.move_one-requires
move_one-requires g c = ∥∥₁_map c.requires (λ s. (s.0, c.grow_after.ensures.held _ _ s.0 s.1.kept))

pub returns : goal.returns
returns g c =
    let rows = c.args.rows.now in
    let new = c.move_one.new.rows in
    let bare = g.R.Chained.bare in
    let rest = c.move_one.ensures.rest in
    record {
      held = λ ids h.
          record {
            kept = c.move_one.ensures.held ids (c.grow_after.ensures.held _ _ ids h.kept);
            marks = λ k. h.marks k ∙ ap (λ m. get_or m k 0) (sym (column_of_rest bare g.R.Marked.mark_of g.met.R.Marked.mark_stays rows new rest));
          };
      rest = column_of_rest bare g.R.Marked.rest_of g.met.R.Marked.rest_stays rows new rest;
    }
