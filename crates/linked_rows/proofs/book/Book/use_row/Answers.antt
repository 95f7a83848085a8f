use Rattle.std.proofs.Common.{◌≡◌, ℕ, false, List, cond, eqb, ◌∷◌, sym, ap, ◌∙◌, subst}
use mathlib.Core.Logic.{∥∥₁_map}
use Rattle.std.proofs.lemmas.Bool.{cond-true, eq-eqb}
use Rattle.recency.specs.Numbers.{count, without}
use Rattle.recency.proofs.Counts.{count_moved}
use Rattle.chained.proofs.Moves.{recount}
use Rattle.linked_rows.specs.Books.{Sound, mark}
use Rattle.linked_rows.specs.declared.entry.Entry.{Entry}
use Rattle.linked_rows.proofs.Kept.{held_by_list}
use Rattle.linked_rows.proofs.Marks.{mark_of}
use Rattle.linked_rows.proofs.book.Book.use_row.Goals as goal

blank : Entry
blank = record { at = 0; len = 0; hash = 0; held = false; link = 0; next = 0; prev = 0 }

pub move_to_front-requires : goal.move_to_front-requires
unfolding blank
move_to_front-requires c =
    record { within = c.requires.within; inside = ∥∥₁_map c.requires.sound (λ s. (s.1, s.2.listed, mark_of mark c.args.rows.now c.args.i blank s.1 1 c.requires.within s.2.held.marks (ap {B = ℕ} (λ t. cond t 1 0) c.if-rows-i.true))) }

pub returns-then-rows-i : goal.returns-then-rows-i
unfolding blank
returns-then-rows-i c =
    let i = c.args.i in
    let rows = c.args.rows.now in
    let new = c.move_to_front.new.rows in
    let book = c.args.self.now in
    let here : (heads ids : List ℕ) → Sound book heads rows ids → count i ids ≡ 1 =
    λ heads ids h. mark_of mark rows i blank ids 1 c.requires.within h.held.marks (ap {B = ℕ} (λ t. cond t 1 0) c.if-rows-i.true) in
    let moved : (heads ids : List ℕ) → Sound book heads rows ids → Sound (record { table = book.table; list = c.move_to_front.new.self }) heads new (i ∷ without i ids) =
    λ heads ids h.
    let by_list = held_by_list book.table heads rows new ids c.move_to_front.ensures.rest h.held in
    record {
      listed = c.move_to_front.ensures.listed ids h.listed (here heads ids h);
      held =
          record {
            kept = recount _ _ _ _ ids (i ∷ without i ids) (count_moved i ids (here heads ids h)) by_list.kept;
            marks = λ k. count_moved i ids (here heads ids h) k ∙ by_list.marks k;
          };
    } in
    record {
      used = λ heads ids h.
          subst (λ xs. Sound (record { table = book.table; list = c.move_to_front.new.self }) heads new xs) (sym (cond-true (eqb (count i ids) 1) (i ∷ without i ids) ids (eq-eqb (count i ids) 1 (here heads ids h)))) (moved heads ids h);
      sound = λ heads t. ∥∥₁_map t (λ s. (_, moved heads s.0 s.1));
    }
