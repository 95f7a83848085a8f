use Rattle.std.proofs.Common.{ℕ, List, ◌∷◌, refl, ◌∙◌, arith}
use mathlib.Core.Logic.{∥∥₁_map}
use Rattle.std.proofs.lemmas.Bool.{true≢false, false≢true}
use Rattle.recency.specs.Numbers.{without}
use Rattle.linked_rows.specs.Books.{Sound}
use Rattle.linked_rows.proofs.Held.{even}
use Rattle.linked_rows.proofs.Kept.{unheld, held_by_list, listed_by_table}
use Rattle.linked_rows.proofs.book.Book.toggle.Goals as goal

pub toggle-requires : goal.toggle-requires
toggle-requires c = record { within = c.requires.within; sound = ∥∥₁_map c.requires.sound (λ s. (s.0, s.1.held)) }

pub push_front-requires : goal.push_front-requires
push_front-requires c =
    let rows = c.args.rows.now in
    let one = c.toggle.new.rows in
    let rest = c.if-toggle.ensures.rest in
    record {
      within = omega (arith, c.requires.within, even unheld rows one rest);
      outside = ∥∥₁_map c.requires.sound (λ s. (s.0, listed_by_table c.args.self.now.list rows one s.0 rest s.1.listed, s.1.held.marks c.args.i ∙ c.if-toggle.ensures.was));
    }

pub unlink-requires : goal.unlink-requires
unlink-requires c =
    let rows = c.args.rows.now in
    let one = c.toggle.new.rows in
    let rest = c.if-toggle.ensures.rest in
    record {
      within = omega (arith, c.requires.within, even unheld rows one rest);
      inside = ∥∥₁_map c.requires.sound (λ s. (s.0, listed_by_table c.args.self.now.list rows one s.0 rest s.1.listed, s.1.held.marks c.args.i ∙ c.if-toggle.ensures.was));
    }

pub returns-then-toggle : goal.returns-then-toggle
returns-then-toggle c =
    let rows = c.args.rows.now in
    let one = c.toggle.new.rows in
    let two = c.push_front.new.rows in
    let i = c.args.i in
    let book = c.args.self.now in
    let told = c.if-toggle.ensures in
    let entered : (ids : List ℕ) → Sound book c.args.heads.now rows ids → Sound (record { table = c.toggle.new.self; list = c.push_front.new.self }) c.toggle.new.heads two (i ∷ ids) =
    λ ids h.
    record {
      listed = c.push_front.ensures.listed ids (listed_by_table book.list rows one ids told.rest h.listed) (h.held.marks i ∙ told.was);
      held = held_by_list c.toggle.new.self c.toggle.new.heads one two (i ∷ ids) c.push_front.ensures.rest (told.entered refl ids h.held);
    } in
    record { entered = λ _. entered; left = λ e. absurd (true≢false e); sound = ∥∥₁_map c.requires.sound (λ s. (_, entered s.0 s.1)) }

pub returns-else-toggle : goal.returns-else-toggle
returns-else-toggle c =
    let rows = c.args.rows.now in
    let one = c.toggle.new.rows in
    let two = c.unlink.new.rows in
    let i = c.args.i in
    let book = c.args.self.now in
    let told = c.if-toggle.ensures in
    let left : (ids : List ℕ) → Sound book c.args.heads.now rows ids → Sound (record { table = c.toggle.new.self; list = c.unlink.new.self }) c.toggle.new.heads two (without i ids) =
    λ ids h.
    record {
      listed = c.unlink.ensures.listed ids (listed_by_table book.list rows one ids told.rest h.listed) (h.held.marks i ∙ told.was);
      held = held_by_list c.toggle.new.self c.toggle.new.heads one two (without i ids) c.unlink.ensures.rest (told.left refl ids h.held);
    } in
    record { entered = λ e. absurd (false≢true e); left = λ _. left; sound = ∥∥₁_map c.requires.sound (λ s. (_, left s.0 s.1)) }
