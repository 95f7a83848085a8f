-- A book of entries: which of the rows are held.
use Rattle.std.specs.Prelude.{ℕ, cond, List, ◌∷◌, ◌==◌}
use Rattle.recency.specs.Numbers.{count, without}
use Rattle.recency.specs.Lists.{Reads}
use Rattle.linked_rows.specs.Registers.{Registered}
use Rattle.linked_rows.specs.declared.book.Book.{Book}
use Rattle.linked_rows.specs.declared.entry.Entry.{Entry}

-- 1 for a row that is marked as held
abbrev pub mark : Entry → ℕ
mark row = cond row.held 1 0

-- the book's list reads `ids` from front to back, its table holds the same rows, and just those are marked
pub record Sound (book : Book) (heads : List ℕ) (rows : List Entry) (ids : List ℕ) : Type 0 where
  pub listed : Reads (λ row. row.next) (λ row. row.prev) book.list rows ids
  pub held : Registered (λ row. row.link) (λ row. row.hash) mark book.table heads rows ids

-- a list after the row i was used, which only counts where i is in it
abbrev pub used : ℕ → List ℕ → List ℕ
used i ids = cond (count i ids == 1) (i ∷ without i ids) ids
