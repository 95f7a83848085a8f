-- What the marks of rows tell: `mark` is 1 at a row that is marked, and 0 at any other.
use Rattle.std.proofs.Common.{◌≡◌, ℕ, ◌+◌, ◌<◌, ◌≤◌, List, map, length, get_or, set, ap, ◌∙◌, ⊎_elim, arith}
use lib.ListN.{length-map}
use Rattle.std.proofs.lemmas.List.{get_or-map, get_or_past, get_or-set_same, get_or-set_other}
use Rattle.std.proofs.lemmas.Bool.{cases_lt, cases_eq}
use Rattle.recency.specs.Numbers.{count}
use Rattle.recency.proofs.Columns.{column_set}

module _ {R : Type 0} (mark : R → ℕ) where
  -- the mark of a row tells how often it is held
  pub mark_of : (rows : List R) (i : ℕ) (d : R) (ids : List ℕ) (n : ℕ) → i < length rows → ((k : ℕ) → count k ids ≡ get_or (map mark rows) k 0) → mark (get_or rows i d) ≡ n → count i ids ≡ n
  mark_of rows i d ids n lt marks e = marks i ∙ get_or-map mark rows i d 0 lt ∙ e

  -- one mark more is taken away
  pub cleared_more : (rows : List R) (i : ℕ) (row : R) → i < length rows → mark row ≡ 0 → ((k : ℕ) → k < i → get_or (map mark rows) k 0 ≡ 0) → (k : ℕ) → k < i + 1 → get_or (map mark (set rows i row)) k 0 ≡ 0
  cleared_more rows i row lt e below k near =
      ap (λ m. get_or m k 0) (column_set mark rows i row 0 e)
      ∙ ⊎_elim
      (λ (q : k ≡ i). ap (λ x. get_or (set (map mark rows) i 0) x 0) q ∙ get_or-set_same (map mark rows) i 0 0 (simp length-map lt))
      (λ (ne : k ≡ i → ⊥). get_or-set_other (map mark rows) i k 0 0 ne ∙ below k (omega arith))
      (cases_eq k i)

  -- no marks are left
  pub cleared_all : (rows : List R) (n : ℕ) → ((k : ℕ) → k < n → get_or (map mark rows) k 0 ≡ 0) → length rows ≤ n → (k : ℕ) → get_or (map mark rows) k 0 ≡ 0
  cleared_all rows n below all k =
      ⊎_elim
      (λ (lt : k < n). below k lt)
      (λ (past : n ≤ k). get_or_past (map mark rows) k 0 (simp length-map (omega arith)))
      (cases_lt k n)
