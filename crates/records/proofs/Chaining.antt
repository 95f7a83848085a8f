-- A slab does not see what the table writes into its rows. Assumes nothing.
use Rattle.std.proofs.Common.{◌≡◌, ℕ, ◌<◌, List, map, length, get_or, refl, ⊎_elim, arith}
use Rattle.std.proofs.lemmas.List.{get_or_past}
use Rattle.std.proofs.lemmas.Bool.{cases_lt}
use Rattle.recency.proofs.Columns.{column_of_rest}
use Rattle.slabs.specs.declared.row.Row.{Row}
use Rattle.slabs.specs.declared.class.Class.{Class}
use Rattle.slabs.specs.Rows.{homes}
use Rattle.slabs.specs.Lists.{Family}
use Rattle.slabs.specs.Layouts.{Layout}
use Rattle.slabs.specs.Orders.{InOrder}
use Rattle.slabs.proofs.Shifts.{family_rechained, order_rechained}

-- a row without its place in its chain
abbrev pub unchained : Row → Row
unchained row = record { next = row.next; prev = row.prev; home = row.home; chain = 0; key_len = row.key_len; data_len = row.data_len; tag = row.tag }

module _ (rows rows' : List Row) (rest : map unchained rows' ≡ map unchained rows) where
  pub column : {X : Type 0} (f : Row → X) → ((r : Row) → f r ≡ f (unchained r)) → map f rows' ≡ map f rows
  column f blind = column_of_rest unchained f blind rows rows' rest

  pub homes_same : homes rows' ≡ homes rows
  homes_same = column (λ row. row.home) (λ _. refl)

  pub family_same : (classes : List Class) (ls : ℕ → List ℕ) → Family classes rows ls → Family classes rows' ls
  family_same classes = family_rechained classes rows rows' (column (λ row. row.next) (λ _. refl)) (column (λ row. row.prev) (λ _. refl)) homes_same

  pub order_same : (classes : List Class) (l : Layout) → InOrder classes rows l → InOrder classes rows' l
  order_same classes l =
      order_rechained classes rows rows' (column (λ row. row.next) (λ _. refl)) (column (λ row. row.prev) (λ _. refl)) homes_same l
      (column (λ row. row.key_len) (λ _. refl)) (column (λ row. row.data_len) (λ _. refl))

-- a row that names a list is a row
pub within : (xs : List ℕ) (i : ℕ) → 0 < get_or xs i 0 → i < length xs
within xs i h = ⊎_elim (λ lt. lt) (λ ge. let e = get_or_past xs i 0 ge in absurd (omega arith)) (cases_lt i (length xs))
