-- A column of rows, `map f rows`, after a write of one row.
use Rattle.std.proofs.Common.{◌≡◌, ℕ, ◌<◌, ◌≤◌, List, [], ◌∷◌, map, length, get_or, set, sym, refl, ap, ◌∙◌, ap₂}
use lib.ListN.{length-map}
use Rattle.std.proofs.lemmas.List.{map-set, set-get_or, get_or-map, set_past}

module _ {R X : Type 0} (f : R → X) (rows : List R) (i : ℕ) where
  -- the written row has another value here
  pub column_set : (row : R) (v : X) → f row ≡ v → map f (set rows i row) ≡ set (map f rows) i v
  column_set row v e = map-set f rows i row ∙ ap (λ x. set (map f rows) i x) e

  -- the written row has the same value here
  pub column_kept : (d row : R) → i < length rows → f row ≡ f (get_or rows i d) → map f (set rows i row) ≡ map f rows
  column_kept d row h e =
      column_set row (f (get_or rows i d)) e
      ∙ ap (λ x. set (map f rows) i x) (sym (get_or-map f rows i d (f d) h))
      ∙ set-get_or (map f rows) i (f d)

  -- what a row has here, read in the column
  pub column_at : (row : R) (d : X) → i < length rows → row ≡ get_or rows i row → f row ≡ get_or (map f rows) i d
  column_at row d h e = ap f e ∙ sym (get_or-map f rows i row d h)

  -- no row is there
  pub column_past : (v : X) → length rows ≤ i → map f rows ≡ set (map f rows) i v
  column_past v h = sym (set_past (map f rows) i v (simp length-map h))

column_bare : {R X : Type 0} (bare : R → R) (f : R → X) → ((r : R) → f r ≡ f (bare r)) → (rows : List R) → map f rows ≡ map f (map bare rows)
column_bare bare f law [] = refl
column_bare bare f law (r ∷ rows) = ap₂ (λ x xs. x ∷ xs) (law r) (column_bare bare f law rows)

-- a column that tells of a row's rest alone stays while that rest stays
pub column_of_rest : {R X : Type 0} (bare : R → R) (f : R → X) → ((r : R) → f r ≡ f (bare r)) → (old new : List R) → map bare new ≡ map bare old → map f new ≡ map f old
column_of_rest bare f law old new e = column_bare bare f law new ∙ ap (λ rs. map f rs) e ∙ sym (column_bare bare f law old)
