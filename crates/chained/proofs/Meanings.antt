-- Keys of rows that change in their links alone.
use Rattle.std.proofs.Common.{◌≡◌, ℕ, ◌<◌, ◌≤◌, List, ◌∷◌, map, length, get_or, sym, ap, ◌∙◌, ⊎_elim, arith}
use lib.ListN.{length-map}
use Rattle.std.proofs.lemmas.List.{get_or-map, get_or_past}
use Rattle.std.proofs.lemmas.Bool.{cases_eq, cases_lt}
use Rattle.std.proofs.lemmas.Bool.Decides.{nat_tests}
use Rattle.recency.specs.Numbers.{count}
use Rattle.chained.specs.Keys.{NewKey, OneRowAKey}

-- keys do not tell of what the rest of a row leaves out
module _ {R : Type 0} (bare : R → R) (key_of : ℕ → R → List ℕ) (blind : (k : ℕ) (row : R) → key_of k row ≡ key_of k (bare row)) (new old : List R) (rest : map bare new ≡ map bare old) where
  pub key_kept : (k : ℕ) (d : R) → key_of k (get_or new k d) ≡ key_of k (get_or old k d)
  key_kept k d =
      let same : length new ≡ length old = sym (length-map new bare) ∙ ap length rest ∙ length-map old bare in
      ⊎_elim
      (λ (lt : k < length old).
      let e : bare (get_or new k d) ≡ bare (get_or old k d) = sym (get_or-map bare new k d (bare d) (omega arith)) ∙ ap (λ xs. get_or xs k (bare d)) rest ∙ get_or-map bare old k d (bare d) lt in
      blind k (get_or new k d) ∙ ap (λ r. key_of k r) e ∙ sym (blind k (get_or old k d)))
      (λ (past : length old ≤ k). ap (λ r. key_of k r) (get_or_past new k d (omega arith) ∙ sym (get_or_past old k d past)))
      (cases_lt k (length old))

  -- fewer rows, the same keys
  pub one_row_fewer : (ids ids' : List ℕ) → ((k : ℕ) → count k ids' ≡ 1 → count k ids ≡ 1) → OneRowAKey key_of old ids → OneRowAKey key_of new ids'
  one_row_fewer ids ids' fewer one i j d hi hj e = one i j d (fewer i hi) (fewer j hj) (sym (key_kept i d) ∙ e ∙ key_kept j d)

  -- one row more, with a new key
  pub one_row_more : (ids : List ℕ) (i : ℕ) → NewKey key_of old ids i → OneRowAKey key_of old ids → OneRowAKey key_of new (i ∷ ids)
  one_row_more ids i fresh one j k d hj hk e =
      let f = sym (key_kept j d) ∙ e ∙ key_kept k d in
      ⊎_elim
      (λ (ji : j ≡ i).
      ⊎_elim
      (λ (ki : k ≡ i). ji ∙ sym ki)
      (λ (ki : k ≡ i → ⊥). absurd (fresh k d (grind (arith, nat_tests)) (sym f ∙ ap (λ x. key_of x (get_or old x d)) ji)))
      (cases_eq k i))
      (λ (ji : j ≡ i → ⊥).
      ⊎_elim
      (λ (ki : k ≡ i). absurd (fresh j d (grind (arith, nat_tests)) (f ∙ ap (λ x. key_of x (get_or old x d)) ki)))
      (λ (ki : k ≡ i → ⊥). one j k d (grind (arith, nat_tests)) (grind (arith, nat_tests)) f)
      (cases_eq k i))
      (cases_eq j i)
