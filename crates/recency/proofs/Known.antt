-- What a list that is known to be sound, and no more, tells of its rows; and lists under equations of their parts.
use Rattle.std.proofs.Common.{◌≡◌, ℕ, ◌<◌, ◌≤◌, cond, eqb, List, [], ◌∷◌, ◌++◌, map, length, get_or, Some, None, sym, ap, ◌∙◌, arith}
use native.Mathlib.Bridge.{le_prop}
use mathlib.Core.Logic.{∥∥₁_elim}
use lib.ListN.{length-map}
use Rattle.std.proofs.lemmas.List.{get_or-map}
use Rattle.std.proofs.lemmas.Bool.{cond-false, ne_eqb}
use Rattle.recency.specs.Numbers.{none, count}
use Rattle.recency.specs.Lists.{first, last, Nexts, Listed, foremost, rearmost}
use Rattle.recency.proofs.Counts.{count_append}
use Rattle.recency.proofs.Links.{last_in, nexts_unique}
use Rattle.recency.proofs.Steps.{near_within, in_range, spot}

pub few_of : {P : List ℕ → Type 0} (front back : ℕ) (next prev : List ℕ) → ∥ ((ids : List ℕ) × Listed front back next prev ids × P ids) ∥₁ → length next ≤ none
few_of front back next prev t = ∥∥₁_elim t le_prop (λ s. s.1.few)

pub front_within : {P : List ℕ → Type 0} (front back : ℕ) (next prev : List ℕ) → ∥ ((ids : List ℕ) × Listed front back next prev ids × P ids) ∥₁ → (front ≡ none → ⊥) → front < length next
front_within front back next prev t ne = ∥∥₁_elim t le_prop (λ s. first_in_range front next s.0 s.1.front_is s.1.nexts ne)
  where
    first_in_range : (front : ℕ) (next ids : List ℕ) → front ≡ first ids none → Nexts next ids none → (front ≡ none → ⊥) → front < length next
    first_in_range front next [] e n ne = absurd (ne e)
    first_in_range front next (x ∷ ids) e n ne = let l = n.0 in omega arith

-- the neighbours of a row of the list
module _ (front back : ℕ) (next prev : List ℕ) (i p n : ℕ) (same : length prev ≡ length next) (pe : p ≡ get_or prev i none) (ne : n ≡ get_or next i none) (t : ∥ ((ids : List ℕ) × Listed front back next prev ids × (count i ids ≡ 1)) ∥₁) where
  pub p_within : (p ≡ none → ⊥) → p < length next
  p_within h = ∥∥₁_elim t le_prop (λ s. near_within next s.0 none p s.1.nexts (spot front back next prev s.0 i p n same s.1 s.2 pe ne).p_near h)

  pub n_within : (n ≡ none → ⊥) → n < length next
  n_within h = ∥∥₁_elim t le_prop (λ s. near_within next s.0 none n s.1.nexts (spot front back next prev s.0 i p n same s.1 s.2 pe ne).n_near h)

pub listed_as : {front front' back back' : ℕ} {next next' prev prev' : List ℕ} (ids : List ℕ) → front' ≡ front → back' ≡ back → next' ≡ next → prev' ≡ prev → Listed front back next prev ids → Listed front' back' next' prev' ids
listed_as ids ef eb en ep l = rw (ef, eb, en, ep) l

-- a row's link, as its column has it
pub link_is : {R : Type 0} (f : R → ℕ) (rows : List R) (i r : ℕ) (d : R) → i < length rows → r ≡ f (get_or rows i d) → r ≡ get_or (map f rows) i none
link_is f rows i r d lt e = e ∙ sym (get_or-map f rows i d none lt)

-- columns of the same rows are equally long
pub columns_even : {R : Type 0} (f g : R → ℕ) (rows : List R) → length (map f rows) ≡ length (map g rows)
columns_even f g rows = length-map rows f ∙ sym (length-map rows g)

-- what stands at a number, where it is a row or none
shown : (k : ℕ) → k < none → cond (eqb k none) None (Some k) ≡ Some k
shown k lt = cond-false (eqb k none) None (Some k) (ne_eqb k none (λ e. omega arith))

pub shown_rear : (back : ℕ) (next a b : List ℕ) (z : ℕ) → length next ≤ none → Nexts next (a ++ b) z → back ≡ last a none → cond (eqb back none) None (Some back) ≡ rearmost a
shown_rear back next [] b z few n e = ap (λ k. cond (eqb k none) None (Some k)) e
shown_rear back next (x ∷ a) b z few n e =
    let s = count_append (last a x) (x ∷ a) b in
    let h = last_in a x in
    let r = in_range next (x ∷ a ++ b) z (last a x) n (omega arith) in
    ap (λ k. cond (eqb k none) None (Some k)) e ∙ shown (last a x) (omega arith)

pub shown_front : (front : ℕ) (next b : List ℕ) (z : ℕ) → length next ≤ none → Nexts next b z → front ≡ first b none → cond (eqb front none) None (Some front) ≡ foremost b
shown_front front next [] z few n e = ap (λ k. cond (eqb k none) None (Some k)) e
shown_front front next (x ∷ b) z few n e = ap (λ k. cond (eqb k none) None (Some k)) e ∙ shown x (omega (arith, n.0))

-- a list reads in one way
pub listed_unique : (front back : ℕ) (next prev ids ids' : List ℕ) → Listed front back next prev ids → Listed front back next prev ids' → ids ≡ ids'
listed_unique front back next prev ids ids' l m = nexts_unique next ids ids' l.few (sym l.front_is ∙ m.front_is) l.nexts m.nexts
