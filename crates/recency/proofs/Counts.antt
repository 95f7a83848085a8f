-- Counts of row numbers in lists.
use Rattle.std.proofs.Common.{◌≡◌, ℕ, ◌+◌, ◌<◌, ◌≤◌, Bool, true, false, cond, eqb, List, [], ◌∷◌, ◌++◌, sym, refl, ap, ◌∙◌, ap₂, arith}
use Rattle.std.proofs.lemmas.Bool.Decides.{nat_tests}
use Rattle.std.proofs.lemmas.Bool.{eq-eqb, eqb-true}
use Rattle.recency.specs.Numbers.{count, without}
use Rattle.recency.specs.Lists.{first}

pub count_append : (k : ℕ) (xs ys : List ℕ) → count k (xs ++ ys) ≡ count k xs + count k ys
count_append k [] ys = omega arith
count_append k (x ∷ xs) ys = let h = count_append k xs ys in omega arith

-- what is left out is left out whole, and nothing else
pub count_without : (k i : ℕ) (xs : List ℕ) → count k (without i xs) ≡ cond (eqb k i) 0 (count k xs)
count_without k i [] = grind (arith, nat_tests)
count_without k i (x ∷ xs) = let h = count_without k i xs in grind (arith, nat_tests)

-- where k is in no place, nothing is left out
pub without_absent : (k : ℕ) (xs : List ℕ) → count k xs ≡ 0 → without k xs ≡ xs
without_absent k [] e = refl
without_absent k (x ∷ xs) e = go (eqb k x) refl (without_absent k xs (omega arith))
  where
    go : (b : Bool) → eqb k x ≡ b → without k xs ≡ xs → cond b (without k xs) (x ∷ without k xs) ≡ x ∷ xs
    go true h _ = absurd (omega (arith, ap {B = ℕ} (λ b. cond b 1 0) h))
    go false h r = ap (λ ys. x ∷ ys) r

pub once_absent : (k : ℕ) (a b : List ℕ) → count k (a ++ k ∷ b) ≤ 1 → (count k a ≡ 0) × (count k b ≡ 0)
once_absent k a b h = let e = count_append k a (k ∷ b) in (grind (arith, nat_tests), grind (arith, nat_tests))

-- a row number that stands in a list cuts it in two
pub split : (k : ℕ) (xs : List ℕ) → 0 < count k xs → (a : List ℕ) × (b : List ℕ) × (xs ≡ a ++ k ∷ b)
split k [] h = absurd (omega arith)
split k (x ∷ xs) h = go (eqb k x) refl (λ p. split k xs p)
  where
    go : (t : Bool) → eqb k x ≡ t → (0 < count k xs → (a : List ℕ) × (b : List ℕ) × (xs ≡ a ++ k ∷ b)) → (a : List ℕ) × (b : List ℕ) × (x ∷ xs ≡ a ++ k ∷ b)
    go true e _ = ([], xs, ap (λ y. y ∷ xs) (sym (eqb-true k x e)))
    go false e r = let s = r (omega (arith, ap {B = ℕ} (λ t. cond t 1 0) e)) in (x ∷ s.0, s.1, ap (λ ys. x ∷ ys) s.2)

pub without_append : (k : ℕ) (a b : List ℕ) → without k (a ++ b) ≡ without k a ++ without k b
without_append k [] b = refl
without_append k (x ∷ a) b = go (eqb k x) (without_append k a b)
  where
    go : (t : Bool) → without k (a ++ b) ≡ without k a ++ without k b → cond t (without k (a ++ b)) (x ∷ without k (a ++ b)) ≡ cond t (without k a) (x ∷ without k a) ++ without k b
    go true r = r
    go false r = ap (λ ys. x ∷ ys) r

pub without_head : (k : ℕ) (b : List ℕ) → without k (k ∷ b) ≡ without k b
without_head k b = ap (λ t. cond t (without k b) (k ∷ without k b)) (eq-eqb k k refl)

-- what is left of a list where k stood once
pub without_split : (k : ℕ) (a b : List ℕ) → count k (a ++ k ∷ b) ≤ 1 → without k (a ++ k ∷ b) ≡ a ++ b
without_split k a b h =
    let n = once_absent k a b h in
    let l = without_absent k a n.0 in
    let r = without_absent k b n.1 in
    let e = without_append k a (k ∷ b) in
    let f = without_head k b in
    e ∙ ap (λ ys. ys ++ without k (k ∷ b)) l ∙ ap (λ ys. a ++ ys) (f ∙ r)

-- a row that is moved to the front leaves no count changed
pub count_moved : (i : ℕ) (ids : List ℕ) → count i ids ≡ 1 → (k : ℕ) → count k (i ∷ without i ids) ≡ count k ids
count_moved i ids here k = let e = count_without k i ids in grind (arith, nat_tests)

pub count_left_out : (i : ℕ) (ids : List ℕ) → count i (without i ids) ≡ 0
count_left_out i ids = let e = count_without i i ids in grind (arith, nat_tests)

-- what stands at the front already
pub front_stays : (i : ℕ) (ids : List ℕ) (d : ℕ) → first ids d ≡ i → count i ids ≡ 1 → i ∷ without i ids ≡ ids
front_stays i [] d e here = absurd (omega arith)
front_stays i (x ∷ xs) d e here =
    let none_left : count i xs ≡ 0 = grind (arith, nat_tests) in
    let same : without i (x ∷ xs) ≡ xs = ap (λ y. without i (y ∷ xs)) e ∙ without_head i xs ∙ without_absent i xs none_left in
    ap₂ (λ y ys. y ∷ ys) (sym e) same
