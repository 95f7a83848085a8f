-- What adding a kind of record does to the totals. Assumes nothing.
use Rattle.std.proofs.Common.{◌≡◌, ℕ, ◌+◌, ◌-◌, ◌*◌, ◌<◌, ◌≤◌, Bool, true, false, cond, eqb, ◌≢◌, List, ◌∷◌, length, get_or, set, Some, refl, ap, ◌∙◌, mul-le-mul_right, arith, get_or-set_other, get_or-set_same, map}
use Rattle.std.proofs.lemmas.List.{get_or-map, map-set, length-map}
use Rattle.std.proofs.lemmas.Bool.{eqb-true, eqb-false}
use Rattle.plan.specs.Classes.{class_of}
use Rattle.sizing.specs.declared.kind.Kind.{Kind}
use Rattle.sizing.specs.declared.tally.Sum.{Sum}
use Rattle.sizing.specs.Totals.{kind_need, is_class, total_in}

added_at : (total amount class i new : ℕ) (xs : List ℕ) (b : Bool) → new ≡ get_or xs (class - 1) 0 + amount → eqb class (i + 1) ≡ b → 1 ≤ class → class - 1 < length xs → get_or xs i 0 ≡ total → get_or (set xs (class - 1) new) i 0 ≡ cond b amount 0 + total
added_at total amount class i new xs true sum e low lt h =
    let same : class ≡ i + 1 = eqb-true class (i + 1) e in
    let here : class - 1 ≡ i = omega arith in
    let inside : i < length xs = omega arith in
    let old : get_or xs (class - 1) 0 ≡ total = ap (λ k. get_or xs k 0) here ∙ h in
    rw (here, get_or-set_same) (omega arith)
added_at total amount class i new xs false sum e low lt h =
    let other : class ≢ i + 1 = eqb-false class (i + 1) e in
    let ne : i ≢ class - 1 = λ same. other (omega arith) in
    rw get_or-set_other (omega arith)

-- what one of the sums of all classes has
pub one_of : (part : Sum → ℕ) (sums : List Sum) (i : ℕ) (sum : Sum) → i < length sums → get_or (map part sums) i 0 ≡ part (get_or sums i sum)
one_of part sums i sum inside = get_or-map part sums i sum 0 inside

-- one kind more: what it adds goes to its class, and the other classes stay
pub added : (amount : Kind → ℕ) (part : Sum → ℕ) (sizes : List ℕ) (kind : Kind) (kinds : List Kind) (class : ℕ) (old new : Sum) (sums : List Sum) → Some class ≡ class_of (kind_need kind) sizes → part new ≡ part (get_or sums (class - 1) old) + amount kind → 1 ≤ class → class - 1 < length sums → ((i : ℕ) → i < 32 → get_or (map part sums) i 0 ≡ total_in amount sizes (i + 1) kinds) → (i : ℕ) → i < 32 → get_or (map part (set sums (class - 1) new)) i 0 ≡ total_in amount sizes (i + 1) (kind ∷ kinds)
added amount part sizes kind kinds class old new sums is sum low lt before i few =
    let here = one_of part sums (class - 1) old lt in
    ap (λ xs. get_or xs i 0) (map-set part sums (class - 1) new)
    ∙ added_at _ (amount kind) class i (part new) (map part sums) _ (omega arith) refl low (rw length-map lt) (before i few)
    ∙ ap (λ o. cond (is_class o (i + 1)) (amount kind) 0 + total_in amount sizes (i + 1) kinds) is

-- records of at most a page
pub product : (need count : ℕ) → need ≤ 4096 → need * count ≤ 4096 * count
product need count small = mul-le-mul_right count small
