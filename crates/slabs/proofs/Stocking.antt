-- Rows that enter a list one after the other.
use Rattle.std.proofs.Common.{◌≡◌, ℕ, zero, suc, ◌+◌, ◌<◌, ◌≤◌, Bool, true, false, cond, eqb, List, map, length, get_or, set, refl, ap, ◌∙◌, ⊎_elim, arith, length-set}
use Rattle.std.proofs.lemmas.List.{get_or-set_same, get_or-set_other}
use Rattle.std.proofs.lemmas.Bool.{cases_eq}
use Rattle.slabs.specs.declared.row.Row.{Row}
use Rattle.slabs.specs.declared.class.Class.{Class}
use Rattle.slabs.specs.Rows.{homes, rests}
use Rattle.slabs.specs.Classes.{frame}
use Rattle.slabs.specs.Lists.{Family, stocked, filled}
use Rattle.slabs.proofs.Placing.{length_into}

-- n rows, from the row `first` on, entered list h
pub record Stocked (classes classes' : List Class) (rows rows' : List Row) (first n h : ℕ) : Type 0 where
  pub lists : (ls : ℕ → List ℕ) → Family classes rows ls → Family classes' rows' (stocked first n h ls)
  pub homes : homes rows' ≡ filled first n h (homes rows)
  pub same_rests : rests rows' ≡ rests rows
  pub same_frames : map frame classes' ≡ map frame classes

pub filled_long : (first n h : ℕ) (homes : List ℕ) → length (filled first n h homes) ≡ length homes
filled_long first zero h homes = refl
filled_long first (suc n) h homes = length-set (filled first n h homes) (first + n) h ∙ filled_long first n h homes

-- the rows outside are in the lists that they were in
pub filled_below : (first n h : ℕ) (homes : List ℕ) (j : ℕ) → j < first → get_or (filled first n h homes) j 0 ≡ get_or homes j 0
filled_below first zero h homes j lt = refl
filled_below first (suc n) h homes j lt = get_or-set_other (filled first n h homes) (first + n) j h 0 (λ e. omega arith) ∙ filled_below first n h homes j lt

pub filled_above : (first n h : ℕ) (homes : List ℕ) (j : ℕ) → first + n ≤ j → get_or (filled first n h homes) j 0 ≡ get_or homes j 0
filled_above first zero h homes j le = refl
filled_above first (suc n) h homes j le = get_or-set_other (filled first n h homes) (first + n) j h 0 (λ e. omega arith) ∙ filled_above first n h homes j (omega arith)

pub filled_there : (first n h : ℕ) (homes : List ℕ) (j : ℕ) → first + n ≤ length homes → first ≤ j → j < first + n → get_or (filled first n h homes) j 0 ≡ h
filled_there first zero h homes j long le lt = absurd (omega arith)
filled_there first (suc n) h homes j long le lt =
    ⊎_elim
    (λ (e : j ≡ first + n). ap (λ k. get_or (set (filled first n h homes) (first + n) h) k 0) e ∙ get_or-set_same (filled first n h homes) (first + n) h 0 (omega (arith, filled_long first n h homes)))
    (λ off. get_or-set_other (filled first n h homes) (first + n) j h 0 off ∙ filled_there first n h homes j (omega arith) le (omega arith))
    (cases_eq j (first + n))

more : (b : Bool) (n : ℕ) → cond b 1 0 + cond b n 0 ≡ cond b (suc n) 0
more true n = omega arith
more false n = omega arith

pub stocked_long : (first n h : ℕ) (ls : ℕ → List ℕ) (g : ℕ) → length (stocked first n h ls g) ≡ length (ls g) + cond (eqb g h) n 0
stocked_long first zero h ls g = none (eqb g h)
  where
    none : (b : Bool) → length (ls g) ≡ length (ls g) + cond b 0 0
    none true = omega arith
    none false = omega arith
stocked_long first (suc n) h ls g =
    let a = length_into (eqb g h) (first + n) (stocked first n h ls g) in
    let b = stocked_long first n h ls g in
    let c = more (eqb g h) n in
    omega arith
