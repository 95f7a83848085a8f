-- What a lawful plan gives the table: every class has at least one chunk a page. Assumes nothing.
use Rattle.std.proofs.Common.{◌≡◌, ℕ, zero, suc, ◌-◌, ◌*◌, ◌/◌, ◌<◌, ◌≤◌, Bool, true, false, cond, leb, List, [], ◌∷◌, length, get_or, Some, None, Option, refl, ap, mod-lt, div-add-mod', arith}
use Rattle.plan.specs.Sizes.{Follows, ends, goes, sizes_of}
use Rattle.plan.specs.Classes.{size_at, chunks_of, class_of, one_more}
use Rattle.plan.proofs.Rule.{lawful_follows, least_size, lawful_start}
use Rattle.model.specs.Setup.{Setup}
use Rattle.model.specs.Records.{Key, class_for}
use Rattle.model.specs.Promises.{Planned}
use Rattle.model.proofs.Sound.{Numbered}

-- no size passes a page
at_most : {percent size : ℕ} {sizes : List ℕ} → size ≤ 2048 → Follows percent size sizes → (k : ℕ) → k < length sizes → get_or sizes k 0 ≤ 4096
at_most low (ends h) zero lt = omega arith
at_most low (ends h) (suc zero) lt = omega arith
at_most low (ends h) (suc (suc k)) lt = absurd (omega arith)
at_most low (goes h more) zero lt = omega arith
at_most low (goes h more) (suc k) lt = at_most h more k (omega arith)

one_at_least : (size : ℕ) → 0 < size → size ≤ 4096 → 1 ≤ 4096 / size
one_at_least size pos most = by (4096 / size) refl
  where
    by : (q : ℕ) → 4096 / size ≡ q → 1 ≤ q
    by zero e = let d = div-add-mod' 4096 size in let m = mod-lt 4096 pos in let z : 4096 / size * size ≡ 0 = rw e (omega arith) in absurd (omega arith)
    by (suc q) e = omega arith

pub chunk_each : (setup : Setup) → Planned setup → (class : ℕ) → Numbered setup class → 1 ≤ chunks_of (size_at setup.sizes class)
chunk_each setup plan class num =
    let s = lawful_start plan.begin plan.percent plan.lawfully in
    let e = ap length plan.sizes in
    let low = num.low in
    let high = num.high in
    let lt : class - 1 < length (sizes_of plan.begin plan.percent) = omega arith in
    let least = least_size plan.begin plan.percent plan.lawfully (class - 1) lt in
    let most = at_most (omega arith) (lawful_follows plan.begin plan.percent plan.lawfully) (class - 1) lt in
    let is = ap (λ l. get_or l (class - 1) 0) plan.sizes in
    one_at_least (size_at setup.sizes class) (omega arith) (omega arith)

-- the class of a need is one of the plan's
class_range : (need : ℕ) (sizes : List ℕ) (c : ℕ) → class_of need sizes ≡ Some c → (1 ≤ c) × (c ≤ length sizes)
class_range need [] c e = let z : ◌≡◌ {A = ℕ} 0 1 = cc in absurd (omega arith)
class_range need (s ∷ ss) c e = by (leb need s) (class_of need ss) (class_range need ss) refl e
  where
    by : (b : Bool) (o : Option ℕ) → ((k : ℕ) → class_of need ss ≡ Some k → (1 ≤ k) × (k ≤ length ss)) → class_of need ss ≡ o → cond b (Some 1) (one_more o) ≡ Some c → (1 ≤ c) × (c ≤ suc (length ss))
    by true o rec h e = let one : ◌≡◌ {A = ℕ} 1 c = cc in (omega arith, omega arith)
    by false None rec h e = let z : ◌≡◌ {A = ℕ} 0 1 = cc in absurd (omega arith)
    by false (Some k) rec h e =
        let more : suc k ≡ c = cc in let r = rec k h in (omega arith, omega (arith, r.1))

pub numbered_class : (setup : Setup) (key : Key) (block : List ℕ) (c : ℕ) → class_for setup key block ≡ Some c → Numbered setup c
numbered_class setup key block c e = let r = class_range _ setup.sizes c e in record { low = r.0; high = r.1 }
