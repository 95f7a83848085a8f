-- What every class of a plan is. Assumes nothing.
use Rattle.std.proofs.Common.{◌≡◌, ℕ, zero, suc, ◌+◌, ◌-◌, ◌*◌, ◌<◌, ◌≤◌, Bool, true, false, leb, length, refl, arith}
use Rattle.std.proofs.lemmas.Bool.{leb-true, leb-false}
use Rattle.plan.specs.declared.plan.Plan.{Plan}
use Rattle.plan.specs.Classes.{size_at, chunks_of}
use Rattle.plan.specs.Plans.{plan_sizes}
use Rattle.plan.proofs.Made.{listed}
use Rattle.plan.proofs.Ask.{tiles, at_least}

-- a plan's class: there are at most 32, and its chunks are no larger than a page
pub record Fair (plan : Plan) (class : ℕ) : Type 0 where
  pub few : class ≤ 32
  pub small : size_at (plan_sizes plan) class ≤ 4096
  pub some : 0 < chunks_of (size_at (plan_sizes plan) class)

some_chunk : (size count : ℕ) → size ≤ 4096 → 4096 < count * size + size → 0 < count
some_chunk size zero small full = absurd (omega arith)
some_chunk size (suc count) small full = omega arith

small_at : (plan : Plan) (class : ℕ) (before : Bool) → leb (class + 1) (length (plan_sizes plan)) ≡ before → 1 ≤ class → class ≤ length (plan_sizes plan) → size_at (plan_sizes plan) class ≤ 4096
small_at plan class true e low high =
    let is = listed plan in
    let lt = leb-true _ _ e in
    let less = is.rising (class - 1) (length (plan_sizes plan) - 1) (omega arith) (omega arith) in
    omega (arith, is.last)
small_at plan class false e low high =
    let is = listed plan in
    let last = leb-false _ _ e in
    let same : class - 1 ≡ length (plan_sizes plan) - 1 = omega arith in
    rw same (omega (arith, is.last))

pub fair : (plan : Plan) (class : ℕ) → 1 ≤ class → class ≤ length (plan_sizes plan) → Fair plan class
fair plan class low high =
    let is = listed plan in
    let few : length (plan_sizes plan) ≤ 32 = is.few in
    let small = small_at plan class _ refl low high in
    let pos = at_least plan class low high in
    let full = (tiles (size_at (plan_sizes plan) class) pos).full in
    record { few = omega arith; small = small; some = some_chunk _ _ small full }
