use Rattle.std.proofs.Common.{◌≡◌, ℕ, ◌+◌, ◌*◌, ◌/◌, ◌<◌, ◌≤◌, cond, eqb, get_or, take, ap, ⊎_elim, arith}
use native.Mathlib.Bridge.{le_prop}
use mathlib.Core.Logic.{∥∥₁_elim}
use Rattle.std.proofs.lemmas.Bool.{cases_lt}
use Rattle.std.proofs.lemmas.Bool.Decides.{nat_tests}
use Rattle.recency.specs.Numbers.{count}
use Rattle.slabs.specs.Lists.{free_of, granted_of, held_of}
use Rattle.slabs.specs.Layouts.{class_at, start, size_at}
use Rattle.slabs.specs.Slabs.{homes_of, layout}
use Rattle.slabs.specs.Laws.{Inside, Stands, Shares}
use Rattle.slabs.proofs.Ends.{lie_apart}
use Rattle.slabs.proofs.laws.laws_stand.Goals as goal

inside : Inside
inside s t i chunk =
    let page : start (layout s) i + size_at (layout s) i ≤ i / 85 * 4096 + 4096 = ∥∥₁_elim t le_prop (λ z. let h = z.placed.inside (class_at (layout s) i) _ chunk in omega arith) in
    let few : i / 85 < s.pages =
    ∥∥₁_elim t le_prop (λ z.
    ⊎_elim (λ lt. lt)
    (λ (past : s.pages ≤ i / 85).
    absurd (let o = z.placed.unowned (i / 85) (let g = z.placed.in_order in omega arith) in let e = ap (λ k. get_or (layout s).chunks k 0) o in let n = z.placed.none in omega arith))
    (cases_lt (i / 85) s.pages)) in
    (omega arith, page, omega arith)

stands : Stands
stands s t ls f i chunk =
    let c = class_at (layout s) i in
    let home = get_or (homes_of s) i 0 in
    let low : 3 * c < home = ∥∥₁_elim t le_prop (λ z. (z.placed.listed i chunk).low) in
    let high : home ≤ 3 * c + 3 = ∥∥₁_elim t le_prop (λ z. (z.placed.listed i chunk).high) in
    let x = f.named (free_of c) i (omega arith) in
    let y = f.named (granted_of c) i (omega arith) in
    let w = f.named (held_of c) i (omega arith) in (
      grind (arith, nat_tests),
      λ h some other. let n = f.named h i some in absent_of h home (count i (ls h)) n (λ e. other (record { low = omega arith; high = omega arith })),
    )
  where
    absent_of : (h home k : ℕ) → k ≡ cond (eqb home h) 1 0 → (home ≡ h → ⊥) → k ≡ 0
    absent_of h home k e ne = grind (arith, nat_tests)

shares : Shares
shares s t class some =
    let up : get_or (layout s).shares class 0 ≤ count class (take s.given s.owners) = ∥∥₁_elim t le_prop (λ z. let e = z.placed.shared class some in omega arith) in
    let down : count class (take s.given s.owners) ≤ get_or (layout s).shares class 0 = ∥∥₁_elim t le_prop (λ z. let e = z.placed.shared class some in omega arith) in
    omega arith

pub returns : goal.returns
returns c = record { apart = lie_apart; inside = inside; stands = stands; shares = shares }
