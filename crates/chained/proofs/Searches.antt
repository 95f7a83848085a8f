-- A search along a chain: what lies ahead.
use Rattle.std.proofs.Common.{◌≡◌, ℕ, ◌<◌, ◌≤◌, List, [], ◌∷◌, map, length, get_or, sym, refl, ap, ◌∙◌, subst, ⊎_elim, arith}
use native.Mathlib.Bridge.{le_prop}
use mathlib.Core.Logic.{∥∥₁_elim}
use lib.ListN.{length-map}
use Rattle.std.proofs.lemmas.Bool.{cases_eq}
use Rattle.std.proofs.lemmas.Bool.Decides.{nat_tests}
use Rattle.recency.specs.Numbers.{none, count}
use Rattle.recency.proofs.Links.{present_head}
use Rattle.chained.specs.Growth.{slot}
use Rattle.chained.specs.Chains.{Chain, Holds}
use Rattle.chained.proofs.Sound.{Sound}
use Rattle.chained.proofs.Walks.{chain_step, chain_unique, chain_within, steps, steps_less}

-- the rows held that lie ahead of `at` are the only ones of which P is not known
abbrev pub Ahead : List ℕ → List ℕ → (ℕ → Type 0) → ℕ → Type 0
Ahead link ids P at =
    (rest : List ℕ) × Chain link at rest × ((k : ℕ) → count k rest ≤ count k ids) × ((k : ℕ) → count k rest ≡ 0 → 0 < count k ids → P k)

-- a row does not have both the hash and the key that are sought
abbrev pub Unlike : {R : Type 0} → (R → ℕ) → (ℕ → R → List ℕ) → List R → ℕ → List ℕ → ℕ → Type 0
Unlike {R} hash_of key_of rows h key k = (d : R) → hash_of (get_or rows k d) ≡ h → key_of k (get_or rows k d) ≡ key → ⊥

module _ (link ids : List ℕ) {P : ℕ → Type 0} {at : ℕ} (ahead : Ahead link ids P at) where
  -- a row that is met is held
  pub ahead_held : (at ≡ none → ⊥) → 0 < count at ids
  ahead_held ne =
      let s = chain_step link at ahead.0 ne ahead.1 in
      omega (arith, ahead.2 at, ap (λ ys. count at ys) s.1, present_head at s.0)

  pub ahead_within : (at ≡ none → ⊥) → at < length link
  ahead_within ne = (chain_step link at ahead.0 ne ahead.1).2

  -- one step on
  pub ahead_more : (at ≡ none → ⊥) → P at → Ahead link ids P (get_or link at none)
  ahead_more ne passed =
      let s = chain_step link at ahead.0 ne ahead.1 in (
        s.0,
        s.3,
        λ k. omega (arith, ahead.2 k, ap (λ ys. count k ys) s.1),
        λ k gone held.
            ⊎_elim
            (λ (e : k ≡ at). subst P (sym e) passed)
            (λ (d : k ≡ at → ⊥). ahead.3 k (ap (λ ys. count k ys) s.1 ∙ grind (arith, nat_tests)) held)
            (cases_eq k at),
      )

  -- a step makes the walk shorter
  pub ahead_less : (to : ℕ) → length link ≤ none → ((k : ℕ) → count k ids ≤ 1) → (at ≡ none → ⊥) → to ≡ get_or link at none → steps (length link) link to < steps (length link) link at
  ahead_less to few once ne e =
      let s = chain_step link at ahead.0 ne ahead.1 in
      steps_less link link at to s.0 few refl
      (λ k. omega (arith, ahead.2 k, ap (λ ys. count k ys) s.1, once k))
      (subst (λ ys. Chain link at ys) s.1 ahead.1)
      (subst (λ f. Chain link f s.0) (sym e) s.3)

  -- at the end nothing lies ahead
  pub ahead_none : length link ≤ none → at ≡ none → (k : ℕ) → 0 < count k ids → P k
  ahead_none few e k held = ahead.3 k (empty ahead.0 ahead.1) held
    where
      empty : (rest : List ℕ) → Chain link at rest → count k rest ≡ 0
      empty [] ch = refl
      empty (x ∷ rest) ch = absurd (omega (arith, ch.0, ch.1, few, e))

-- at the start of the chain of a hash, what has another hash is passed
pub ahead_start : {size : ℕ × ℕ} {heads link hash ids : List ℕ} (P : ℕ → Type 0) (h at : ℕ) → Holds size heads link hash ids → at ≡ get_or heads (slot size h) none → ((k : ℕ) → 0 < count k ids → (get_or hash k 0 ≡ h → ⊥) → P k) → Ahead link ids P at
ahead_start {size} {heads} {link} {hash} {ids} P h at holds e other =
    let c = holds.slots (slot size h) in (
      c.0,
      subst (λ f. Chain link f c.0) (sym e) c.1,
      λ k. let q = c.2 k in grind (arith, nat_tests),
      λ k gone held. other k held (λ same. let q = c.2 k in let r = ap (λ x. slot size x) same in grind (arith, nat_tests)),
    )

-- the rows held are among the rows
pub held_within : {size : ℕ × ℕ} {heads link hash ids : List ℕ} → Holds size heads link hash ids → (k : ℕ) → 0 < count k ids → k < length link
held_within {size} {heads} {link} {hash} holds k held =
    let c = holds.slots (slot size (get_or hash k 0)) in
    chain_within link (get_or heads (slot size (get_or hash k 0)) none) c.0 k c.1 (let q = c.2 k in grind (arith, nat_tests))

-- a table holds one set of rows
pub held_same : (size : ℕ × ℕ) (heads link hash ids ids' : List ℕ) → Holds size heads link hash ids → Holds size heads link hash ids' → (k : ℕ) → count k ids ≡ count k ids'
held_same size heads link hash ids ids' h h' k =
    let t = slot size (get_or hash k 0) in
    let c = h.slots t in
    let c' = h'.slots t in
    let e = ap (λ ys. count k ys) (chain_unique link (get_or heads t none) c.0 c'.0 h.few c.1 c'.1) in
    let q = c.2 k in
    let q' = c'.2 k in
    grind (arith, nat_tests)

-- the same, where the table is only known to be sound
module _ {size : ℕ × ℕ} {heads link hash : List ℕ} {P : ℕ → Type 0} {at : ℕ} (sound : Sound size heads link hash) (ahead : (ids : List ℕ) → Holds size heads link hash ids → Ahead link ids P at) (ne : at ≡ none → ⊥) where
  pub met_within : at < length link
  met_within = ∥∥₁_elim sound le_prop (λ s. ahead_within link s.0 (ahead s.0 s.1) ne)

  pub met_less : (to : ℕ) → to ≡ get_or link at none → steps (length link) link to < steps (length link) link at
  met_less to e = ∥∥₁_elim sound le_prop (λ s. ahead_less link s.0 (ahead s.0 s.1) to s.1.few s.1.once ne e)

-- the row that is met is one of the rows
pub met_row : {R : Type 0} {size : ℕ × ℕ} {heads hash : List ℕ} {P : ℕ → Type 0} {at : ℕ} (link_of : R → ℕ) (rows : List R) → Sound size heads (map link_of rows) hash → ((ids : List ℕ) → Holds size heads (map link_of rows) hash ids → Ahead (map link_of rows) ids P at) → (at ≡ none → ⊥) → at < length rows
met_row link_of rows sound ahead ne = omega (arith, met_within sound ahead ne, length-map rows link_of)

-- a search for the row that names i, in a chain that has i
module _ (link : List ℕ) (first i : ℕ) where
  -- i is still ahead
  abbrev pub Toward : ℕ → Type 0
  Toward at = (chain : List ℕ) → Chain link first chain → ((k : ℕ) → count k chain ≤ 1) → count i chain ≡ 1 → Ahead link chain (λ k. k ≡ i → ⊥) at

  abbrev pub Lies : Type 0
  Lies = ∥ ((chain : List ℕ) × Chain link first chain × ((k : ℕ) → count k chain ≤ 1) × (count i chain ≡ 1)) ∥₁

  pub toward_start : Toward first
  toward_start chain ch once here = (chain, ch, λ k. omega arith, λ k gone held. absurd (omega arith))

  module _ (few : length link ≤ none) (at : ℕ) (toward : Toward at) where
    some : (chain : List ℕ) → Chain link first chain → ((k : ℕ) → count k chain ≤ 1) → count i chain ≡ 1 → at ≡ none → ⊥
    some chain ch once here e = ahead_none link chain (toward chain ch once here) few e i (omega arith) refl

    pub toward_among : (chain : List ℕ) → Chain link first chain → ((k : ℕ) → count k chain ≤ 1) → count i chain ≡ 1 → count at chain ≡ 1
    toward_among chain ch once here =
        omega (arith, once at, ahead_held link chain (toward chain ch once here) (some chain ch once here))

    pub toward_more : (at ≡ i → ⊥) → Toward (get_or link at none)
    toward_more ne chain ch once here = ahead_more link chain (toward chain ch once here) (some chain ch once here) ne

    pub toward_within : Lies → at < length link
    toward_within lies =
        ∥∥₁_elim lies le_prop (λ s. ahead_within link s.0 (toward s.0 s.1 s.2 s.3) (some s.0 s.1 s.2 s.3))

    pub toward_less : Lies → (to : ℕ) → to ≡ get_or link at none → steps (length link) link to < steps (length link) link at
    toward_less lies to e =
        ∥∥₁_elim lies le_prop (λ s. ahead_less link s.0 (toward s.0 s.1 s.2 s.3) to few s.2 (some s.0 s.1 s.2 s.3) e)
