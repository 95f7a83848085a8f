-- Walks along a chain: what a write leaves, and how long one can be.
use Rattle.std.proofs.Common.{◌≡◌, ℕ, zero, suc, ◌+◌, ◌<◌, ◌≤◌, cond, eqb, ltb, List, [], ◌∷◌, length, get_or, set, sym, refl, ap, ◌∙◌, subst, ⊎_elim, arith, length-set}
use Rattle.std.proofs.lemmas.List.{get_or-set_same, get_or-set_other}
use Rattle.std.proofs.lemmas.Bool.{cases_eq, eq-eqb, ne_eqb}
use Rattle.std.proofs.lemmas.Bool.Decides.{nat_tests}
use Rattle.recency.specs.Numbers.{none, count, without}
use Rattle.recency.proofs.Counts.{without_absent, without_head}
use Rattle.recency.proofs.Links.{absent_head, present_head}
use Rattle.chained.specs.Chains.{Chain}

-- a write outside a chain leaves it
pub chain_set : (link : List ℕ) (from : ℕ) (ids : List ℕ) (i v : ℕ) → count i ids ≡ 0 → Chain link from ids → Chain (set link i v) from ids
chain_set link from [] i v out ch = ch
chain_set link from (x ∷ ids) i v out ch =
    let a = absent_head i x ids out in (
      ch.0,
      simp length-set ch.1,
      chain_set link (get_or (set link i v) x none) ids i v a.1 (subst (λ f. Chain link f ids) (sym (get_or-set_other link i x v none a.0)) ch.2),
    )

pub chain_from : (link : List ℕ) (from to : ℕ) (ids : List ℕ) → from ≡ to → Chain link from ids → Chain link to ids
chain_from link from to ids e ch = subst (λ f. Chain link f ids) e ch

-- the rows of a chain are among the rows
pub chain_within : (link : List ℕ) (from : ℕ) (ids : List ℕ) (k : ℕ) → Chain link from ids → 0 < count k ids → k < length link
chain_within link from [] k ch h = absurd (omega arith)
chain_within link from (x ∷ ids) k ch h =
    ⊎_elim
    (λ e. omega (arith, ch.1, e))
    (λ ne. chain_within link (get_or link x none) ids k ch.2 (omega (arith, h, ap {B = ℕ} (λ t. cond t 1 0) (ne_eqb k x ne))))
    (cases_eq k x)

-- a chain that begins at a row begins with it
pub chain_step : (link : List ℕ) (from : ℕ) (ids : List ℕ) → (from ≡ none → ⊥) → Chain link from ids → (rest : List ℕ) × (ids ≡ from ∷ rest) × (from < length link) × Chain link (get_or link from none) rest
chain_step link from [] ne ch = absurd (ne ch)
chain_step link from (x ∷ ids) ne ch = (
  ids,
  ap (λ y. y ∷ ids) (sym ch.0),
  subst (λ y. y < length link) (sym ch.0) ch.1,
  subst (λ y. Chain link (get_or link y none) ids) (sym ch.0) ch.2,
)

-- two chains from one number are one
pub chain_unique : (link : List ℕ) (from : ℕ) (ids ids' : List ℕ) → length link ≤ none → Chain link from ids → Chain link from ids' → ids ≡ ids'
chain_unique link from [] [] few ch ch' = refl
chain_unique link from [] (y ∷ ids') few ch ch' = absurd (omega (arith, ch, ch'.0, ch'.1, few))
chain_unique link from (x ∷ ids) [] few ch ch' = absurd (omega (arith, ch', ch.0, ch.1, few))
chain_unique link from (x ∷ ids) (y ∷ ids') few ch ch' =
    let e : x ≡ y = sym ch.0 ∙ ch'.0 in
    ap (λ z. z ∷ ids) e ∙ ap (λ zs. y ∷ zs) (chain_unique link (get_or link y none) ids ids' few (subst (λ z. Chain link (get_or link z none) ids) e ch.2) ch'.2)

-- how many rows a walk meets, if it stops after so many
abbrev pub steps : ℕ → List ℕ → ℕ → ℕ
steps zero link from = 0
steps (suc fuel) link from = cond (eqb from none) 0 (suc (steps fuel link (get_or link from none)))

pub steps_chain : (fuel : ℕ) (link : List ℕ) (from : ℕ) (ids : List ℕ) → length link ≤ none → Chain link from ids → length ids ≤ fuel → steps fuel link from ≡ length ids
steps_chain zero link from [] few ch short = refl
steps_chain zero link from (x ∷ ids) few ch short = absurd (omega arith)
steps_chain (suc fuel) link from [] few ch short = ap (λ t. cond t 0 (suc (steps fuel link (get_or link from none)))) (eq-eqb from none ch)
steps_chain (suc fuel) link from (x ∷ ids) few ch short =
    let r = steps_chain fuel link (get_or link x none) ids few ch.2 (omega arith) in
    let s : steps fuel link (get_or link from none) ≡ length ids = ap (λ y. steps fuel link (get_or link y none)) ch.0 ∙ r in
    ap (λ t. cond t 0 (suc (steps fuel link (get_or link from none)))) (ne_eqb from none (λ e. omega (arith, ch.0, ch.1, few, e))) ∙ ap suc s

-- how many row numbers below n a list has
tally : ℕ → List ℕ → ℕ
tally zero ids = 0
tally (suc n) ids = count n ids + tally n ids

tally_nil : (n : ℕ) → tally n [] ≡ 0
unfolding tally
tally_nil zero = refl
tally_nil (suc n) = let h = tally_nil n in omega arith

tally_cons : (n x : ℕ) (ids : List ℕ) → tally n (x ∷ ids) ≡ cond (ltb x n) 1 0 + tally n ids
unfolding tally
tally_cons zero x ids = grind (arith, nat_tests)
tally_cons (suc n) x ids = let h = tally_cons n x ids in grind (arith, nat_tests)

tally_once : (n : ℕ) (ids : List ℕ) → ((k : ℕ) → count k ids ≤ 1) → tally n ids ≤ n
unfolding tally
tally_once zero ids once = omega arith
tally_once (suc n) ids once = let h = tally_once n ids once in omega (arith, once n)

tally_chain : (link : List ℕ) (from : ℕ) (ids : List ℕ) → Chain link from ids → tally (length link) ids ≡ length ids
tally_chain link from [] ch = tally_nil (length link)
tally_chain link from (x ∷ ids) ch =
    let h = tally_chain link (get_or link x none) ids ch.2 in
    let e = tally_cons (length link) x ids in
    let l = ch.1 in
    grind (arith, nat_tests)

-- a chain with no row twice is no longer than there are rows
pub chain_short : (link : List ℕ) (from : ℕ) (ids : List ℕ) → Chain link from ids → ((k : ℕ) → count k ids ≤ 1) → length ids ≤ length link
chain_short link from ids ch once = omega (arith, tally_chain link from ids ch, tally_once (length link) ids once)

-- the walk gets shorter by a step
pub steps_less : (link link' : List ℕ) (from to : ℕ) (ids : List ℕ) → length link ≤ none → length link' ≡ length link → ((k : ℕ) → count k (from ∷ ids) ≤ 1) → Chain link from (from ∷ ids) → Chain link' to ids → steps (length link') link' to < steps (length link) link from
steps_less link link' from to ids few same once ch ch' =
    let s = steps_chain (length link) link from (from ∷ ids) few ch (chain_short link from (from ∷ ids) ch once) in
    let once' : (k : ℕ) → count k ids ≤ 1 = λ k. omega (arith, once k) in
    let t = steps_chain (length link') link' to ids (omega arith) ch' (chain_short link' to ids ch' once') in
    omega arith

-- the row that another one names comes behind it
chain_follow : (link : List ℕ) (from : ℕ) (ids : List ℕ) (p i : ℕ) → Chain link from ids → 0 < count p ids → get_or link p none ≡ i → (i ≡ none → ⊥) → 0 < count i ids
chain_follow link from [] p i ch here e ne = absurd (omega arith)
chain_follow link from (x ∷ ids) p i ch here e ne =
    ⊎_elim
    (λ (px : p ≡ x).
    let s = chain_step link i ids ne (chain_from link (get_or link x none) i ids (ap (λ y. get_or link y none) (sym px) ∙ e) ch.2) in
    let h = present_head i s.0 in
    let q = ap (λ ys. count i ys) s.1 in
    omega arith)
    (λ (px : p ≡ x → ⊥).
    let n = chain_follow link (get_or link x none) ids p i ch.2 (omega (arith, here, ap {B = ℕ} (λ t. cond t 1 0) (ne_eqb p x px))) e ne in
    omega arith)
    (cases_eq p x)

without_other : (i x : ℕ) (ids : List ℕ) → (i ≡ x → ⊥) → without i (x ∷ ids) ≡ x ∷ without i ids
without_other i x ids ne = ap (λ t. cond t (without i ids) (x ∷ without i ids)) (ne_eqb i x ne)

-- a chain without i, where the row that named i now names the one behind i
pub chain_drop : (link : List ℕ) (from : ℕ) (ids : List ℕ) (p i : ℕ) → Chain link from ids → ((k : ℕ) → count k ids ≤ 1) → 0 < count p ids → p < length link → get_or link p none ≡ i → (i ≡ none → ⊥) → Chain (set link p (get_or link i none)) from (without i ids)
chain_drop link from [] p i ch once here lt e ne = absurd (omega arith)
chain_drop link from (x ∷ ids) p i ch once here lt e ne =
    ⊎_elim
    (λ (px : p ≡ x).
    let s = chain_step link i ids ne (chain_from link (get_or link x none) i ids (ap (λ y. get_or link y none) (sym px) ∙ e) ch.2) in
    let rest = s.0 in
    let hi = present_head i rest in
    let hp = present_head p ids in
    let qi = ap (λ ys. count i ys) s.1 in
    let qp = ap (λ ys. count p ys) s.1 in
    let op : count p (p ∷ ids) ≤ 1 = subst (λ y. count p (y ∷ ids) ≤ 1) (sym px) (once p) in
    let oi = once i in
    let ix : i ≡ x → ⊥ = λ q. omega (arith, ap {B = ℕ} (λ t. cond t 1 0) (eq-eqb i x q)) in
    let left : without i (x ∷ ids) ≡ x ∷ rest = without_other i x ids ix ∙ ap (λ ys. x ∷ ys) (ap (λ ys. without i ys) s.1 ∙ without_head i rest ∙ without_absent i rest (omega arith)) in
    let v = get_or link i none in
    let tail : Chain (set link p v) v rest = chain_set link v rest p v (omega arith) s.3 in
    let aim : v ≡ get_or (set link p v) x none = sym (ap (λ y. get_or (set link p v) y none) (sym px) ∙ get_or-set_same link p v none lt) in
    let l : x < length (set link p v) = simp length-set ch.1 in
    subst (λ ys. Chain (set link p v) from ys) (sym left) (ch.0, l, chain_from (set link p v) v (get_or (set link p v) x none) rest aim tail))
    (λ (px : p ≡ x → ⊥).
    let v = get_or link i none in
    let here' : 0 < count p ids = omega (arith, here, ap {B = ℕ} (λ t. cond t 1 0) (ne_eqb p x px)) in
    let behind = chain_follow link (get_or link x none) ids p i ch.2 here' e ne in
    let oi = once i in
    let ix : i ≡ x → ⊥ = λ q. omega (arith, ap {B = ℕ} (λ t. cond t 1 0) (eq-eqb i x q)) in
    let tail = chain_drop link (get_or link x none) ids p i ch.2 (λ k. omega (arith, once k)) here' lt e ne in
    let aim : get_or link x none ≡ get_or (set link p v) x none = sym (get_or-set_other link p x v none (λ q. px (sym q))) in
    let l : x < length (set link p v) = simp length-set ch.1 in
    subst (λ ys. Chain (set link p v) from ys) (sym (without_other i x ids ix)) (ch.0, l, chain_from (set link p v) (get_or link x none) (get_or (set link p v) x none) (without i ids) aim tail))
    (cases_eq p x)

-- a chain whose rows have the same links is the same chain
pub chain_agree : (link link' : List ℕ) (from : ℕ) (ids : List ℕ) → length link' ≡ length link → ((k : ℕ) → 0 < count k ids → get_or link' k none ≡ get_or link k none) → Chain link from ids → Chain link' from ids
chain_agree link link' from [] same agree ch = ch
chain_agree link link' from (x ∷ ids) same agree ch =
    let here = agree x (omega (arith, present_head x ids)) in (
      ch.0,
      omega (arith, ch.1),
      chain_from link' (get_or link x none) (get_or link' x none) ids (sym here) (chain_agree link link' (get_or link x none) ids same (λ k h. agree k (omega arith)) ch.2),
    )
