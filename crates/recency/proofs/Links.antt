-- Links over columns: what a write leaves, and how two strips of rows are joined.
use Rattle.std.proofs.Common.{◌≡◌, ℕ, ◌+◌, ◌<◌, ◌≤◌, List, [], ◌∷◌, ◌++◌, length, get_or, set, sym, refl, ap, ◌∙◌, arith, length-set}
use Rattle.std.proofs.lemmas.List.{get_or-set_same, get_or-set_other}
use Rattle.std.proofs.lemmas.Bool.Decides.{nat_tests}
use Rattle.recency.specs.Numbers.{none, count}
use Rattle.recency.specs.Lists.{first, last, Nexts, Prevs}
use Rattle.recency.proofs.Counts.{count_append}

pub absent_head : (i x : ℕ) (ids : List ℕ) → count i (x ∷ ids) ≡ 0 → (x ≡ i → ⊥) × (count i ids ≡ 0)
absent_head i x ids h = (λ e. grind (arith, nat_tests), omega arith)

pub present_head : (x : ℕ) (ids : List ℕ) → count x (x ∷ ids) ≡ 1 + count x ids
present_head x ids = grind (arith, nat_tests)

-- a list has its last
pub last_in : (xs : List ℕ) (y : ℕ) → 0 < count (last xs y) (y ∷ xs)
last_in [] y = grind (arith, nat_tests)
last_in (x ∷ xs) y = let h = last_in xs x in omega arith

pub first_append : (a b : List ℕ) (z : ℕ) → first (a ++ b) z ≡ first a (first b z)
first_append [] b z = refl
first_append (x ∷ a) b z = refl

pub last_append : (a b : List ℕ) (z : ℕ) → last (a ++ b) z ≡ last b (last a z)
last_append [] b z = refl
last_append (x ∷ a) b z = last_append a b x

-- the links to the next one

pub nexts_set : (next ids : List ℕ) (z i v : ℕ) → count i ids ≡ 0 → Nexts next ids z → Nexts (set next i v) ids z
nexts_set next [] z i v h n = tt
nexts_set next (x ∷ ids) z i v h n =
    let a = absent_head i x ids h in
    (simp length-set n.0, get_or-set_other next i x v none a.0 ∙ n.1, nexts_set next ids z i v a.1 n.2)

pub nexts_split : (next a b : List ℕ) (z : ℕ) → Nexts next (a ++ b) z → Nexts next a (first b z) × Nexts next b z
nexts_split next [] b z n = (tt, n)
nexts_split next (x ∷ a) b z n =
    let r = nexts_split next a b z n.2 in
    ((n.0, n.1 ∙ first_append a b z, r.0), r.1)

nexts_together : (next a b : List ℕ) (z : ℕ) → Nexts next a (first b z) → Nexts next b z → Nexts next (a ++ b) z
nexts_together next [] b z n m = m
nexts_together next (x ∷ a) b z n m = (n.0, n.1 ∙ sym (first_append a b z), nexts_together next a b z n.2 m)

-- the rows of a list are among the rows
pub nexts_within : (next ids : List ℕ) (z k : ℕ) → Nexts next ids z → length next ≤ k → count k ids ≡ 0
nexts_within next [] z k n h = refl
nexts_within next (x ∷ ids) z k n h = let r = nexts_within next ids z k n.2 h in let l = n.0 in grind (arith, nat_tests)

-- the last row is aimed at another
nexts_aim : (next a : List ℕ) (y v d : ℕ) → Nexts next a y → ((k : ℕ) → count k a ≤ 1) → Nexts (set next (last a d) v) a v
nexts_aim next [] y v d n once = tt
nexts_aim next (x ∷ []) y v d n once = (simp length-set n.0, get_or-set_same next x v none n.0, tt)
nexts_aim next (x ∷ w ∷ a) y v d n once =
    let l = last_in a w in
    let o = once (last a w) in
    let ne : x ≡ last a w → ⊥ = λ e. grind (arith, nat_tests) in (
      simp length-set n.0,
      get_or-set_other next (last a w) x v none ne ∙ n.1,
      nexts_aim next (w ∷ a) y v x n.2 (λ k. omega (arith, once k)),
    )

-- a strip's last row is not in the strip behind it
pub last_absent : (next a b : List ℕ) (z : ℕ) → length next ≤ none → Nexts next b z → ((k : ℕ) → count k (a ++ b) ≤ 1) → count (last a none) b ≡ 0
last_absent next [] b z few n once = nexts_within next b z none n few
last_absent next (x ∷ a) b z few n once =
    let l = last_in a x in
    let o = once (last a x) in
    let e = count_append (last a x) (x ∷ a) b in
    omega arith

-- two strips are joined by one write
pub nexts_join : (next a b : List ℕ) (y : ℕ) → length next ≤ none → Nexts next a y → Nexts next b none → ((k : ℕ) → count k (a ++ b) ≤ 1) → Nexts (set next (last a none) (first b none)) (a ++ b) none
nexts_join next a b y few n m once =
    nexts_together (set next (last a none) (first b none)) a b none
    (nexts_aim next a y (first b none) none n (λ k. omega (arith, once k, count_append k a b)))
    (nexts_set next b none (last a none) (first b none) (last_absent next a b none few m once) m)

-- the links to the previous one

pub prevs_set : (prev : List ℕ) (w : ℕ) (ids : List ℕ) (i v : ℕ) → count i ids ≡ 0 → Prevs prev w ids → Prevs (set prev i v) w ids
prevs_set prev w [] i v h n = tt
prevs_set prev w (x ∷ ids) i v h n =
    let a = absent_head i x ids h in
    (simp length-set n.0, get_or-set_other prev i x v none a.0 ∙ n.1, prevs_set prev x ids i v a.1 n.2)

pub prevs_split : (prev : List ℕ) (w : ℕ) (a b : List ℕ) → Prevs prev w (a ++ b) → Prevs prev w a × Prevs prev (last a w) b
prevs_split prev w [] b n = (tt, n)
prevs_split prev w (x ∷ a) b n = let r = prevs_split prev x a b n.2 in ((n.0, n.1, r.0), r.1)

prevs_together : (prev : List ℕ) (w : ℕ) (a b : List ℕ) → Prevs prev w a → Prevs prev (last a w) b → Prevs prev w (a ++ b)
prevs_together prev w [] b n m = m
prevs_together prev w (x ∷ a) b n m = (n.0, n.1, prevs_together prev x a b n.2 m)

pub prevs_within : (prev : List ℕ) (w : ℕ) (ids : List ℕ) (k : ℕ) → Prevs prev w ids → length prev ≤ k → count k ids ≡ 0
prevs_within prev w [] k n h = refl
prevs_within prev w (x ∷ ids) k n h = let r = prevs_within prev x ids k n.2 h in let l = n.0 in grind (arith, nat_tests)

-- the first row is aimed at another
prevs_aim : (prev : List ℕ) (v w d : ℕ) (b : List ℕ) → Prevs prev v b → ((k : ℕ) → count k b ≤ 1) → Prevs (set prev (first b d) w) w b
prevs_aim prev v w d [] n once = tt
prevs_aim prev v w d (x ∷ b) n once =
    let e = present_head x b in
    let o = once x in
    (simp length-set n.0, get_or-set_same prev x w none n.0, prevs_set prev x b x w (omega arith) n.2)

-- a strip's first row is not in the strip ahead of it
pub first_absent : (prev : List ℕ) (w : ℕ) (a b : List ℕ) → length prev ≤ none → Prevs prev w a → ((k : ℕ) → count k (a ++ b) ≤ 1) → count (first b none) a ≡ 0
first_absent prev w a [] few n once = prevs_within prev w a none n few
first_absent prev w a (x ∷ b) few n once =
    let e = present_head x b in
    let o = once x in
    let s = count_append x a (x ∷ b) in
    omega arith

pub prevs_join : (prev : List ℕ) (w v : ℕ) (a b : List ℕ) → length prev ≤ none → Prevs prev w a → Prevs prev v b → ((k : ℕ) → count k (a ++ b) ≤ 1) → Prevs (set prev (first b none) (last a w)) w (a ++ b)
prevs_join prev w v a b few n m once =
    prevs_together (set prev (first b none) (last a w)) w a b
    (prevs_set prev w a (first b none) (last a w) (first_absent prev w a b few n once) n)
    (prevs_aim prev v (last a w) none b m (λ k. omega (arith, once k, count_append k a b)))

-- the links to the next one leave one list
pub nexts_unique : (next ids ids' : List ℕ) → length next ≤ none → first ids none ≡ first ids' none → Nexts next ids none → Nexts next ids' none → ids ≡ ids'
nexts_unique next [] [] few e n m = refl
nexts_unique next [] (y ∷ ids') few e n m = absurd (omega (arith, m.0))
nexts_unique next (x ∷ ids) [] few e n m = absurd (omega (arith, n.0))
nexts_unique next (x ∷ ids) (y ∷ ids') few e n m =
    let on : first ids none ≡ first ids' none = sym n.1 ∙ ap (λ z. get_or next z none) e ∙ m.1 in
    ap (λ z. z ∷ ids) e ∙ ap (λ zs. y ∷ zs) (nexts_unique next ids ids' few on n.2 m.2)
