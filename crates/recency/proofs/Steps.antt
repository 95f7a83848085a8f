-- What a push to the front and an unlinking leave of a list, of the rows outside, and of the other lists.
use Rattle.std.proofs.Common.{◌≡◌, ℕ, ◌<◌, ◌≤◌, cond, eqb, ◌⊎◌, List, [], ◌∷◌, ◌++◌, map, length, get_or, set, sym, refl, ap, ◌∙◌, subst, inl, inr, ⊎_elim, arith, length-set}
use lib.ListN.{length-map}
use Rattle.std.proofs.lemmas.List.{append-nil, get_or-set_other, set_past, get_or-map, get_or_past}
use Rattle.std.proofs.lemmas.Bool.{cases_lt}
use Rattle.std.proofs.lemmas.Bool.Decides.{nat_tests}
use Rattle.recency.specs.Numbers.{none, count, without, Apart}
use Rattle.recency.specs.Lists.{first, last, Nexts, Listed}
use Rattle.recency.proofs.Counts.{count_append, split, without_split}
use Rattle.recency.proofs.Links.{last_in, present_head, nexts_set, nexts_split, nexts_within, nexts_join, prevs_set, prevs_split, prevs_join, last_append}

-- a neighbour in a list: one of its rows, or none
pub Near : ℕ → List ℕ → Type 0
Near x ids = (x ≡ none) ⊎ (0 < count x ids)

pub in_range : (next ids : List ℕ) (z k : ℕ) → Nexts next ids z → 0 < count k ids → k < length next
in_range next ids z k n h = ⊎_elim (λ l. l) (λ past. absurd (omega (arith, nexts_within next ids z k n past))) (cases_lt k (length next))

near_first : (a b : List ℕ) → Near (first b none) (a ++ b)
unfolding Near
near_first a [] = inl refl
near_first a (x ∷ b) = let e = count_append x a (x ∷ b) in let p = present_head x b in inr (omega arith)

near_last : (a b : List ℕ) → Near (last a none) (a ++ b)
unfolding Near
near_last [] b = inl refl
near_last (x ∷ a) b = let e = count_append (last a x) (x ∷ a) b in let l = last_in a x in inr (omega arith)

pub near_within : (next ids : List ℕ) (z x : ℕ) → Nexts next ids z → Near x ids → (x ≡ none → ⊥) → x < length next
unfolding Near
near_within next ids z x n near ne = ⊎_elim (λ e. absurd (ne e)) (in_range next ids z x n) near

-- a neighbour in one list is no row of another
near_apart : (next ids mine : List ℕ) (z x : ℕ) → length next ≤ none → Nexts next mine z → Near x ids → Apart ids mine → count x mine ≡ 0
unfolding Near
near_apart next ids mine z x few n near apart =
    ⊎_elim (λ e. nexts_within next mine z x n (omega arith)) (λ h. omega (arith, apart x)) near

-- a write at a neighbour is not seen outside the list
pub near_outside : (col ids : List ℕ) (x v k : ℕ) → length col ≤ none → Near x ids → count k ids ≡ 0 → get_or (set col x v) k none ≡ get_or col k none
unfolding Near
near_outside col ids x v k few near out =
    ⊎_elim
    (λ e. ap (λ c. get_or c k none) (set_past col x v (omega arith)))
    (λ h. get_or-set_other col x k v none (λ e. omega (arith, ap (λ y. count y ids) e)))
    near

-- the two neighbours of a row, and where they stand
module _ (front back : ℕ) (next prev a b : List ℕ) (i : ℕ) (l : Listed front back next prev (a ++ i ∷ b)) where
  pub ahead_is : get_or prev i none ≡ last a none
  ahead_is = (prevs_split prev none a (i ∷ b) l.prevs).1.1

  pub behind_is : get_or next i none ≡ first b none
  behind_is = (nexts_split next a (i ∷ b) none l.nexts).1.1

  ahead_near : Near (last a none) (a ++ i ∷ b)
  ahead_near = near_last a (i ∷ b)

  behind_near : Near (first b none) (a ++ i ∷ b)
  unfolding Near
  behind_near =
      let s = count_append (first b none) a (i ∷ b) in
      ⊎_elim inl (λ h. inr (omega arith)) (near_first [] b)

  rest_once : (k : ℕ) → count k (a ++ b) ≤ 1
  rest_once k = omega (arith, l.once k, count_append k a (i ∷ b), count_append k a b)

front_left : (front i : ℕ) (next a b : List ℕ) → length next ≤ none → Nexts next (a ++ i ∷ b) none → front ≡ first (a ++ i ∷ b) none → cond (eqb (last a none) none) (first b none) front ≡ first (a ++ b) none
front_left front i next [] b few ns e = refl
front_left front i next (x ∷ a) b few ns e =
    let s = count_append (last a x) (x ∷ a) (i ∷ b) in
    let h = last_in a x in
    let r = in_range next (x ∷ a ++ i ∷ b) none (last a x) ns (omega arith) in
    grind (arith, nat_tests)

back_left : (back i : ℕ) (next a b : List ℕ) → length next ≤ none → Nexts next (a ++ i ∷ b) none → back ≡ last (a ++ i ∷ b) none → cond (eqb (first b none) none) (last a none) back ≡ last (a ++ b) none
back_left back i next a [] few ns e = ap (λ xs. last xs none) (sym (append-nil a))
back_left back i next a (x ∷ b) few ns e =
    let p = (nexts_split next a (i ∷ x ∷ b) none ns).1.2.0 in
    let f = last_append a (i ∷ x ∷ b) none in
    let g = last_append a (x ∷ b) none in
    grind (arith, nat_tests)

-- the list after the neighbours of i are joined
unlinked_at : (front back : ℕ) (next prev a b : List ℕ) (i : ℕ) → length prev ≡ length next → Listed front back next prev (a ++ i ∷ b) → Listed (cond (eqb (last a none) none) (first b none) front) (cond (eqb (first b none) none) (last a none) back) (set next (last a none) (first b none)) (set prev (first b none) (last a none)) (a ++ b)
unlinked_at front back next prev a b i same l =
    let few = l.few in
    let once = rest_once front back next prev a b i l in
    let ns = nexts_split next a (i ∷ b) none l.nexts in
    let ps = prevs_split prev none a (i ∷ b) l.prevs in
    record {
      few = simp length-set few;
      front_is = front_left front i next a b few l.nexts l.front_is;
      back_is = back_left back i next a b few l.nexts l.back_is;
      nexts = nexts_join next a b i few ns.0 ns.1.2 once;
      prevs = prevs_join prev none i a b (omega arith) ps.0 ps.1.2 once;
      once = once;
    }

-- what is known of a row i of a list and its neighbours p and n
pub record Spot (front back : ℕ) (next prev ids : List ℕ) (i p n : ℕ) : Type 0 where
  pub p_near : Near p ids
  pub n_near : Near n ids
  pub left : Listed (cond (eqb p none) n front) (cond (eqb n none) p back) (set next p n) (set prev n p) (without i ids)

spot_at : (front back : ℕ) (next prev a b : List ℕ) (i : ℕ) → length prev ≡ length next → Listed front back next prev (a ++ i ∷ b) → Spot front back next prev (a ++ i ∷ b) i (last a none) (first b none)
spot_at front back next prev a b i same l =
    record {
      p_near = ahead_near front back next prev a b i l;
      n_near = behind_near front back next prev a b i l;
      left = rw (without_split i a b (l.once i)) (unlinked_at front back next prev a b i same l);
    }

pub spot : (front back : ℕ) (next prev ids : List ℕ) (i p n : ℕ) → length prev ≡ length next → Listed front back next prev ids → count i ids ≡ 1 → p ≡ get_or prev i none → n ≡ get_or next i none → Spot front back next prev ids i p n
spot front back next prev ids i p n same l here pe ne =
    let s = split i ids (omega arith) in
    let m = subst (λ xs. Listed front back next prev xs) s.2 l in
    let at = spot_at front back next prev s.0 s.1 i same m in
    let pq = pe ∙ ahead_is front back next prev s.0 s.1 i m in
    let nq = ne ∙ behind_is front back next prev s.0 s.1 i m in
    subst (λ xs. Spot front back next prev xs i p n) (sym s.2)
    (subst (λ x. Spot front back next prev (s.0 ++ i ∷ s.1) i x n) (sym pq)
    (subst (λ y. Spot front back next prev (s.0 ++ i ∷ s.1) i (last s.0 none) y) (sym nq) at))

-- a list that has neither of the rows that were written stays as it is
pub kept : (front back : ℕ) (next prev ids : List ℕ) (x u y v : ℕ) → Listed front back next prev ids → count x ids ≡ 0 → count y ids ≡ 0 → Listed front back (set next x u) (set prev y v) ids
kept front back next prev ids x u y v l ex ey =
    record {
      few = simp length-set l.few;
      front_is = l.front_is;
      back_is = l.back_is;
      nexts = nexts_set next ids none x u ex l.nexts;
      prevs = prevs_set prev none ids y v ey l.prevs;
      once = l.once;
    }

-- another list stays as it is where neighbours in this one are written
pub kept_apart : (front back : ℕ) (next prev ids mine : List ℕ) (x u y v : ℕ) → Near x ids → Near y ids → Listed front back next prev mine → Apart ids mine → Listed front back (set next x u) (set prev y v) mine
kept_apart front back next prev ids mine x u y v nx ny l apart =
    kept front back next prev mine x u y v l
    (near_apart next ids mine none x l.few l.nexts nx apart)
    (near_apart next ids mine none y l.few l.nexts ny apart)

-- the back after a push
back_pushed : (i back : ℕ) (next ids : List ℕ) → length next ≤ none → i < length next → Nexts next ids none → back ≡ last ids none → cond (eqb i none) none (cond (eqb (first ids none) none) i back) ≡ last ids i
back_pushed i back next [] few lt ns e = grind (arith, nat_tests)
back_pushed i back next (x ∷ ids) few lt ns e = let h = ns.0 in grind (arith, nat_tests)

-- the list after i was joined with the front, and then with the end ahead of it
pushed_at : (back : ℕ) (next prev ids : List ℕ) (i : ℕ) → length prev ≡ length next → i < length next → count i ids ≡ 0 → Listed (first ids none) back next prev ids → Listed i (cond (eqb i none) none (cond (eqb (first ids none) none) i back)) (set (set next i (first ids none)) none i) (set (set prev (first ids none) i) i none) (i ∷ ids)
pushed_at back next prev ids i same lt out l =
    let once : (k : ℕ) → count k (i ∷ ids) ≤ 1 = λ k. let o = l.once k in grind (arith, nat_tests) in
    let few = l.few in
    let ns = nexts_join next (i ∷ []) ids (get_or next i none) few (lt, refl, tt) l.nexts once in
    let ps = prevs_join prev (get_or prev i none) none (i ∷ []) ids (omega arith) (omega arith, refl, tt) l.prevs once in
    let far : length (set next i (first ids none)) ≤ none = simp length-set few in
    record {
      few = simp length-set few;
      front_is = refl;
      back_is = back_pushed i back next ids few lt l.nexts l.back_is;
      nexts = nexts_set (set next i (first ids none)) (i ∷ ids) none none i (nexts_within (set next i (first ids none)) (i ∷ ids) none none ns far) ns;
      prevs = prevs_join (set prev (first ids none) i) none (get_or prev i none) [] (i ∷ ids) (simp length-set (omega arith)) tt ps once;
      once = once;
    }

pub pushed : (front back : ℕ) (next prev ids : List ℕ) (i : ℕ) → length prev ≡ length next → i < length next → count i ids ≡ 0 → Listed front back next prev ids → Listed i (cond (eqb i none) none (cond (eqb front none) i back)) (set (set next i front) none i) (set (set prev front i) i none) (i ∷ ids)
pushed front back next prev ids i same lt out l =
    subst (λ f. Listed i (cond (eqb i none) none (cond (eqb f none) i back)) (set (set next i f) none i) (set (set prev f i) i none) (i ∷ ids)) (sym l.front_is)
    (pushed_at back next prev ids i same lt out (subst (λ f. Listed f back next prev ids) l.front_is l))

-- the rows that a push writes are neighbours in the new list
pub i_near : (i : ℕ) (ids : List ℕ) → Near i (i ∷ ids)
unfolding Near
i_near i ids = let e = present_head i ids in inr (omega arith)

pub none_near : (ids : List ℕ) → Near none ids
unfolding Near
none_near ids = inl refl

pub front_near : (front back : ℕ) (next prev ids : List ℕ) (i : ℕ) → Listed front back next prev ids → Near front (i ∷ ids)
front_near front back next prev ids i l = rw l.front_is (near_first (i ∷ []) ids)

-- what a push leaves as it is
module _ (front back : ℕ) (next prev ids : List ℕ) (i : ℕ) (l : Listed front back next prev ids) where
  pub pushed_others : (front' back' : ℕ) (mine : List ℕ) → Listed front' back' next prev mine → Apart (i ∷ ids) mine → Listed front' back' (set (set next i front) none i) (set (set prev front i) i none) mine
  pushed_others front' back' mine m apart =
      let near = front_near front back next prev ids i l in
      kept_apart front' back' (set next i front) (set prev front i) (i ∷ ids) mine none i i none (none_near (i ∷ ids)) (i_near i ids)
      (kept_apart front' back' next prev (i ∷ ids) mine i front front i (i_near i ids) near m apart) apart

  pub pushed_nexts : (k : ℕ) → count k (i ∷ ids) ≡ 0 → get_or (set (set next i front) none i) k none ≡ get_or next k none
  pushed_nexts k out =
      near_outside (set next i front) (i ∷ ids) none i k (simp length-set l.few) (none_near (i ∷ ids)) out
      ∙ near_outside next (i ∷ ids) i front k l.few (i_near i ids) out

  pub pushed_prevs : (k : ℕ) → length prev ≡ length next → count k (i ∷ ids) ≡ 0 → get_or (set (set prev front i) i none) k none ≡ get_or prev k none
  pushed_prevs k same out =
      near_outside (set prev front i) (i ∷ ids) i none k (simp length-set (omega (arith, l.few))) (i_near i ids) out
      ∙ near_outside prev (i ∷ ids) front i k (omega (arith, l.few)) (front_near front back next prev ids i l) out

-- equal links and equal rests make equal rows
pub row_same : {R : Type 0} (next prev : R → ℕ) (bare : R → R) → ((x y : R) → next x ≡ next y → prev x ≡ prev y → bare x ≡ bare y → x ≡ y) → (new old : List R) (k : ℕ) (d : R) → get_or (map next new) k none ≡ get_or (map next old) k none → get_or (map prev new) k none ≡ get_or (map prev old) k none → map bare new ≡ map bare old → get_or new k d ≡ get_or old k d
row_same next prev bare whole new old k d n p b =
    let same : length new ≡ length old = sym (length-map new bare) ∙ ap length b ∙ length-map old bare in
    ⊎_elim
    (λ (lt : k < length old).
    let lt' : k < length new = omega arith in
    whole (get_or new k d) (get_or old k d)
    (sym (get_or-map next new k d none lt') ∙ n ∙ get_or-map next old k d none lt)
    (sym (get_or-map prev new k d none lt') ∙ p ∙ get_or-map prev old k d none lt)
    (sym (get_or-map bare new k d (bare d) lt') ∙ ap (λ xs. get_or xs k (bare d)) b ∙ get_or-map bare old k d (bare d) lt))
    (λ (past : length old ≤ k). get_or_past new k d (omega arith) ∙ sym (get_or_past old k d past))
    (cases_lt k (length old))
