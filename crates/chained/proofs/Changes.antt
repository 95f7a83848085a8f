-- What an insertion and a removal make of a table.
use Rattle.std.proofs.Common.{◌≡◌, ℕ, ◌+◌, ◌*◌, ◌<◌, ◌≤◌, cond, eqb, List, [], ◌∷◌, length, get_or, set, sym, refl, ap, ◌∙◌, subst, ⊎_elim, arith, length-set}
use Rattle.std.proofs.lemmas.List.{get_or_default, get_or-set_same, get_or-set_other, get_or_past}
use Rattle.std.proofs.lemmas.Bool.{cases_eq, cases_lt}
use Rattle.std.proofs.lemmas.Bool.Decides.{nat_tests}
use Rattle.recency.specs.Numbers.{none, count, without}
use Rattle.recency.proofs.Counts.{count_without}
use Rattle.chained.specs.Growth.{start, slot}
use Rattle.chained.specs.Chains.{Chain, Slot, Holds}
use Rattle.chained.proofs.Sizes.{slot_below, slot_doubled}
use Rattle.chained.proofs.Walks.{chain_set, chain_from, chain_within, chain_step, chain_drop}

-- a table whose slots are all empty
pub holds_nothing : (heads link hash : List ℕ) → length link ≤ none → 16 ≤ length heads → length heads ≤ 16384 → ((s : ℕ) → s < length heads → get_or heads s none ≡ none) → Holds start heads link hash []
holds_nothing heads link hash few least limit all =
    record {
      few = few;
      least = omega arith;
      room = least;
      limit = limit;
      moving = omega arith;
      once = λ i. omega arith;
      slots = λ s. ([], ⊎_elim (all s) (get_or_past heads s none) (cases_lt s (length heads)), λ i. grind (arith, nat_tests));
    }

-- counts in the slot of a new row, and in another one
count_in : (k i sk si a b : ℕ) → (k ≡ i → sk ≡ si) → a ≡ cond (eqb sk si) b 0 → cond (eqb k i) 1 0 + a ≡ cond (eqb sk si) (cond (eqb k i) 1 0 + b) 0
count_in k i sk si a b same e = grind (arith, nat_tests)

count_other : (k i sk si s a b : ℕ) → (k ≡ i → sk ≡ si) → (s ≡ si → ⊥) → a ≡ cond (eqb sk s) b 0 → a ≡ cond (eqb sk s) (cond (eqb k i) 1 0 + b) 0
count_other k i sk si s a b same ne e = grind (arith, nat_tests)

-- the row i is put at the head of its slot t
module _ {size : ℕ × ℕ} {heads link hash ids : List ℕ} (i : ℕ) {t : ℕ} (h : Holds size heads link hash ids) (te : t ≡ slot size (get_or hash i 0)) where
  at_home : (k : ℕ) → k ≡ i → slot size (get_or hash k 0) ≡ t
  at_home k e = ap (λ x. slot size (get_or hash x 0)) e ∙ sym te

  home_below : t < length heads
  home_below = omega (arith, te, slot_below size.0 size.1 (get_or hash i 0) h.least h.moving, h.room)

  away : (s : ℕ) → (s ≡ t → ⊥) → count i (h.slots s).0 ≡ 0
  away s ne = let e = (h.slots s).2 i in grind (arith, nat_tests)

  inserted_here : i < length link → count i ids ≡ 0 → Slot size (set heads t i) (set link i (get_or heads t none)) hash (i ∷ ids) t
  inserted_here lt out =
      let c = h.slots t in
      let old = get_or heads t none in
      let free : count i c.0 ≡ 0 = let e = c.2 i in grind (arith, nat_tests) in
      let tail = chain_set link old c.0 i old free c.1 in
      let aim : old ≡ get_or (set link i old) i none = sym (get_or-set_same link i old none lt) in
      let l : i < length (set link i old) = simp length-set lt in (
        i ∷ c.0,
        (get_or-set_same heads t i none home_below, l, chain_from (set link i old) old (get_or (set link i old) i none) c.0 aim tail),
        λ k. count_in k i (slot size (get_or hash k 0)) t (count k c.0) (count k ids) (at_home k) (c.2 k),
      )

  inserted_there : (s : ℕ) → (s ≡ t → ⊥) → Slot size (set heads t i) (set link i (get_or heads t none)) hash (i ∷ ids) s
  inserted_there s ne =
      let c = h.slots s in
      let old = get_or heads t none in
      let same : get_or heads s none ≡ get_or (set heads t i) s none = sym (get_or-set_other heads t s i none ne) in (
        c.0,
        chain_from (set link i old) (get_or heads s none) (get_or (set heads t i) s none) c.0 same (chain_set link (get_or heads s none) c.0 i old (away s ne) c.1),
        λ k. count_other k i (slot size (get_or hash k 0)) t s (count k c.0) (count k ids) (at_home k) ne (c.2 k),
      )

  pub inserted : i < length link → count i ids ≡ 0 → Holds size (set heads t i) (set link i (get_or heads t none)) hash (i ∷ ids)
  inserted lt out =
      record {
        few = simp length-set h.few;
        least = h.least;
        room = simp length-set h.room;
        limit = simp length-set h.limit;
        moving = h.moving;
        once = λ k. let o = h.once k in grind (arith, nat_tests);
        slots = λ s.
            ⊎_elim
            (λ (e : s ≡ t). subst (λ x. Slot size (set heads t i) (set link i (get_or heads t none)) hash (i ∷ ids) x) (sym e) (inserted_here lt out))
            (inserted_there s)
            (cases_eq s t);
      }

-- counts where i is left out: of what was behind it, of what it was among, and in another slot
left_behind : (k i sk t a b : ℕ) → (k ≡ i → sk ≡ t) → b ≤ 1 → cond (eqb k i) 1 0 + a ≡ cond (eqb sk t) b 0 → a ≡ cond (eqb sk t) (cond (eqb k i) 0 b) 0
left_behind k i sk t a b same once e = grind (arith, nat_tests)

left_among : (k i sk t a b : ℕ) → a ≡ cond (eqb sk t) b 0 → cond (eqb k i) 0 a ≡ cond (eqb sk t) (cond (eqb k i) 0 b) 0
left_among k i sk t a b e = grind (arith, nat_tests)

left_other : (k i sk t s a b : ℕ) → (k ≡ i → sk ≡ t) → (s ≡ t → ⊥) → a ≡ cond (eqb sk s) b 0 → a ≡ cond (eqb sk s) (cond (eqb k i) 0 b) 0
left_other k i sk t s a b same ne e = grind (arith, nat_tests)

-- the row i is taken out of its slot t
module _ {size : ℕ × ℕ} {heads link hash ids : List ℕ} (i : ℕ) {t : ℕ} (h : Holds size heads link hash ids) (te : t ≡ slot size (get_or hash i 0)) (here : count i ids ≡ 1) where
  out_counts : (s : ℕ) (chain : List ℕ) → (s ≡ t → ⊥) → ((k : ℕ) → count k chain ≡ cond (eqb (slot size (get_or hash k 0)) s) (count k ids) 0) → (k : ℕ) → count k chain ≡ cond (eqb (slot size (get_or hash k 0)) s) (count k (without i ids)) 0
  out_counts s chain ne counts k =
      left_other k i (slot size (get_or hash k 0)) t s (count k chain) (count k ids) (at_home i h te k) ne (counts k)
      ∙ ap (λ n. cond (eqb (slot size (get_or hash k 0)) s) n 0) (sym (count_without k i ids))

  out_once : (k : ℕ) → count k (without i ids) ≤ 1
  out_once k = let o = h.once k in let e = count_without k i ids in grind (arith, nat_tests)

  pub row_within : i < length link
  row_within =
      let c = h.slots t in
      chain_within link (get_or heads t none) c.0 i c.1
      (let e = c.2 i in let q = at_home i h te i refl in grind (arith, nat_tests))

  head : get_or heads t 0 ≡ get_or heads t none
  head = get_or_default heads t 0 none (home_below i h te)

  -- its chain
  pub home_chain : (chain : List ℕ) × Chain link (get_or heads t 0) chain × ((k : ℕ) → count k chain ≤ 1) × (count i chain ≡ 1)
  home_chain =
      let c = h.slots t in (
        c.0,
        subst (λ f. Chain link f c.0) (sym head) c.1,
        λ k. let e = c.2 k in let o = h.once k in grind (arith, nat_tests),
        let e = c.2 i in let q = at_home i h te i refl in grind (arith, nat_tests),
      )

  -- what is in its chain is held, in its slot
  pub home_slot : (p : ℕ) → count p home_chain.0 ≡ 1 → (slot size (get_or hash p 0) ≡ t) × (count p ids ≡ 1)
  unfolding home_chain
  home_slot p among = let e = (h.slots t).2 p in (grind (arith, nat_tests), grind (arith, nat_tests))

  -- it is the first of its chain
  module _ (front : get_or heads t 0 ≡ i) where
    first_out_here : Slot size (set heads t (get_or link i none)) link hash (without i ids) t
    first_out_here =
        let c = h.slots t in
        let lt = row_within in
        let f = h.few in
        let s = chain_step link i c.0 (λ e. omega arith) (chain_from link (get_or heads t none) i c.0 (sym head ∙ front) c.1) in
        let v = get_or link i none in (
          s.0,
          chain_from link v (get_or (set heads t v) t none) s.0 (sym (get_or-set_same heads t v none (home_below i h te))) s.3,
          λ k.
              left_behind k i (slot size (get_or hash k 0)) t (count k s.0) (count k ids) (at_home i h te k) (h.once k) (ap (λ ys. count k ys) (sym s.1) ∙ c.2 k)
              ∙ ap (λ n. cond (eqb (slot size (get_or hash k 0)) t) n 0) (sym (count_without k i ids)),
        )

    first_out_there : (s : ℕ) → (s ≡ t → ⊥) → Slot size (set heads t (get_or link i none)) link hash (without i ids) s
    first_out_there s ne =
        let c = h.slots s in
        let v = get_or link i none in (
          c.0,
          chain_from link (get_or heads s none) (get_or (set heads t v) s none) c.0 (sym (get_or-set_other heads t s v none ne)) c.1,
          out_counts s c.0 ne c.2,
        )

    pub first_out : Holds size (set heads t (get_or link i none)) link hash (without i ids)
    first_out =
        record {
          few = h.few;
          least = h.least;
          room = simp length-set h.room;
          limit = simp length-set h.limit;
          moving = h.moving;
          once = out_once;
          slots = λ s.
              ⊎_elim
              (λ (e : s ≡ t). subst (λ x. Slot size (set heads t (get_or link i none)) link hash (without i ids) x) (sym e) first_out_here)
              (first_out_there s)
              (cases_eq s t);
        }

  -- the row p of its chain names it
  module _ (p : ℕ) (pt : slot size (get_or hash p 0) ≡ t) (ph : count p ids ≡ 1) (names : get_or link p none ≡ i) where
    p_here : 0 < count p (h.slots t).0
    p_here = let e = (h.slots t).2 p in grind (arith, nat_tests)

    later_out_here : Slot size heads (set link p (get_or link i none)) hash (without i ids) t
    later_out_here =
        let c = h.slots t in
        let once : (k : ℕ) → count k c.0 ≤ 1 = λ k. let e = c.2 k in let o = h.once k in grind (arith, nat_tests) in
        let lt = row_within in
        let f = h.few in (
          without i c.0,
          chain_drop link (get_or heads t none) c.0 p i c.1 once p_here (chain_within link (get_or heads t none) c.0 p c.1 p_here) names (λ e. omega arith),
          λ k.
              count_without k i c.0
              ∙ left_among k i (slot size (get_or hash k 0)) t (count k c.0) (count k ids) (c.2 k)
              ∙ ap (λ n. cond (eqb (slot size (get_or hash k 0)) t) n 0) (sym (count_without k i ids)),
        )

    later_out_there : (s : ℕ) → (s ≡ t → ⊥) → Slot size heads (set link p (get_or link i none)) hash (without i ids) s
    later_out_there s ne =
        let c = h.slots s in
        let free : count p c.0 ≡ 0 = let e = c.2 p in grind (arith, nat_tests) in
        (c.0, chain_set link (get_or heads s none) c.0 p (get_or link i none) free c.1, out_counts s c.0 ne c.2)

    pub later_out : Holds size heads (set link p (get_or link i none)) hash (without i ids)
    later_out =
        record {
          few = simp length-set h.few;
          least = h.least;
          room = h.room;
          limit = h.limit;
          moving = h.moving;
          once = out_once;
          slots = λ s.
              ⊎_elim
              (λ (e : s ≡ t). subst (λ x. Slot size heads (set link p (get_or link i none)) hash (without i ids) x) (sym e) later_out_here)
              (later_out_there s)
              (cases_eq s t);
        }

-- a table that starts to grow holds what it held
pub doubled : (slots : ℕ) (heads link hash ids : List ℕ) → 2 * slots ≤ length heads → Holds (slots, 0) heads link hash ids → Holds (2 * slots, slots) heads link hash ids
doubled slots heads link hash ids room h =
    record {
      few = h.few;
      least = omega (arith, h.least);
      room = room;
      limit = h.limit;
      moving = omega arith;
      once = h.once;
      slots = λ s.
          let c = h.slots s in
          (c.0, c.1, λ k. c.2 k ∙ ap (λ x. cond (eqb x s) (count k ids) 0) (sym (slot_doubled slots (get_or hash k 0) h.least)));
    }

-- a row that is not held may be written anew: the table does not see it
pub rewritten : (size : ℕ × ℕ) (heads link hash ids : List ℕ) (i u v : ℕ) → count i ids ≡ 0 → Holds size heads link hash ids → Holds size heads (set link i u) (set hash i v) ids
rewritten size heads link hash ids i u v out h =
    record {
      few = simp length-set h.few;
      least = h.least;
      room = h.room;
      limit = h.limit;
      moving = h.moving;
      once = h.once;
      slots = λ s.
          let c = h.slots s in
          let free : count i c.0 ≡ 0 = let e = c.2 i in grind (arith, nat_tests) in (
            c.0,
            chain_set link (get_or heads s none) c.0 i u free c.1,
            λ k.
                ⊎_elim
                (λ (e : k ≡ i).
                let a = ap (λ x. count x c.0) e in
                let b = ap (λ x. count x ids) e in
                grind (arith, nat_tests))
                (λ (ne : k ≡ i → ⊥). c.2 k ∙ ap (λ x. cond (eqb (slot size x) s) (count k ids) 0) (sym (get_or-set_other hash i k v 0 ne)))
                (cases_eq k i),
          );
    }
