-- The rows of an old slot are cut off, and put into the table again.
use Rattle.std.proofs.Common.{◌≡◌, ℕ, ◌+◌, ◌-◌, ◌<◌, ◌≤◌, cond, eqb, List, [], ◌∷◌, map, length, get_or, set, sym, refl, ap, ◌∙◌, subst, ⊎_elim, arith, length-set}
use native.Mathlib.Bridge.{le_prop}
use mathlib.Core.Logic.{∥∥₁_elim}
use lib.ListN.{length-map}
use Rattle.std.proofs.lemmas.List.{get_or_default, get_or-set_same, get_or-set_other, get_or-map, get_or_past}
use Rattle.std.proofs.lemmas.Bool.{cases_eq, cases_lt}
use Rattle.std.proofs.lemmas.Bool.Decides.{nat_tests}
use Rattle.recency.specs.Numbers.{none, count, without, Apart}
use Rattle.recency.proofs.Counts.{count_without}
use Rattle.recency.proofs.Links.{present_head}
use Rattle.chained.specs.Growth.{slot}
use Rattle.chained.specs.Chains.{Chain, Slot, Holds, poured}
use Rattle.chained.proofs.Sizes.{slot_moved}
use Rattle.chained.proofs.Walks.{chain_step, chain_from, chain_agree, steps, steps_less}

pub count_poured : (k : ℕ) (rest ids : List ℕ) → count k (poured rest ids) ≡ count k rest + count k ids
count_poured k [] ids = omega arith
count_poured k (x ∷ rest) ids = let h = count_poured k rest (x ∷ ids) in omega arith

-- the rows of a list that are not in a chain
pub less : List ℕ → List ℕ → List ℕ
less [] ids = ids
less (x ∷ chain) ids = without x (less chain ids)

pub count_less : (k : ℕ) (chain ids : List ℕ) → count k (less chain ids) ≡ cond (eqb (count k chain) 0) (count k ids) 0
unfolding less
count_less k [] ids = refl
count_less k (x ∷ chain) ids =
    let h = count_less k chain ids in
    let e = count_without k x (less chain ids) in
    grind (arith, nat_tests)

-- what a table holds is told by the counts
pub recount : (size : ℕ × ℕ) (heads link hash ids ids' : List ℕ) → ((k : ℕ) → count k ids' ≡ count k ids) → Holds size heads link hash ids → Holds size heads link hash ids'
recount size heads link hash ids ids' same h =
    record {
      few = h.few;
      least = h.least;
      room = h.room;
      limit = h.limit;
      moving = h.moving;
      once = λ k. omega (arith, same k, h.once k);
      slots = λ s.
          let c = h.slots s in
          (c.0, c.1, λ k. c.2 k ∙ ap (λ n. cond (eqb (slot size (get_or hash k 0)) s) n 0) (sym (same k)));
    }

cut_here : (sk sk' s a b l : ℕ) → ((sk ≡ s → ⊥) → sk' ≡ sk) → a ≡ cond (eqb sk s) b 0 → l ≡ cond (eqb a 0) b 0 → 0 ≡ cond (eqb sk' s) l 0
cut_here sk sk' s a b l stays e f = grind (arith, nat_tests)

cut_there : (sk sk' s t a x b l : ℕ) → ((sk ≡ s → ⊥) → sk' ≡ sk) → (t ≡ s → ⊥) → a ≡ cond (eqb sk s) b 0 → l ≡ cond (eqb a 0) b 0 → x ≡ cond (eqb sk t) b 0 → x ≡ cond (eqb sk' t) l 0
cut_there sk sk' s t a x b l stays ne e f g = grind (arith, nat_tests)

-- the last old slot is cut off
module _ {slots unmoved : ℕ} {heads link hash ids : List ℕ} (h : Holds (slots, unmoved) heads link hash ids) (some : 0 < unmoved) where
  pub off : List ℕ
  off = (h.slots (unmoved - 1)).0

  stays : (k : ℕ) → (slot (slots, unmoved) (get_or hash k 0) ≡ unmoved - 1 → ⊥) → slot (slots, unmoved - 1) (get_or hash k 0) ≡ slot (slots, unmoved) (get_or hash k 0)
  stays k ne = slot_moved slots unmoved (get_or hash k 0) some ne

  pub old_below : unmoved - 1 < length heads
  old_below = omega (arith, h.moving, h.room, h.least)

  pub off_chain : Chain link (get_or heads (unmoved - 1) 0) off
  unfolding off
  off_chain = subst (λ f. Chain link f off) (sym (get_or_default heads (unmoved - 1) 0 none old_below)) (h.slots (unmoved - 1)).1

  pub off_apart : Apart off (less off ids)
  unfolding off
  off_apart k = let e = (h.slots (unmoved - 1)).2 k in let o = h.once k in let l = count_less k off ids in grind (arith, nat_tests)

  pub off_counts : (k : ℕ) → count k ids ≡ count k (poured off (less off ids))
  unfolding off
  off_counts k =
      let e = (h.slots (unmoved - 1)).2 k in
      let l = count_less k off ids in
      let p = count_poured k off (less off ids) in
      grind (arith, nat_tests)

  cut_slot : (t : ℕ) → Slot (slots, unmoved - 1) (set heads (unmoved - 1) none) link hash (less off ids) t
  unfolding off
  cut_slot t =
      ⊎_elim
      (λ (e : t ≡ unmoved - 1). (
        [],
        ap (λ x. get_or (set heads (unmoved - 1) none) x none) e ∙ get_or-set_same heads (unmoved - 1) none none old_below,
        λ k.
            cut_here (slot (slots, unmoved) (get_or hash k 0)) (slot (slots, unmoved - 1) (get_or hash k 0)) (unmoved - 1) (count k off) (count k ids) (count k (less off ids)) (stays k) ((h.slots (unmoved - 1)).2 k) (count_less k off ids)
            ∙ ap (λ x. cond (eqb (slot (slots, unmoved - 1) (get_or hash k 0)) x) (count k (less off ids)) 0) (sym e),
      ))
      (λ (ne : t ≡ unmoved - 1 → ⊥).
      let c = h.slots t in (
        c.0,
        chain_from link (get_or heads t none) (get_or (set heads (unmoved - 1) none) t none) c.0 (sym (get_or-set_other heads (unmoved - 1) t none none ne)) c.1,
        λ k.
            cut_there (slot (slots, unmoved) (get_or hash k 0)) (slot (slots, unmoved - 1) (get_or hash k 0)) (unmoved - 1) t (count k off) (count k c.0) (count k ids) (count k (less off ids)) (stays k) ne ((h.slots (unmoved - 1)).2 k) (count_less k off ids) (c.2 k),
      ))
      (cases_eq t (unmoved - 1))

  pub cut_off : Holds (slots, unmoved - 1) (set heads (unmoved - 1) none) link hash (less off ids)
  cut_off =
      record {
        few = h.few;
        least = h.least;
        room = simp length-set h.room;
        limit = simp length-set h.limit;
        moving = omega (arith, h.moving);
        once = λ k. let o = h.once k in let l = count_less k off ids in grind (arith, nat_tests);
        slots = cut_slot;
      }

-- the table holds some rows, a chain of others begins at `at`, and in the end it will hold `goal`
abbrev pub Pouring : ℕ × ℕ → List ℕ → List ℕ → List ℕ → ℕ → List ℕ → Type 0
Pouring size heads link hash at goal =
    (ids : List ℕ) × (rest : List ℕ) × Holds size heads link hash ids × Chain link at rest × Apart rest ids × (poured rest ids ≡ goal)

pub pour_end : {size : ℕ × ℕ} {heads link hash : List ℕ} {at : ℕ} {goal : List ℕ} → at ≡ none → Pouring size heads link hash at goal → Holds size heads link hash goal
pour_end {size} {heads} {link} {hash} {at} {goal} e p = go p.1 p.3 p.5
  where
    go : (rest : List ℕ) → Chain link at rest → poured rest p.0 ≡ goal → Holds size heads link hash goal
    go [] ch done = subst (λ xs. Holds size heads link hash xs) done p.2
    go (x ∷ rest) ch done = absurd (omega (arith, ch.0, ch.1, p.2.few, e))

-- the next row of the chain
module _ {size : ℕ × ℕ} {heads link hash : List ℕ} {at : ℕ} {goal : List ℕ} (p : Pouring size heads link hash at goal) (ne : at ≡ none → ⊥) where
  pub pour_within : at < length link
  pour_within = (chain_step link at p.1 ne p.3).2

  pub pour_out : count at p.0 ≡ 0
  pour_out =
      let s = chain_step link at p.1 ne p.3 in
      omega (arith, p.4 at, ap (λ ys. count at ys) s.1, present_head at s.0)

  module _ (link' : List ℕ) {to : ℕ} (same : length link' ≡ length link) (agree : (k : ℕ) → (k ≡ at → ⊥) → get_or link' k none ≡ get_or link k none) (te : to ≡ get_or link at none) where
    next_chain : Chain link' to (chain_step link at p.1 ne p.3).0
    next_chain =
        let s = chain_step link at p.1 ne p.3 in
        chain_agree link link' to s.0 same
        (λ k h. agree k (λ e. omega (arith, p.4 at, ap (λ ys. count at ys) s.1, present_head at s.0, ap (λ y. count y s.0) e)))
        (subst (λ f. Chain link f s.0) (sym te) s.3)

    pub pour_less : steps (length link') link' to < steps (length link) link at
    pour_less =
        let s = chain_step link at p.1 ne p.3 in
        steps_less link link' at to s.0 p.2.few same
        (λ k. omega (arith, p.4 k, ap (λ ys. count k ys) s.1))
        (subst (λ ys. Chain link at ys) s.1 p.3)
        next_chain

    pub pour_more : {heads' hash' : List ℕ} → Holds size heads' link' hash' (at ∷ p.0) → Pouring size heads' link' hash' to goal
    pour_more h =
        let s = chain_step link at p.1 ne p.3 in (
          at ∷ p.0,
          s.0,
          h,
          next_chain,
          λ k. omega (arith, p.4 k, ap (λ ys. count k ys) s.1),
          ap (λ ys. poured ys p.0) (sym s.1) ∙ p.5,
        )

-- the same, where some rows are only known to be there
pub pours_row : {R : Type 0} {size : ℕ × ℕ} {heads hash : List ℕ} {at : ℕ} (link_of : R → ℕ) (rows : List R) → ∥ ((goal : List ℕ) × Pouring size heads (map link_of rows) hash at goal) ∥₁ → (at ≡ none → ⊥) → at < length rows
pours_row link_of rows pours ne = omega (arith, ∥∥₁_elim pours le_prop (λ x. pour_within x.1 ne), length-map rows link_of)

-- columns of the same rows are of one length
pub columns_even : {R : Type 0} (bare : R → R) (f : R → ℕ) (new old : List R) → map bare new ≡ map bare old → length (map f new) ≡ length (map f old)
columns_even bare f new old rest = length-map new f ∙ sym (length-map new bare) ∙ ap length rest ∙ length-map old bare ∙ sym (length-map old f)

-- a column agrees where the rows do
pub column_agree : {R : Type 0} (f : R → ℕ) (new old : List R) (at : ℕ) → length (map f new) ≡ length (map f old) → ((k : ℕ) (d : R) → (k ≡ at → ⊥) → get_or new k d ≡ get_or old k d) → (k : ℕ) → (k ≡ at → ⊥) → get_or (map f new) k none ≡ get_or (map f old) k none
column_agree f new [] at same agree k off = get_or_past (map f new) k none (omega arith)
column_agree f new (r ∷ old) at same agree k off =
    let n = length-map new f in
    let o = length-map (r ∷ old) f in
    ⊎_elim
    (λ (lt : k < length (r ∷ old)). get_or-map f new k r none (omega arith) ∙ ap f (agree k r off) ∙ sym (get_or-map f (r ∷ old) k r none lt))
    (λ (past : length (r ∷ old) ≤ k). get_or_past (map f new) k none (omega arith) ∙ sym (get_or_past (map f (r ∷ old)) k none (omega arith)))
    (cases_lt k (length (r ∷ old)))
