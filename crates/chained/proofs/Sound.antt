-- What a table that is known to be sound, and no more, tells.
use Rattle.std.proofs.Common.{◌≡◌, ℕ, ◌<◌, ◌≤◌, cond, eqb, List, [], ◌∷◌, length, get_or, set, sym, ap, ◌∙◌, ⊎_elim, arith}
use native.Mathlib.Bridge.{le_prop}
use mathlib.Core.Logic.{∥∥₁_elim, ∥∥₁_map}
use Rattle.std.proofs.lemmas.List.{get_or_default, get_or-set_other}
use Rattle.std.proofs.lemmas.Bool.{cases_eq}
use Rattle.std.proofs.lemmas.Bool.Decides.{nat_tests}
use Rattle.recency.proofs.Links.{present_head}
use Rattle.recency.specs.Numbers.{none, count}
use Rattle.chained.specs.Growth.{slot}
use Rattle.chained.specs.Chains.{Chain, Holds}
use Rattle.chained.proofs.Sizes.{slot_below}

-- the table holds some rows
abbrev pub Sound : ℕ × ℕ → List ℕ → List ℕ → List ℕ → Type 0
Sound size heads link hash = ∥ ((ids : List ℕ) × Holds size heads link hash ids) ∥₁

pub sound_of : {P : List ℕ → Type 0} {size : ℕ × ℕ} {heads link hash : List ℕ} → ∥ ((ids : List ℕ) × Holds size heads link hash ids × P ids) ∥₁ → Sound size heads link hash
sound_of t = ∥∥₁_map t (λ s. (s.0, s.1))

pub least_of : {size : ℕ × ℕ} {heads link hash : List ℕ} → Sound size heads link hash → 16 ≤ size.0
least_of t = ∥∥₁_elim t le_prop (λ s. s.1.least)

pub few_of : {size : ℕ × ℕ} {heads link hash : List ℕ} → Sound size heads link hash → length link ≤ none
few_of t = ∥∥₁_elim t le_prop (λ s. s.1.few)

pub home_of : {size : ℕ × ℕ} {heads link hash : List ℕ} {x : ℕ} (h : ℕ) → Sound size heads link hash → x ≡ slot size h → x < length heads
home_of {size} h t e =
    ∥∥₁_elim t le_prop (λ s. omega (arith, slot_below size.0 size.1 h s.1.least s.1.moving, s.1.room, e))

-- the head of a slot in use, whatever stands for a head past them all
pub head_of : {size : ℕ × ℕ} {heads link hash : List ℕ} {x : ℕ} (h : ℕ) → Sound size heads link hash → x ≡ slot size h → get_or heads x 0 ≡ get_or heads x none
head_of {size} {heads} {x = x} h t e = get_or_default heads x 0 none (home_of h t e)

pub holds_as : (size : ℕ × ℕ) (ids : List ℕ) {heads heads' link link' hash hash' : List ℕ} → heads' ≡ heads → link' ≡ link → hash' ≡ hash → Holds size heads link hash ids → Holds size heads' link' hash' ids
holds_as size ids eh el ea h = rw (eh, el, ea) h

-- the hash of a row that a table does not hold may be any
pub rehashed : (size : ℕ × ℕ) (heads link hash ids : List ℕ) (i v : ℕ) → count i ids ≡ 0 → Holds size heads link hash ids → Holds size heads link (set hash i v) ids
rehashed size heads link hash ids i v out h =
    record {
      few = h.few;
      least = h.least;
      room = h.room;
      limit = h.limit;
      moving = h.moving;
      once = h.once;
      slots = λ s. (
        (h.slots s).0,
        (h.slots s).1,
        λ k.
            ⊎_elim
            (λ (e : k ≡ i). let z : count k ids ≡ 0 = ap (λ x. count x ids) e ∙ out in (h.slots s).2 k ∙ absent_either (eqb (slot size (get_or hash k 0)) s) (eqb (slot size (get_or (set hash i v) k 0)) s) (count k ids) z)
            (λ (ne : k ≡ i → ⊥). (h.slots s).2 k ∙ ap (λ x. cond (eqb (slot size x) s) (count k ids) 0) (sym (get_or-set_other hash i k v 0 ne)))
            (cases_eq k i),
      );
    }
  where
    absent_either : (a b : _) (n : ℕ) → n ≡ 0 → cond a n 0 ≡ cond b n 0
    absent_either a b n e = grind arith

-- a slot past those in use is empty
pub past_empty : {size : ℕ × ℕ} {heads link hash ids : List ℕ} (s : ℕ) → Holds size heads link hash ids → size.0 ≤ s → get_or heads s none ≡ none
past_empty {size} {heads} {link} {hash} {ids} s h past = go (h.slots s).0 (h.slots s).1 (h.slots s).2
  where
    go : (chain : List ℕ) → Chain link (get_or heads s none) chain → ((i : ℕ) → count i chain ≡ cond (eqb (slot size (get_or hash i 0)) s) (count i ids) 0) → get_or heads s none ≡ none
    go [] ch counts = ch
    go (x ∷ chain) ch counts =
        let e = counts x in
        let p = present_head x chain in
        let b = slot_below size.0 size.1 (get_or hash x 0) h.least h.moving in
        let z : ◌≡◌ {A = ℕ} 0 1 = grind (arith, nat_tests) in
        absurd (omega arith)

-- so it is the same after any change
pub past_same : {size size' : ℕ × ℕ} {heads heads' link link' hash hash' ids ids' : List ℕ} (s : ℕ) → Holds size heads link hash ids → Holds size' heads' link' hash' ids' → size'.0 ≡ size.0 → size.0 ≤ s → get_or heads' s none ≡ get_or heads s none
past_same s h h' same past = past_empty s h' (omega arith) ∙ sym (past_empty s h past)
