-- Sessions of one caller in a list, and the list without them.
use Rattle.std.proofs.Common.{◌≡◌, ℕ, ◌+◌, ◌<◌, ◌≤◌, Bool, true, false, cond, not, eqb, List, [], ◌∷◌, ◌++◌, map, length, get_or, set, Some, None, filter, sym, refl, ap, ◌∙◌, ap₂, arith, length-append}
use Rattle.std.proofs.lemmas.List.{map-append, get_or-set_other, get_or-set_same}
use Rattle.std.proofs.lemmas.List.Elements.{filter-append}
use Rattle.std.proofs.lemmas.Bool.{eq-eqb, ne_eqb, cond-false}
use Rattle.std.proofs.lemmas.Bool.Decides.{nat_tests}
use Rattle.recency.specs.Numbers.{count, without}
use Rattle.recency.proofs.Counts.{split, without_split}
use Rattle.recency.proofs.Links.{absent_head, present_head}
use Rattle.model.specs.Calls.{Session, of_caller, not_of, served}
use Rattle.model.specs.Store.{first}
use Rattle.sessions.specs.Orders.{Distinct}

-- without the sessions of a caller, every other caller has as many as before
pub gone : (k c : ℕ) (xs : List Session) → length (filter (of_caller k) (filter (not_of c) xs)) ≡ cond (eqb k c) 0 (length (filter (of_caller k) xs))
gone k c [] = grind (arith, nat_tests)
gone k c (x ∷ xs) = go (eqb x.caller c) refl (gone k c xs)
  where
    go : (b : Bool) → eqb x.caller c ≡ b → length (filter (of_caller k) (filter (not_of c) xs)) ≡ cond (eqb k c) 0 (length (filter (of_caller k) xs)) → length (filter (of_caller k) (cond (not b) (x ∷ filter (not_of c) xs) (filter (not_of c) xs))) ≡ cond (eqb k c) 0 (length (filter (of_caller k) (x ∷ xs)))
    go true e ih = grind (arith, nat_tests)
    go false e ih = grind (arith, nat_tests)

pub distinct_left : (c : ℕ) (xs : List Session) → Distinct xs → Distinct (filter (not_of c) xs)
distinct_left c xs d k = let e = gone k c xs in let h = d k in grind (arith, nat_tests)

pub distinct_served : (c now : ℕ) (xs : List Session) → Distinct xs → Distinct (served c now xs)
distinct_served c now xs d k = let e = gone k c xs in let h = d k in grind (arith, nat_tests)

-- a caller that has no session leaves nothing out
pub none_of : (c : ℕ) (xs : List Session) → length (filter (of_caller c) xs) ≡ 0 → filter (not_of c) xs ≡ xs
none_of c [] e = refl
none_of c (x ∷ xs) e = go (eqb x.caller c) (λ h. none_of c xs h) e
  where
    go : (b : Bool) → (length (filter (of_caller c) xs) ≡ 0 → filter (not_of c) xs ≡ xs) → length (cond b (x ∷ filter (of_caller c) xs) (filter (of_caller c) xs)) ≡ 0 → cond (not b) (x ∷ filter (not_of c) xs) (filter (not_of c) xs) ≡ x ∷ xs
    go true r h = absurd (omega arith)
    go false r h = ap (λ ys. x ∷ ys) (r h)

pub absent : (c : ℕ) (xs : List Session) → first (of_caller c) xs ≡ None → filter (not_of c) xs ≡ xs
absent c [] e = refl
absent c (x ∷ xs) e = go (eqb x.caller c) (λ h. absent c xs h) e
  where
    go : (b : Bool) → (first (of_caller c) xs ≡ None → filter (not_of c) xs ≡ xs) → cond b (Some x) (first (of_caller c) xs) ≡ None → cond (not b) (x ∷ filter (not_of c) xs) (filter (not_of c) xs) ≡ x ∷ xs
    go true r h = let z : ◌≡◌ {A = ℕ} 0 1 = cc in absurd (omega arith)
    go false r h = ap (λ ys. x ∷ ys) (r h)

-- the row of a caller's session is left out
module _ (f : ℕ → Session) (i c : ℕ) (of : (f i).caller ≡ c) where
  at_split : (a b : List ℕ) → length (filter (of_caller c) (map f (a ++ i ∷ b))) ≤ 1 → filter (not_of c) (map f (a ++ i ∷ b)) ≡ map f (a ++ b)
  at_split a b h =
      let t : eqb (f i).caller c ≡ true = eq-eqb (f i).caller c of in
      let both : filter (of_caller c) (map f (a ++ i ∷ b)) ≡ filter (of_caller c) (map f a) ++ filter (of_caller c) (f i ∷ map f b) =
      ap (filter (of_caller c)) (map-append f a (i ∷ b)) ∙ filter-append (of_caller c) (map f a) (f i ∷ map f b) in
      let here : filter (of_caller c) (f i ∷ map f b) ≡ f i ∷ filter (of_caller c) (map f b) =
      ap (λ s. cond s (f i ∷ filter (of_caller c) (map f b)) (filter (of_caller c) (map f b))) t in
      let long : length (filter (of_caller c) (map f (a ++ i ∷ b))) ≡ length (filter (of_caller c) (map f a)) + (length (filter (of_caller c) (map f b)) + 1) =
      ap length both ∙ length-append (filter (of_caller c) (map f a)) (filter (of_caller c) (f i ∷ map f b)) ∙ omega (arith, ap length here) in
      let ahead : filter (not_of c) (map f a) ≡ map f a = none_of c (map f a) (omega arith) in
      let behind : filter (not_of c) (map f b) ≡ map f b = none_of c (map f b) (omega arith) in
      let rest : filter (not_of c) (f i ∷ map f b) ≡ map f b =
      ap (λ s. cond (not s) (f i ∷ filter (not_of c) (map f b)) (filter (not_of c) (map f b))) t ∙ behind in
      ap (filter (not_of c)) (map-append f a (i ∷ b)) ∙ filter-append (not_of c) (map f a) (f i ∷ map f b) ∙ ap₂ ◌++◌ ahead rest ∙ sym (map-append f a b)

  pub left_out : (ids : List ℕ) → count i ids ≡ 1 → Distinct (map f ids) → map f (without i ids) ≡ filter (not_of c) (map f ids)
  left_out ids here d = go (split i ids (omega arith))
    where
      go : (a : List ℕ) × (b : List ℕ) × (ids ≡ a ++ i ∷ b) → map f (without i ids) ≡ filter (not_of c) (map f ids)
      go s =
          let h : count i (s.0 ++ i ∷ s.1) ≤ 1 = omega (arith, ap (count i) s.2) in
          let g : length (filter (of_caller c) (map f (s.0 ++ i ∷ s.1))) ≤ 1 = omega (arith, d c, ap (λ ys. length (filter (of_caller c) (map f ys))) s.2) in
          ap (λ ys. map f (without i ys)) s.2 ∙ ap (map f) (without_split i s.0 s.1 h) ∙ sym (at_split s.0 s.1 g) ∙ ap (λ ys. filter (not_of c) (map f ys)) (sym s.2)

-- a row that is not among the others may say anything
pub said_elsewhere : {X : Type 0} (col : List X) (i : ℕ) (v d : X) (ids : List ℕ) → count i ids ≡ 0 → map (λ k. get_or (set col i v) k d) ids ≡ map (λ k. get_or col k d) ids
said_elsewhere col i v d [] out = refl
said_elsewhere col i v d (x ∷ ids) out =
    let o = absent_head i x ids out in
    ap₂ (λ y ys. y ∷ ys) (get_or-set_other col i x v d o.0) (said_elsewhere col i v d ids o.1)

-- in front of the others, a row says what was written into it
pub said_in_front : {X : Type 0} (col : List X) (i : ℕ) (v d : X) (ids : List ℕ) → i < length col → count i ids ≡ 0 → map (λ k. get_or (set col i v) k d) (i ∷ ids) ≡ v ∷ map (λ k. get_or col k d) ids
said_in_front col i v d ids lt out = ap₂ (λ y ys. y ∷ ys) (get_or-set_same col i v d lt) (said_elsewhere col i v d ids out)

-- where no row is the caller's, the caller has no session
pub not_among : (f : ℕ → Session) (c : ℕ) (ids : List ℕ) → ((k : ℕ) → 0 < count k ids → (f k).caller ≡ c → ⊥) → first (of_caller c) (map f ids) ≡ None
not_among f c [] never = refl
not_among f c (x ∷ ids) never =
    cond-false (eqb (f x).caller c) (Some (f x)) (first (of_caller c) (map f ids)) (ne_eqb (f x).caller c (never x (omega (arith, present_head x ids))))
    ∙ not_among f c ids (λ k h. never k (omega (arith, h)))
