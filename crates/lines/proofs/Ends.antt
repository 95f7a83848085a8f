-- The search for the end of the line.
use Rattle.std.proofs.Common.{◌≡◌, ℕ, zero, suc, ◌<◌, Bool, true, false, cond, ◌&&◌, eqb, List, [], ◌∷◌, length, get_or, Some, None, Option, MatchOption, sym, refl, ap, ◌∙◌, ⊎_elim, arith}
use Rattle.lines.specs.Tokens.{first_crlf, later}
use Rattle.std.proofs.lemmas.Bool.{and_left, and_right, and_from, cases_eq, cond-true, cond-false, eq-eqb, ne_eqb}

-- A CR with an LF right behind it stands at this place.
abbrev pub EndsAt : List ℕ → ℕ → Type 0
EndsAt xs i = (get_or xs i 0 ≡ 13) × (get_or xs (suc i) 0 ≡ 10)

-- The place of the first of them, if there is one.
abbrev pub FindsEnd : List ℕ → Option ℕ → Type 0
FindsEnd xs r =
    MatchOption r ((k : ℕ) → suc k < length xs → EndsAt xs k → ⊥)
    (λ i. (suc i < length xs) × EndsAt xs i × ((k : ℕ) → k < i → EndsAt xs k → ⊥))

and_true : (b : Bool) → (b && true) ≡ b
and_true true = refl
and_true false = refl

and_false : (b : Bool) → (b && false) ≡ false
and_false true = refl
and_false false = refl

module _ (a b : ℕ) (r : List ℕ) where
  pair : first_crlf (a ∷ b ∷ r) ≡ cond (eqb a 13 && eqb b 10) (Some 0) (later (first_crlf (b ∷ r)))
  pair = ap (λ t. cond (eqb a 13 && t) (Some 0) (later (first_crlf (b ∷ r)))) (and_true (eqb b 10))

  here : EndsAt (a ∷ b ∷ r) 0 → first_crlf (a ∷ b ∷ r) ≡ Some 0
  here h = pair ∙ cond-true _ _ _ (and_from _ _ (eq-eqb a 13 h.0) (eq-eqb b 10 h.1))

  passed : (EndsAt (a ∷ b ∷ r) 0 → ⊥) → first_crlf (a ∷ b ∷ r) ≡ later (first_crlf (b ∷ r))
  passed h =
      let other : (eqb a 13 && eqb b 10) ≡ false = ⊎_elim
      (λ (e : a ≡ 13). and_right (eqb a 13) (eqb b 10) (ne_eqb b 10 (λ f. h (e, f))))
      (λ ne. and_left (eqb a 13) (eqb b 10) (ne_eqb a 13 ne))
      (cases_eq a 13) in
      pair ∙ cond-false _ _ _ other

pub found_end : (xs : List ℕ) (r : Option ℕ) → FindsEnd xs r → r ≡ first_crlf xs
found_end [] None h = refl
found_end [] (Some i) h = absurd (omega (arith, h.0))
found_end (a ∷ []) None h = sym (ap (λ t. cond t (Some 0) None) (and_false (eqb a 13)))
found_end (a ∷ []) (Some i) h = absurd (omega (arith, h.0))
found_end (a ∷ b ∷ r) None h =
    ap later (found_end (b ∷ r) None (λ k l e. h (suc k) (omega arith) e)) ∙ sym (passed a b r (h 0 (omega arith)))
found_end (a ∷ b ∷ r) (Some zero) h = sym (here a b r h.1)
found_end (a ∷ b ∷ r) (Some (suc i)) h =
    ap later (found_end (b ∷ r) (Some i) (omega (arith, h.0), h.1, λ k l e. h.2 (suc k) (omega arith) e)) ∙ sym (passed a b r (h.2 0 (omega arith)))
