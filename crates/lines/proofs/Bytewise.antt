-- Keys and numbers, byte by byte.
use Rattle.std.proofs.Common.{◌≡◌, ℕ, zero, suc, ◌+◌, ◌-◌, ◌*◌, ◌<◌, ◌≤◌, Bool, true, ◌&&◌, List, [], ◌∷◌, length, get_or, drop, Some, None, sym, refl, ap, ◌∙◌, arith}
use Rattle.lines.specs.Numbers.{good_key, good_keys, key_byte, key_bytes, value, value_after, number_of, exptime_of, above_zero}
use Rattle.std.proofs.lemmas.List.{at_drop_all, at_drop_more}
use Rattle.std.proofs.lemmas.List.Recursion.{same_from_clauses}
use Rattle.std.specs.List.{list_all, range_with_len}
use Rattle.std.proofs.lemmas.Bool.{cond-false, ne_eqb}
use Rattle.std.proofs.lemmas.Bool.Decides.{nat_tests}
use Rattle.std.specs.Str.{all_ascii_digits}

-- A test that each element of a list has to pass, at the place where a loop stands.
module _ {A : Type 0} (d : A) (p : A → Bool) (f : List A → Bool) (step : (x : A) (xs : List A) → f (x ∷ xs) ≡ (p x && f xs)) (xs : List A) (i : ℕ) (l : i < length xs) where
  pub passes : p (get_or xs i d) ≡ true → f (drop i xs) ≡ f (drop (i + 1) xs)
  passes e = at_drop_more f xs i d l ∙ step _ _ ∙ ap (λ b. b && f (drop (i + 1) xs)) e

-- Each byte of a key, and each of the keys from a place on.
pub all_key_bytes : (k : List ℕ) → list_all key_byte k ≡ key_bytes k
all_key_bytes = same_from_clauses (list_all key_byte) key_bytes (λ b good. key_byte b && good) refl (λ _ _. refl) (λ _ _. refl)

pub keys_from : (ts : List (List ℕ)) (at n : ℕ) → n ≡ length ts - at → list_all (λ i. good_key (get_or ts i [])) (range_with_len at n) ≡ good_keys (drop at ts)
keys_from ts at zero e = sym (at_drop_all good_keys ts at (omega arith))
keys_from ts at (suc n) e =
    ap (λ good. good_key (get_or ts at []) && good) (keys_from ts (at + 1) n (omega arith)) ∙ sym (at_drop_more good_keys ts at [] (omega arith))

-- A key of lawful length is good just if its bytes are.
pub good_key_by_bytes : (k : List ℕ) → 0 < length k → length k ≤ 250 → good_key k ≡ key_bytes k
good_key_by_bytes k some short = grind (arith, nat_tests)

-- The number so far is at most the whole.
pub value_grows : (n : ℕ) (cs : List ℕ) → n ≤ value_after n cs
value_grows n [] = omega arith
value_grows n (c ∷ cs) = let h = value_grows (n * 10 + (c - 48)) cs in omega arith

-- A token that writes a number, and one whose number is too large.
module _ (most top : ℕ) (t : List ℕ) where
  pub number_good : 0 < length t → length t ≤ most → all_ascii_digits t ≡ true → value t ≤ top → number_of most top t ≡ Some (value t)
  number_good some short digits small = grind (arith, nat_tests)

  pub number_large : top < value t → number_of most top t ≡ None
  number_large large = grind (arith, nat_tests)

-- An exptime without a minus.
pub exptime_plain : (t : List ℕ) → 0 < length t → (get_or t 0 0 ≡ 45 → ⊥) → exptime_of t ≡ above_zero (number_of 10 2147483647 t)
exptime_plain [] some e = absurd (omega arith)
exptime_plain (c ∷ cs) some e = cond-false _ _ _ (ne_eqb c 45 e)

-- The number that a token writes is at most the top.
pub number_bounded : (most top : ℕ) (t : List ℕ) (n : ℕ) → Some n ≡ number_of most top t → n ≤ top
number_bounded most top t n e = grind (arith, nat_tests)
