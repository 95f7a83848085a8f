-- What follows for words of digits. Assumes nothing.
use Rattle.std.proofs.Common.{◌≡◌, ℕ, zero, suc, ◌≤◌, Bool, ◌&&◌, leb, List, [], ◌∷◌, take, fold, refl, arith}
use Rattle.std.specs.List.{list_all}
use Rattle.std.proofs.lemmas.List.Recursion.{same_from_clauses}
use Rattle.sizing.specs.Words.{all_digits, one_digit_more}

abbrev pub is_digit : ℕ → Bool
is_digit byte = leb 48 byte && leb byte 57

pub digits_all : (word : List ℕ) → list_all is_digit word ≡ all_digits word
digits_all = same_from_clauses (list_all is_digit) all_digits (λ byte rest. is_digit byte && rest) refl (λ _ _. refl) (λ _ _. refl)

-- more digits write no smaller number
grows : (n : ℕ) (word : List ℕ) → n ≤ fold one_digit_more n word
grows n [] = omega arith
grows n (byte ∷ word) = let g = grows (one_digit_more n byte) word in omega arith

pub no_less : (n : ℕ) (word : List ℕ) (i : ℕ) → fold one_digit_more n (take i word) ≤ fold one_digit_more n word
no_less n [] zero = omega arith
no_less n [] (suc i) = omega arith
no_less n (byte ∷ word) zero = grows n (byte ∷ word)
no_less n (byte ∷ word) (suc i) = no_less (one_digit_more n byte) word i
