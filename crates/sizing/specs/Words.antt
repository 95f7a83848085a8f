-- The words of a line, and the number that a word writes. A byte is a number below 256.
use Rattle.std.specs.Prelude.{ℕ, ◌+◌, ◌-◌, ◌*◌, Bool, true, false, not, ◌&&◌, ◌||◌, List, [], ◌∷◌, take, drop, fold, ◌==◌, nat_le}
use Rattle.std.specs.List.{prefix_len}

-- space and tab stand between words, and so does what ends a line: carriage return and line feed
abbrev pub blank : ℕ → Bool
blank byte = byte == 32 || byte == 9 || byte == 13 || byte == 10

-- a byte that is a blank, where blanks are meant, and one that is none, where they are not
abbrev pub in_run : Bool → ℕ → Bool
in_run true byte = blank byte
in_run false byte = not (blank byte)

-- a line without the blanks at its front
abbrev pub past_blanks : List ℕ → List ℕ
past_blanks line = drop (prefix_len (in_run true) line) line

-- the bytes from the first that is no blank up to the next blank
abbrev pub first_word : List ℕ → List ℕ
first_word line = take (prefix_len (in_run false) (past_blanks line)) (past_blanks line)

-- what stands after that word
abbrev pub after_word : List ℕ → List ℕ
after_word line = drop (prefix_len (in_run false) (past_blanks line)) (past_blanks line)

-- every byte is one of the digits '0' to '9'
abbrev pub all_digits : List ℕ → Bool
all_digits [] = true
all_digits (byte ∷ bytes) = (nat_le 48 byte && nat_le byte 57) && all_digits bytes

abbrev pub one_digit_more : ℕ → ℕ → ℕ
one_digit_more number byte = number * 10 + (byte - 48)

-- the number that digits write, the first one the highest
abbrev pub decimal : List ℕ → ℕ
decimal digits = fold one_digit_more 0 digits
