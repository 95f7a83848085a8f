-- Keys and numbers, as tokens write them.
use Rattle.std.specs.Prelude.{ℕ, ◌+◌, ◌-◌, ◌*◌, Bool, true, cond, not, ◌&&◌, List, [], ◌∷◌, length, ℤ, pos, neg_ℤ, Some, None, Option, ◌==◌, nat_le, nat_lt}
use Rattle.std.specs.Str.{all_ascii_digits}

-- A byte that a key may have: no control byte, no space, no DEL.
abbrev pub key_byte : ℕ → Bool
key_byte b = nat_lt 32 b && not (b == 127)

-- Each byte is one that a key may have.
abbrev pub key_bytes : List ℕ → Bool
key_bytes [] = true
key_bytes (b ∷ bs) = key_byte b && key_bytes bs

-- A good key: 1 to 250 such bytes.
abbrev pub good_key : List ℕ → Bool
good_key k = nat_le 1 (length k) && nat_le (length k) 250 && key_bytes k

-- Each of these keys is a good one.
abbrev pub good_keys : List (List ℕ) → Bool
good_keys [] = true
good_keys (k ∷ ks) = good_key k && good_keys ks

-- The key that a token is, if it is a good one.
abbrev pub key_of : List ℕ → Option (List ℕ)
key_of token = cond (good_key token) (Some token) None

-- The number that digits write after the number n.
abbrev pub value_after : ℕ → List ℕ → ℕ
value_after n [] = n
value_after n (c ∷ cs) = value_after (n * 10 + (c - 48)) cs

-- The number that digits write in base ten.
abbrev pub value : List ℕ → ℕ
value ds = value_after 0 ds

-- The number that a token writes: digits alone, at least one and at most `most` of them, and a number of at most `top`.
abbrev pub number_of : ℕ → ℕ → List ℕ → Option ℕ
number_of most top token =
    cond (nat_le 1 (length token) && nat_le (length token) most && all_ascii_digits token && nat_le (value token) top)
    (Some (value token))
    None

-- Flags: 32 bits.
abbrev pub flags_of : List ℕ → Option ℕ
flags_of token = number_of 10 4294967295 token

-- The length of a data block: at most 60,000 bytes.
abbrev pub size_of : List ℕ → Option ℕ
size_of token = number_of 5 60000 token

-- A cas number: 64 bits.
abbrev pub cas_of : List ℕ → Option ℕ
cas_of token = number_of 20 18446744073709551615 token

-- A number with its sign.
abbrev pub above_zero : Option ℕ → Option ℤ
above_zero None = None
above_zero (Some n) = Some (pos n)

abbrev pub below_zero : Option ℕ → Option ℤ
below_zero None = None
below_zero (Some n) = Some (neg_ℤ (pos n))

-- An exptime: a minus or none, then digits; a signed number of 32 bits. So `-0` is 0, and `-` alone, `--1` and `+1` are none.
abbrev pub exptime_of : List ℕ → Option ℤ
exptime_of [] = None
exptime_of (c ∷ cs) =
    cond (c == 45) (below_zero (number_of 10 2147483648 cs)) (above_zero (number_of 10 2147483647 (c ∷ cs)))
