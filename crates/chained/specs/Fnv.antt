-- The 32-bit hash FNV-1a of a list of bytes.
use Rattle.std.specs.Prelude.{ℕ, ◌*◌, ◌%◌, ◌^◌, List, fold, bit_xor}

-- the hash goes over the bytes from the first to the last: exclusive or with the byte, then a multiplication that wraps
abbrev pub fnv_from : ℕ → List ℕ → ℕ
fnv_from h bytes = fold (λ hash byte. (bit_xor hash byte * 16777619) % 2 ^ 32) h bytes

abbrev pub fnv : List ℕ → ℕ
fnv bytes = fnv_from 2166136261 bytes
