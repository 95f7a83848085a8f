-- The numbers of a line, and how small and how large each may be.
use Rattle.std.specs.Prelude.{ℕ, Bool, ◌&&◌, nat_le}
use Rattle.sizing.specs.declared.kind.Field.{Field}
use Rattle.sizing.specs.declared.kind.Field.TheVariants.{Key, Block, Count}

-- a key has a byte at least, data may be empty, and a kind of which there is no record is a mistake
abbrev pub least_of : Field → ℕ
least_of Key = 1
least_of Block = 0
least_of Count = 1

-- keys have up to 250 bytes, data up to 60,000, and a count fits 64 bits
abbrev pub most_of : Field → ℕ
most_of Key = 250
most_of Block = 60000
most_of Count = 18446744073709551615

abbrev pub in_range : Field → ℕ → Bool
in_range field number = nat_le (least_of field) number && nat_le number (most_of field)
