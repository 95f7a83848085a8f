-- The room that a record takes in its chunk.
use Rattle.std.specs.Prelude.{ℕ, ◌+◌}

-- a chunk holds the key and then the data
abbrev pub need_of : ℕ → ℕ → ℕ
need_of key block = key + block
