-- Texts in lent memory.
use Rattle.std.specs.Prelude.{ℕ, ◌+◌, cond, List, [], length, take, drop, nat_lt}

-- the text of a length at a place, or none where the memory ends before it does
abbrev pub text_at : List ℕ → ℕ → ℕ → List ℕ
text_at bytes at len = cond (nat_lt (length bytes) (at + len)) [] (take len (drop at bytes))
