-- Lists of row numbers.
use Rattle.std.specs.Prelude.{ℕ, ◌+◌, ◌≤◌, cond, List, [], ◌∷◌, ◌==◌}

-- the number that stands for no row: rows are so few that it is past the last of them
abbrev pub none : ℕ
none = 4294967295

-- how often the row number k stands in a list
abbrev pub count : ℕ → List ℕ → ℕ
count k [] = 0
count k (x ∷ xs) = cond (k == x) 1 0 + count k xs

-- the list with the row number k left out
abbrev pub without : ℕ → List ℕ → List ℕ
without k [] = []
without k (x ∷ xs) = cond (k == x) (without k xs) (x ∷ without k xs)

-- no row number stands in both lists, nor twice in one
abbrev pub Apart : List ℕ → List ℕ → Type 0
Apart xs ys = (k : ℕ) → count k xs + count k ys ≤ 1
