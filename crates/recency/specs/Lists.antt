-- A list of rows: each row names the next and the previous one of its list. `next` and `prev` are the columns of
-- those links, one place for each row, and `ids` the row numbers of the list from front to back.
use Rattle.std.specs.Prelude.{◌≡◌, ℕ, ◌<◌, ◌≤◌, List, [], ◌∷◌, map, length, Some, None, Option, slice_index_or}
use Rattle.recency.specs.Numbers.{none, count}
use Rattle.recency.specs.declared.RecencyList.{RecencyList}

-- the first of a list, or d where it is empty
abbrev pub first : List ℕ → ℕ → ℕ
first [] d = d
first (x ∷ xs) d = x

-- the last of a list, or d where it is empty
abbrev pub last : List ℕ → ℕ → ℕ
last [] d = d
last (x ∷ xs) d = last xs x

-- each row of the list names the one behind it as its next; the last one names `after`
abbrev pub Nexts : List ℕ → List ℕ → ℕ → Type 0
Nexts next [] after = Unit {0}
Nexts next (i ∷ ids) after = (i < length next) × (slice_index_or next i none ≡ first ids after) × Nexts next ids after

-- each row of the list names the one ahead of it as its previous; the first one names `before`
abbrev pub Prevs : List ℕ → ℕ → List ℕ → Type 0
Prevs prev before [] = Unit {0}
Prevs prev before (i ∷ ids) = (i < length prev) × (slice_index_or prev i none ≡ before) × Prevs prev i ids

-- the list with these ends, over rows with these links, is `ids`, from front to back
pub record Listed (front back : ℕ) (next prev ids : List ℕ) : Type 0 where
  -- no row has the number that stands for no row
  pub few : length next ≤ none
  pub front_is : front ≡ first ids none
  pub back_is : back ≡ last ids none
  pub nexts : Nexts next ids none
  pub prevs : Prevs prev none ids
  -- no row is in the list twice
  pub once : (k : ℕ) → count k ids ≤ 1

-- the first row of a list, if it has one
abbrev pub foremost : List ℕ → Option ℕ
foremost [] = None
foremost (x ∷ xs) = Some x

-- the last row of a list, if it has one
abbrev pub rearmost : List ℕ → Option ℕ
rearmost [] = None
rearmost (x ∷ xs) = Some (last xs x)

-- over these rows, whose links the first two functions tell, the list reads `ids` from front to back
abbrev pub Reads : {R : Type 0} → (R → ℕ) → (R → ℕ) → RecencyList → List R → List ℕ → Type 0
Reads next_of prev_of list rows ids = Listed list.front list.back (map next_of rows) (map prev_of rows) ids
