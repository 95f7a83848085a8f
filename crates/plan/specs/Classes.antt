-- What a class is: its size, its chunks, and which class a record belongs to. Classes are numbered from 1.
use Rattle.std.specs.Prelude.{ℕ, suc, ◌+◌, ◌-◌, ◌*◌, ◌/◌, ◌%◌, ◌<◌, ◌≤◌, cond, ◌&&◌, List, [], ◌∷◌, length, Some, None, Option, nat_le, slice_index}
use Rattle.plan.specs.Sizes.{page}

-- the size of a class's chunks
abbrev pub size_at : List ℕ → ℕ → ℕ
size_at sizes class = slice_index sizes (class - 1)

-- what is asked of a class, where there is such a class
abbrev pub of_class : (ℕ → ℕ) → List ℕ → ℕ → Option ℕ
of_class ask sizes class = cond (nat_le 1 class && nat_le class (length sizes)) (Some (ask (size_at sizes class))) None

-- how many chunks of this size a page gives
abbrev pub chunks_of : ℕ → ℕ
chunks_of size = page / size

-- how many bytes of a page no chunk of this size takes
abbrev pub left_of : ℕ → ℕ
left_of size = page % size

-- that many chunks of this size, one after the other, lie inside a page and do not overlap, and one more would not fit
pub record Tiles (size count : ℕ) : Type 0 where
  pub inside : (k : ℕ) → k < count → k * size + size ≤ page
  pub apart : (j k : ℕ) → j < k → j * size + size ≤ k * size
  pub full : page < count * size + size

abbrev pub one_more : Option ℕ → Option ℕ
one_more (Some n) = Some (suc n)
one_more None = None

-- the class of a need: the number of the first size that is at least the need
abbrev pub class_of : ℕ → List ℕ → Option ℕ
class_of need [] = None
class_of need (size ∷ sizes) = cond (nat_le need size) (Some 1) (one_more (class_of need sizes))

-- what the class of a need is in other words: it fits there, and in no class before it; or it fits nowhere
pub record Smallest (need : ℕ) (sizes : List ℕ) (class : ℕ) : Type 0 where
  pub numbered : (1 ≤ class) × (class ≤ length sizes)
  pub fits : need ≤ size_at sizes class
  pub first : (other : ℕ) → 1 ≤ other → other < class → size_at sizes other < need
