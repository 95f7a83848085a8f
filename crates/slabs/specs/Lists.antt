-- The lists that rows are in: one family, by number. Each row names its list, so that it is in that one alone.
use Rattle.std.specs.Prelude.{◌≡◌, ℕ, zero, suc, ◌+◌, ◌*◌, ◌<◌, Bool, cond, List, [], ◌∷◌, length, ◌==◌, slice_index, slice_index_or, slice_set}
use Rattle.recency.specs.Numbers.{count, without}
use Rattle.slabs.specs.declared.row.Row.{Row}
use Rattle.slabs.specs.declared.class.Class.{Class}
use Rattle.slabs.specs.declared.class.Stand.{Stand}
use Rattle.slabs.specs.declared.class.Stand.TheVariants.{Free, Granted, Held}
use Rattle.slabs.specs.Rows.{blank, homes, RowsRead}
use Rattle.slabs.specs.Classes.{list_at, count_at}

-- the number of the list of a class's free chunks; 0 is no list
abbrev pub free_of : ℕ → ℕ
free_of class = 3 * class + 1

-- of its granted chunks
abbrev pub granted_of : ℕ → ℕ
granted_of class = 3 * class + 2

-- of its records: the front is what was used last
abbrev pub held_of : ℕ → ℕ
held_of class = 3 * class + 3

-- of its chunks of a stand
abbrev pub list_of : Stand → ℕ → ℕ
list_of Free class = free_of class
list_of Granted class = granted_of class
list_of Held class = held_of class

-- the rows of a list that pass a test
abbrev pub keep : (ℕ → Bool) → List ℕ → List ℕ
keep test [] = []
keep test (x ∷ xs) = cond (test x) (x ∷ keep test xs) (keep test xs)

-- what a test says of each of these rows is what `picks` has for its number
abbrev pub Picks : (Row → Bool → Type 0) → List Row → (ℕ → Bool) → Type 0
Picks says rows picks = (i : ℕ) (b : Bool) → says (slice_index_or rows i blank) b → b ≡ picks i

-- the lists, by number, after row i was put at the front of list h
abbrev pub into : ℕ → ℕ → (ℕ → List ℕ) → ℕ → List ℕ
into i h lists k = cond (k == h) (i ∷ lists k) (lists k)

-- after row i was taken out of list h
abbrev pub out_of : ℕ → ℕ → (ℕ → List ℕ) → ℕ → List ℕ
out_of i h lists k = cond (k == h) (without i (lists k)) (lists k)

-- after row i went from one list to the front of another
abbrev pub shift : ℕ → ℕ → ℕ → (ℕ → List ℕ) → ℕ → List ℕ
shift i from to lists = into i to (out_of i from lists)

-- after row i of list h was moved to its front
abbrev pub to_front : ℕ → ℕ → (ℕ → List ℕ) → ℕ → List ℕ
to_front i h lists k = cond (k == h) (i ∷ without i (lists k)) (lists k)

-- after n rows, from the row `first` on, were put at the front of list h one after the other
abbrev pub stocked : ℕ → ℕ → ℕ → (ℕ → List ℕ) → ℕ → List ℕ
stocked first zero h lists = lists
stocked first (suc n) h lists = into (first + n) h (stocked first n h lists)

-- the lists that rows are in, after those n rows entered list h
abbrev pub filled : ℕ → ℕ → ℕ → List ℕ → List ℕ
filled first zero h homes = homes
filled first (suc n) h homes = slice_set (filled first n h homes) (first + n) h

-- these are the lists, front to back, that the classes have over these rows
pub record Family (classes : List Class) (rows : List Row) (lists : ℕ → List ℕ) : Type 0 where
  -- a row is once in the list that it names, and in no other
  pub named : (h i : ℕ) → 0 < h → count i (lists h) ≡ cond (slice_index (homes rows) i == h) 1 0
  pub reads : (class : ℕ) (stand : Stand) → class < 33 → RowsRead (list_at classes class stand) rows (lists (list_of stand class))
  pub counted : (class : ℕ) (stand : Stand) → class < 33 → count_at classes class stand ≡ length (lists (list_of stand class))
