-- A slab, when it is sound, and what its operations do to it.
use Rattle.std.specs.Prelude.{◌≡◌, ℕ, ◌*◌, Bool, true, false, List, is_some, Some, None, vec_items, Option, slice_index, slice_set}
use Rattle.slabs.specs.declared.row.Row.{Row}
use Rattle.slabs.specs.declared.grant.Grant.{Grant}
use Rattle.slabs.specs.declared.slab.Slab.{Slab}
use Rattle.slabs.specs.Rows.{homes, rests}
use Rattle.slabs.specs.Lists.{Family, shift, stocked, filled, free_of, granted_of, held_of}
use Rattle.slabs.specs.Layouts.{Layout, class_at, with_page}
pub use Rattle.slabs.specs.Orders.{spans_of, cut, InOrder}

-- the rows of a slab, by number
abbrev pub rows_of : Slab → List Row
rows_of s = vec_items s.rows

-- the list that each row of a slab is in
abbrev pub homes_of : Slab → List ℕ
homes_of s = homes (rows_of s)

-- how a slab's pages are cut, and whose they are
abbrev pub layout : Slab → Layout
layout s = cut s.classes.all s.owners s.given s.pages

-- these are the slab's lists, front to back, by number
abbrev pub Lists : Slab → (ℕ → List ℕ) → Type 0
Lists s lists = Family s.classes.all (rows_of s) lists

-- a slab whose lists, pages, chunks and counts are in order
abbrev pub Sound : Slab → Type 0
Sound s = InOrder s.classes.all (rows_of s) (layout s)

-- the row holds a record
abbrev pub Holds : Slab → ℕ → Type 0
Holds s i = slice_index (homes_of s) i ≡ held_of (class_at (layout s) i)

-- what is done to a row's record: where it holds one, the answer is yes and P holds; otherwise it is no, and Q
pub record IfHeld (s : Slab) (i : ℕ) (answer : Bool) (P Q : Type 0) : Type 0 where
  pub yes : Holds s i → (answer ≡ true) × P
  pub no : (Holds s i → ⊥) → (answer ≡ false) × Q

-- what is asked of a row's record: there is an answer just where it holds one, and of the answer P holds
pub record Tells {X : Type 0} (s : Slab) (i : ℕ) (answer : Option X) (P : X → Type 0) : Type 0 where
  pub some : Holds s i → is_some answer ≡ true
  pub none : (Holds s i → ⊥) → answer ≡ None
  pub is : (x : X) → answer ≡ Some x → P x

-- row i went from one list to the front of another, and all else of the lists, and how pages are cut, is as it was
pub record Shifted (s t : Slab) (i from to : ℕ) : Type 0 where
  pub lists : (ls : ℕ → List ℕ) → Lists s ls → Lists t (shift i from to ls)
  pub homes : homes_of t ≡ slice_set (homes_of s) i to
  pub layout : layout t ≡ layout s

-- the chunk of a grant is granted
abbrev pub Granted : Slab → Grant → Type 0
Granted s grant = slice_index (homes_of s) grant.row ≡ granted_of grant.class

-- a free chunk of the class was granted
pub record Taken (s t : Slab) (class : ℕ) (grant : Grant) : Type 0 where
  pub of : grant.class ≡ class
  pub granted : Granted t grant
  pub shifted : Shifted s t grant.row (free_of class) (granted_of class)

-- the lists became others, and which list each row is in, what is told of it, and how pages are cut, is as it was
pub record Reordered (s t : Slab) (order : (ℕ → List ℕ) → ℕ → List ℕ) : Type 0 where
  pub lists : (ls : ℕ → List ℕ) → Lists s ls → Lists t (order ls)
  pub homes : homes_of t ≡ homes_of s
  pub rests : rests (rows_of t) ≡ rests (rows_of s)
  pub layout : layout t ≡ layout s

-- the next page was given to the class: its chunks are free, and all else is as it was
pub record PageGiven (s t : Slab) (class : ℕ) : Type 0 where
  pub lists : (ls : ℕ → List ℕ) → Lists s ls → Lists t (stocked (85 * s.given) (slice_index (layout s).chunks class) (free_of class) ls)
  pub homes : homes_of t ≡ filled (85 * s.given) (slice_index (layout s).chunks class) (free_of class) (homes_of s)
  pub layout : layout t ≡ with_page (layout s) class
