-- Where chunks lie. Page memory is pages of 4,096 bytes; each page has 85 rows, of which the first are its chunks.
use Rattle.std.specs.Prelude.{◌≡◌, ℕ, ◌+◌, ◌*◌, ◌/◌, ◌%◌, ◌<◌, ◌≤◌, List, length, take, slice_index, slice_index_or, slice_set}
use Rattle.recency.specs.Numbers.{count}
use Rattle.slabs.specs.Lists.{held_of}

-- how pages are cut, and whose they are
pub record Layout : Type 0 where
  -- the size of each class's chunks, how many a page gives it, and how many pages it has; class 0 stands for no class
  pub sizes : List ℕ
  pub chunks : List ℕ
  pub shares : List ℕ
  -- the class that each page was given to, 0 for none
  pub owners : List ℕ
  -- how many pages were given out, in order, and how many there are
  pub given : ℕ
  pub pages : ℕ

-- the class of the page that a row belongs to
abbrev pub class_at : Layout → ℕ → ℕ
class_at l i = slice_index l.owners (i / 85)

-- the row has a chunk in a page that was given out
abbrev pub Chunk : Layout → ℕ → Type 0
Chunk l i = i % 85 < slice_index l.chunks (class_at l i)

-- where the chunk of a row begins in page memory
abbrev pub start : Layout → ℕ → ℕ
start l i = i / 85 * 4096 + i % 85 * slice_index l.sizes (class_at l i)

-- how long the chunk of a row is
abbrev pub size_at : Layout → ℕ → ℕ
size_at l i = slice_index l.sizes (class_at l i)

-- the next page was given to a class
abbrev pub with_page : Layout → ℕ → Layout
with_page l class =
    record {
      sizes = l.sizes;
      chunks = l.chunks;
      shares = slice_set l.shares class (slice_index l.shares class + 1);
      owners = slice_set l.owners l.given class;
      given = l.given + 1;
      pages = l.pages;
    }

-- a list's number is that of one of the three lists of a class
pub record OfClass (class h : ℕ) : Type 0 where
  pub low : 3 * class < h
  pub high : h ≤ 3 * class + 3

-- pages and chunks are in order, and so are the lists that the rows name
pub record Placed (l : Layout) (homes : List ℕ) : Type 0 where
  pub few : l.pages ≤ 256
  pub rows : length homes ≡ 85 * l.pages
  pub in_order : l.given ≤ l.pages
  pub classes : (length l.sizes ≡ 33) × (length l.chunks ≡ 33) × (length l.shares ≡ 33) × (length l.owners ≡ 256)
  -- a page that was given out has a class, and another has none
  pub owned : (p : ℕ) → slice_index l.owners p < 33
  pub unowned : (p : ℕ) → l.given ≤ p → slice_index l.owners p ≡ 0
  -- no class has no chunks; a class's chunks lie inside a page, and are no more than a page has rows
  pub none : slice_index_or l.chunks 0 0 ≡ 0
  pub most : (class : ℕ) → slice_index l.chunks class ≤ 85
  pub inside : (class k : ℕ) → k < slice_index l.chunks class → k * slice_index l.sizes class + slice_index l.sizes class ≤ 4096
  -- a class has the pages that were given to it
  pub shared : (class : ℕ) → 0 < class → slice_index l.shares class ≡ count class (take l.given l.owners)
  -- the row of a chunk is in one of the lists of its class, and any other row is in none
  pub listed : (i : ℕ) → Chunk l i → OfClass (class_at l i) (slice_index homes i)
  pub unlisted : (i : ℕ) → (Chunk l i → ⊥) → slice_index homes i ≡ 0

-- a record fits its chunk: `spans` has for each row the lengths of its key and data together
abbrev pub Fitting : Layout → List ℕ → List ℕ → Type 0
Fitting l homes spans = (i class : ℕ) → slice_index homes i ≡ held_of class → slice_index spans i ≤ slice_index l.sizes class

-- of a class's chunks each is free, granted or holds a record
abbrev pub Full : Layout → (ℕ → List ℕ) → ℕ → Type 0
Full l lists class = length (lists (3 * class + 1)) + length (lists (3 * class + 2)) + length (lists (3 * class + 3)) ≡ slice_index l.shares class * slice_index l.chunks class
