-- Classes, and what a chunk is to its class.
use Rattle.std.specs.Prelude.{◌≡◌, ℕ, ◌≤◌, cond, ◌&&◌, List, [], length, get_or, nat_le, slice_index_or}
use Rattle.plan.specs.Classes.{size_at, chunks_of}
use Rattle.recency.specs.Numbers.{none}
use Rattle.recency.specs.declared.RecencyList.{RecencyList}
use Rattle.slabs.specs.declared.row.Row.{Row}
use Rattle.slabs.specs.Rows.{RowsRead}
use Rattle.slabs.specs.declared.class.ChunkList.{ChunkList}
use Rattle.slabs.specs.declared.class.Class.{Class}
use Rattle.slabs.specs.declared.class.Stand.{Stand}
use Rattle.slabs.specs.declared.class.Stand.TheVariants.{Free, Granted, Held}

-- where a class keeps the list of a stand
abbrev pub place : Stand → ℕ
place Free = 0
place Granted = 1
place Held = 2

-- stands for a list where there is none
abbrev pub no_list : RecencyList
no_list = record { front = 0; back = 0 }

-- stands for the chunks of a stand where there are none
abbrev pub no_chunks : ChunkList
no_chunks = record { list = no_list; count = 0 }

-- the chunks of a class of a stand
abbrev pub at_stand : Class → Stand → ChunkList
at_stand class stand = slice_index_or class.lists (place stand) no_chunks

-- how a class cuts its pages, and how many it has: a class but for its lists
abbrev pub frame : Class → Class
frame class = record { size = class.size; chunks = class.chunks; pages = class.pages; lists = [] }

-- stands for a class where there is none
abbrev pub no_class : Class
no_class = record { size = 0; chunks = 0; pages = 0; lists = [] }

-- the ends of the list of a class's chunks of a stand
abbrev pub list_at : List Class → ℕ → Stand → RecencyList
list_at classes class stand = (at_stand (get_or classes class no_class) stand).list

-- how many of a class's chunks have a stand
abbrev pub count_at : List Class → ℕ → Stand → ℕ
count_at classes class stand = (at_stand (get_or classes class no_class) stand).count

-- a class with another number of pages
abbrev pub with_share : Class → ℕ → Class
with_share class pages = record { size = class.size; chunks = class.chunks; pages = pages; lists = class.lists }

-- what a plan with these sizes says of a class, and 0 where there is no such class
abbrev pub planned : (ℕ → ℕ) → List ℕ → ℕ → ℕ
planned ask sizes class = cond (nat_le 1 class && nat_le class (length sizes)) (ask (size_at sizes class)) 0

-- a class of a plan with these sizes, with no page and no chunk
pub record Fresh (sizes : List ℕ) (number : ℕ) (class : Class) : Type 0 where
  pub size_is : class.size ≡ planned (λ size. size) sizes number
  pub chunks_are : class.chunks ≡ planned chunks_of sizes number
  pub no_pages : class.pages ≡ 0
  pub no_rows : (stand : Stand) (rows : List Row) → length rows ≤ none → RowsRead (at_stand class stand).list rows []
  pub no_counts : (stand : Stand) → (at_stand class stand).count ≡ 0
