-- What a record is in rows and page memory: its lengths and its tag are in the row, its key and then its data in the chunk.
use Rattle.std.specs.Prelude.{◌≡◌, ℕ, ◌+◌, ◌*◌, ◌≤◌, List, map, length, take, drop, ◌≢◌, slice_index, slice_set}
use Rattle.slabs.specs.declared.row.Row.{Row}
use Rattle.slabs.specs.declared.row.Tag.{Tag}
use Rattle.slabs.specs.declared.grant.Grant.{Grant}
use Rattle.slabs.specs.declared.slab.Slab.{Slab}
use Rattle.slabs.specs.Lists.{granted_of, held_of}
use Rattle.slabs.specs.Layouts.{Chunk, start, size_at}
use Rattle.slabs.specs.Slabs.{rows_of, homes_of, layout, Lists, Shifted, Holds}

-- the bytes of a length at a place
abbrev pub bytes_at : List ℕ → ℕ → ℕ → List ℕ
bytes_at memory at n = take n (drop at memory)

-- rows by columns: the length of each row's key
abbrev pub key_lens : List Row → List ℕ
key_lens rows = map (λ row. row.key_len) rows

-- the length of each row's data
abbrev pub data_lens : List Row → List ℕ
data_lens rows = map (λ row. row.data_len) rows

-- each row's link in the hash chain of the layer above
abbrev pub chains : List Row → List ℕ
chains rows = map (λ row. row.chain) rows

-- what is told of each row's record beside
abbrev pub tags : List Row → List Tag
tags rows = map (λ row. row.tag) rows

-- the bytes of a row's chunk
abbrev pub chunk_of : Slab → List ℕ → ℕ → List ℕ
chunk_of s memory i = bytes_at memory (start (layout s) i) (size_at (layout s) i)

-- the key of the record in a row's chunk
abbrev pub key_of : Slab → List ℕ → ℕ → List ℕ
key_of s memory i = bytes_at memory (start (layout s) i) (slice_index (key_lens (rows_of s)) i)

-- the data of that record, which follow the key
abbrev pub data_of : Slab → List ℕ → ℕ → List ℕ
data_of s memory i = bytes_at memory (start (layout s) i + slice_index (key_lens (rows_of s)) i) (slice_index (data_lens (rows_of s)) i)

-- the lengths and the tag of row i were told, and nothing else of any row's record
pub record Described (rows rows' : List Row) (i key block : ℕ) (tag : Tag) : Type 0 where
  pub key_lens_are : key_lens rows' ≡ slice_set (key_lens rows) i key
  pub data_lens_are : data_lens rows' ≡ slice_set (data_lens rows) i block
  pub chains_stay : chains rows' ≡ chains rows
  pub tags_are : tags rows' ≡ slice_set (tags rows) i tag

-- a key and then its data were written at a place, and no other byte
pub record Written (memory memory' : List ℕ) (at : ℕ) (key block : List ℕ) : Type 0 where
  pub key_there : bytes_at memory' at (length key) ≡ key
  pub block_there : bytes_at memory' (at + length key) (length block) ≡ block
  pub below : take at memory' ≡ take at memory
  pub above : drop (at + length key + length block) memory' ≡ drop (at + length key + length block) memory

-- a key and data fit the chunk of a grant, and page memory has all the pages
pub record FitsGrant (s : Slab) (memory key block : List ℕ) (grant : Grant) : Type 0 where
  pub fits : length key + length block ≤ slice_index (layout s).sizes grant.class
  pub wide : 4096 * s.pages ≤ length memory

-- a granted chunk was filled: its row is the front record of its class, with these bytes and this tag, and the bytes of every other chunk stay
pub record Filled (s t : Slab) (memory memory' key block : List ℕ) (grant : Grant) (tag : Tag) : Type 0 where
  pub held : Holds t grant.row
  pub linked : Shifted s t grant.row (granted_of grant.class) (held_of grant.class)
  pub described : Described (rows_of s) (rows_of t) grant.row (length key) (length block) tag
  pub written : Written memory memory' (start (layout s) grant.row) key block
  pub told : (key_of t memory' grant.row ≡ key) × (data_of t memory' grant.row ≡ block)
  pub chunks : (j : ℕ) → Chunk (layout s) j → (j ≢ grant.row) → chunk_of s memory' j ≡ chunk_of s memory j
  pub others : (j : ℕ) → Holds s j → (key_of t memory' j ≡ key_of s memory j) × (data_of t memory' j ≡ data_of s memory j)

-- another tag was told of row i, and nothing else of any row, list or page
pub record Retagged (s t : Slab) (i : ℕ) (tag : Tag) : Type 0 where
  pub tags_are : tags (rows_of t) ≡ slice_set (tags (rows_of s)) i tag
  pub key_lens_stay : key_lens (rows_of t) ≡ key_lens (rows_of s)
  pub data_lens_stay : data_lens (rows_of t) ≡ data_lens (rows_of s)
  pub chains_stay : chains (rows_of t) ≡ chains (rows_of s)
  pub lists_stay : (ls : ℕ → List ℕ) → Lists s ls → Lists t ls
  pub homes_stay : homes_of t ≡ homes_of s
  pub layout_stays : layout t ≡ layout s
