-- The store of the reference table that the rows, the page memory and the counts of the records show.
use Rattle.std.specs.Prelude.{◌≡◌, ℕ, ◌+◌, ◌≤◌, List, length, Some, None, vec_len, Option, slice_index}
use Rattle.std.specs.List.{AllByRecursion}
use Rattle.plan.specs.Plans.{plan_sizes}
use Rattle.chained.specs.Chains.{size}
use Rattle.slabs.specs.declared.grant.Grant.{Grant}
use Rattle.slabs.specs.declared.slab.Slab.{Slab}
use Rattle.slabs.specs.Slabs.{Holds, Granted, rows_of, layout}
use Rattle.model.specs.Setup.{Setup}
use Rattle.model.specs.Records.{Record}
use Rattle.model.specs.Sound.{Numbered}
use Rattle.model.specs.Store as model
use Rattle.model.specs.Store.{class_at, everything}
use Rattle.records.specs.Reading.{record_at}
use Rattle.records.specs.Showing.{ShowsRecords}
use Rattle.records.specs.Kept.{NoGrant, OnlyGrant}
use Rattle.store.specs.declared.found.Found.{Found}
use Rattle.store.specs.declared.store.RecordStore.{RecordStore}
use Rattle.store.specs.declared.store.linking.Fresh.{Fresh}
pub use Rattle.store.specs.Counting.{counts_shown, why_of}
pub use Rattle.store.specs.Soonest.{Later, NotBefore, sooner, noting}

-- how many pages there are
abbrev pub pages_of : RecordStore → ℕ
pages_of t = t.records.slab.pages

-- the row of a found record holds one
abbrev pub Held : RecordStore → Found → Type 0
Held t found = Holds t.records.slab found.row

-- the record that was found
abbrev pub found_record : RecordStore → List ℕ → Found → Record
found_record t memory found = record_at (layout t.records.slab) (rows_of t.records.slab) memory found.row

-- how much a chunk of the class of a grant holds
abbrev pub room_of : RecordStore → Grant → ℕ
room_of t grant = slice_index (layout t.records.slab).sizes grant.class

-- the grant is of this store
abbrev pub HasGrant : RecordStore → Grant → Type 0
HasGrant t grant = Granted t.records.slab grant

-- the grants that are outstanding: none, or one
abbrev pub Outstanding : Option Grant → Slab → Type 0
Outstanding None s = NoGrant s
Outstanding (Some grant) s = OnlyGrant s grant

-- numbers so small that no count passes 64 bits while n is far below that
pub record Tame (n : ℕ) (s : model.Store) : Type 0 where
  pub linked : s.counts.linked ≤ n
  pub numbered : s.cas ≤ n
  pub asked : s.counts.hits + s.counts.misses ≤ n
  -- every record that was linked left by one of six ways, or is held
  pub balance : s.counts.linked ≡ s.counts.replaced + s.counts.deleted + s.counts.flushed + s.counts.expired + s.counts.evicted + s.counts.dropped + length (everything s)

-- rows, page memory, the hash table's size, pages and counts are those of this store of the reference table, and at
-- most this grant is outstanding
pub record Shows (setup : Setup) (n : ℕ) (t : RecordStore) (memory : List ℕ) (out : Option Grant) (s : model.Store) : Type 0 where
  pub records : ShowsRecords setup t.records.slab memory s.classes
  pub granted : Outstanding out t.records.slab
  pub pages : pages_of t ≡ setup.pages
  pub free : t.records.slab.given + s.free ≡ setup.pages
  pub growth : size t.records.table ≡ s.growth
  pub limit : vec_len t.records.heads ≡ setup.limit
  pub sizes : plan_sizes t.plan ≡ setup.sizes
  pub cas : t.cas ≡ s.cas
  pub counts : counts_shown t.counts ≡ s.counts
  -- no record of a class is dead before the second that is kept for the class
  pub soon : (class : ℕ) → Numbered setup class → AllByRecursion (NotBefore (slice_index t.soonest.seconds class)) (class_at class s.classes).records
  pub tame : Tame n s

-- the record that is stored, not numbered yet
abbrev pub new_record : List ℕ → List ℕ → Fresh → Record
new_record key block fresh =
    record { key = key; flags = fresh.flags; expiry = fresh.expiry; cas = 0; block = block; moved = fresh.second }
