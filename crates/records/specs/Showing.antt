-- What rows and page memory show of the reference table.
use Rattle.std.specs.Prelude.{◌≡◌, ℕ, ◌<◌, List, map, slice_index}
use Rattle.plan.specs.Classes as plan
use Rattle.chained.specs.Fnv.{fnv}
use Rattle.slabs.specs.Layouts.{Layout, class_at}
use Rattle.slabs.specs.Slabs.{Lists, Holds, rows_of, layout}
use Rattle.model.specs.Setup.{Setup}
use Rattle.model.specs.Store.{Class}
use Rattle.model.specs.Sound.{Sound, Numbered}
use Rattle.records.specs.Reading.{record_at, ShowsClasses}
use Rattle.slabs.specs.declared.slab.Slab.{Slab}

-- pages are cut as the plan says, and for its classes alone
pub record Cut (setup : Setup) (l : Layout) : Type 0 where
  pub sizes : (class : ℕ) → Numbered setup class → slice_index l.sizes class ≡ plan.size_at setup.sizes class
  pub chunks : (class : ℕ) → Numbered setup class → slice_index l.chunks class ≡ plan.chunks_of (plan.size_at setup.sizes class)
  pub only : (class : ℕ) → 0 < slice_index l.chunks class → Numbered setup class

-- a page has a chunk of each class, as in every lawful plan
abbrev pub HasChunks : Setup → Type 0
HasChunks setup = (class : ℕ) → Numbered setup class → 0 < plan.chunks_of (plan.size_at setup.sizes class)

-- these are the classes of the reference table that rows and page memory show, and each record's hash is that of its key
pub record ShowsRecords (setup : Setup) (slab : Slab) (memory : List ℕ) (ks : List Class) : Type 0 where
  pub kept : Sound setup ks
  pub cut : Cut setup (layout slab)
  pub classed : (i : ℕ) → Holds slab i → Numbered setup (class_at (layout slab) i)
  pub lists : ℕ → List ℕ
  pub listed : Lists slab lists
  pub shown : ShowsClasses setup (layout slab) (rows_of slab) memory lists ks
  pub hashed : (i : ℕ) → Holds slab i → slice_index (map (λ row. row.tag.hash) (rows_of slab)) i ≡ fnv (record_at (layout slab) (rows_of slab) memory i).key
