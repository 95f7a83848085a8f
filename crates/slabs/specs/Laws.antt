-- What holds of every sound slab.
use Rattle.std.specs.Prelude.{◌≡◌, ℕ, ◌+◌, ◌*◌, ◌/◌, ◌<◌, ◌≤◌, ◌⊎◌, List, take, ◌≢◌, slice_index}
use Rattle.recency.specs.Numbers.{count}
use Rattle.slabs.specs.declared.slab.Slab.{Slab}
use Rattle.slabs.specs.Lists.{free_of, granted_of, held_of}
use Rattle.slabs.specs.Layouts.{Chunk, OfClass, class_at, start, size_at}
use Rattle.slabs.specs.Slabs.{layout, Lists, Sound}

-- the chunks of different rows do not overlap: one ends before the other begins
abbrev pub Apart : Type 0
Apart = (s : Slab) → ∥ Sound s ∥₁ → (i j : ℕ) → Chunk (layout s) i → Chunk (layout s) j → (i ≢ j) → (start (layout s) i + size_at (layout s) i ≤ start (layout s) j) ⊎ (start (layout s) j + size_at (layout s) j ≤ start (layout s) i)

-- a chunk lies inside its page, and inside page memory
abbrev pub Inside : Type 0
Inside = (s : Slab) → ∥ Sound s ∥₁ → (i : ℕ) → Chunk (layout s) i → (i / 85 * 4096 ≤ start (layout s) i) × (start (layout s) i + size_at (layout s) i ≤ i / 85 * 4096 + 4096) × (start (layout s) i + size_at (layout s) i ≤ 4096 * s.pages)

-- a chunk of a page that was given out is either free, or granted, or holds one record, and is in no other list
abbrev pub Stands : Type 0
Stands = (s : Slab) → ∥ Sound s ∥₁ → (lists : ℕ → List ℕ) → Lists s lists → (i : ℕ) → Chunk (layout s) i → (count i (lists (free_of (class_at (layout s) i))) + count i (lists (granted_of (class_at (layout s) i))) + count i (lists (held_of (class_at (layout s) i))) ≡ 1) × ((h : ℕ) → 0 < h → (OfClass (class_at (layout s) i) h → ⊥) → count i (lists h) ≡ 0)

-- a class has just the pages that were given to it
abbrev pub Shares : Type 0
Shares = (s : Slab) → ∥ Sound s ∥₁ → (class : ℕ) → 0 < class → slice_index (layout s).shares class ≡ count class (take s.given s.owners)

-- all of these together
pub record Laws : Type 0 where
  pub apart : Apart
  pub inside : Inside
  pub stands : Stands
  pub shares : Shares
