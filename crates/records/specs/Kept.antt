-- What a change of records leaves alone.
use Rattle.std.specs.Prelude.{◌≡◌, ℕ, vec_len, slice_index}
use Rattle.slabs.specs.declared.grant.Grant.{Grant}
use Rattle.slabs.specs.declared.slab.Slab.{Slab}
use Rattle.slabs.specs.Lists.{granted_of}
use Rattle.slabs.specs.Slabs.{homes_of, layout}
use Rattle.records.specs.declared.records.Records.{Records}

-- the chunk of a row is granted, as one of a class
abbrev pub GrantedTo : Slab → ℕ → ℕ → Type 0
GrantedTo s i class = slice_index (homes_of s) i ≡ granted_of class

-- no grant is outstanding
abbrev pub NoGrant : Slab → Type 0
NoGrant s = (i class : ℕ) → GrantedTo s i class → ⊥

-- no grant but this one is outstanding
abbrev pub OnlyGrant : Slab → Grant → Type 0
OnlyGrant s grant = (i class : ℕ) → GrantedTo s i class → (i ≡ grant.row) × (class ≡ grant.class)

-- how pages are cut and whose they are, the size of the hash table and its slots stay, and no chunk is newly granted
pub record Kept (s t : Records) : Type 0 where
  pub layout : layout t.slab ≡ layout s.slab
  pub table : t.table ≡ s.table
  pub slots : vec_len t.heads ≡ vec_len s.heads
  pub granted : (i class : ℕ) → GrantedTo t.slab i class → GrantedTo s.slab i class
