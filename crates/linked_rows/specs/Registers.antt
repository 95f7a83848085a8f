-- Tables of rows that are held.
use Rattle.std.specs.Prelude.{◌≡◌, ℕ, List, map, slice_index}
use Rattle.recency.specs.Numbers.{count}
use Rattle.chained.specs.Chains.{Keeps}
use Rattle.linked_rows.specs.declared.register.Register.{Register}

-- the table holds the rows `ids`, and just those are marked; the first three functions tell a row's link, its hash and
-- its mark, which is 1 where it is held
pub record Registered {R : Type 0} (link_of hash_of mark_of : R → ℕ) (register : Register) (heads : List ℕ) (rows : List R) (ids : List ℕ) : Type 0 where
  pub kept : Keeps link_of hash_of register.chains heads rows ids
  pub marks : (k : ℕ) → count k ids ≡ slice_index (map mark_of rows) k
