-- When a table, over its slots, holds just the rows that hold a record.
use Rattle.std.specs.Prelude.{◌≡◌, ℕ, cond, List, ◌==◌, slice_index}
use Rattle.recency.specs.Numbers.{count}
use Rattle.chained.specs.declared.table.Chains.{Chains}
use Rattle.chained.specs.Chains.{Keeps}
use Rattle.slabs.specs.declared.row.Row.{Row}
use Rattle.slabs.specs.Rows.{homes}
use Rattle.slabs.specs.Lists.{held_of}
use Rattle.slabs.specs.Layouts.{Layout, class_at}

pub record Indexes (rows : List Row) (l : Layout) (table : Chains) (heads : List ℕ) : Type 0 where
  pub ids : List ℕ
  pub kept : Keeps (λ row. row.chain) (λ row. row.tag.hash) table heads rows ids
  pub exact : (i : ℕ) → count i ids ≡ cond (slice_index (homes rows) i == held_of (class_at l i)) 1 0
