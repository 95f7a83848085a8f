-- A slab as it is opened: no page was given out.
use Rattle.std.specs.Prelude.{◌≡◌, ℕ, ◌*◌, ◌/◌, min, List, replicate, slice_index}
use Rattle.plan.specs.Classes.{chunks_of}
use Rattle.slabs.specs.declared.slab.Slab.{Slab}
use Rattle.slabs.specs.Rows.{blank}
use Rattle.slabs.specs.Classes.{planned}
use Rattle.slabs.specs.Slabs.{rows_of, layout}

-- how many pages so many rows serve: 85 rows a page, and at most 256 pages
abbrev pub pages_of : ℕ → ℕ
pages_of rows = min (rows / 85) 256

-- the slab of a plan over so many rows, with nothing in it
pub record Opened (sizes : List ℕ) (rows : ℕ) (s : Slab) : Type 0 where
  pub all_pages : s.pages ≡ pages_of rows
  pub none_given : s.given ≡ 0
  pub blank_rows : rows_of s ≡ replicate (85 * pages_of rows) blank
  pub class_sizes : (class : ℕ) → slice_index (layout s).sizes class ≡ planned (λ size. size) sizes class
  pub class_chunks : (class : ℕ) → slice_index (layout s).chunks class ≡ planned chunks_of sizes class
