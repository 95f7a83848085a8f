-- When the rows, the lists and the table of the records are in order, whatever page memory holds: always, since the type says so.
use Rattle.std.specs.Prelude.{vec_items}
use Rattle.slabs.specs.Slabs.{Sound, rows_of, layout}
use Rattle.records.specs.declared.records.Records.{Records}
use Rattle.records.specs.Indexes.{Indexes}

-- the table holds just the rows that hold a record
abbrev pub Indexed : Records → Type 0
Indexed t = Indexes (rows_of t.slab) (layout t.slab) t.table (vec_items t.heads)

pub record Standing (t : Records) : Type 0 where
  pub sound : Sound t.slab
  pub indexed : Indexed t
