-- Rows by columns.
use Rattle.std.specs.Prelude.{ℕ, List, map, None}
use Rattle.recency.specs.Lists.{Reads}
use Rattle.recency.specs.declared.RecencyList.{RecencyList}
use Rattle.slabs.specs.declared.row.Row.{Row}

-- a row of which nothing is told: it is in no list
abbrev pub blank : Row
blank = record { next = 0; prev = 0; home = 0; chain = 0; key_len = 0; data_len = 0; tag = record { hash = 0; flags = 0; expiry = None; cas = 0; moved = 0 } }

-- the number of the list that each row is in
abbrev pub homes : List Row → List ℕ
homes rows = map (λ row. row.home) rows

-- a row but for its place in the lists: its links and its list are blank
abbrev pub rest : Row → Row
rest row = record { next = 0; prev = 0; home = 0; chain = row.chain; key_len = row.key_len; data_len = row.data_len; tag = row.tag }

-- what lists do not touch of each row
abbrev pub rests : List Row → List Row
rests rows = map rest rows

-- over these rows the list reads `ids` from front to back
abbrev pub RowsRead : RecencyList → List Row → List ℕ → Type 0
RowsRead list rows ids = Reads (λ row. row.next) (λ row. row.prev) list rows ids
