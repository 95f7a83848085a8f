-- What a roster holds: which rows are open sessions, front to back, and which are free.
use Rattle.std.specs.Prelude.{◌≡◌, ℕ, ◌+◌, List, length}
use Rattle.recency.specs.Numbers.{Apart}
use Rattle.recency.specs.Lists.{Reads}
use Rattle.chained.specs.Chains.{Keeps}
use Rattle.model.specs.Calls.{Session}
use Rattle.sessions.specs.Rows.{sessions_at}
use Rattle.sessions.specs.Orders.{Distinct}
use Rattle.sessions.specs.declared.roster.Roster.{Roster}
use Rattle.sessions.specs.declared.row.SessionRow.{SessionRow}

-- over these slots and rows, the roster's lists read `ids` and `free` from front to back, its table holds the rows
-- `ids`, and no row is in both lists
pub record Laid (roster : Roster) (slots : List ℕ) (rows : List SessionRow) (ids free : List ℕ) : Type 0 where
  pub listed : Reads (λ row. row.next) (λ row. row.prev) roster.open rows ids
  pub spare : Reads (λ row. row.next) (λ row. row.prev) roster.free rows free
  pub kept : Keeps (λ row. row.link) (λ row. row.caller) roster.callers slots rows ids
  pub apart : Apart ids free
  pub all_rows : length rows ≡ 64
  pub all_slots : length slots ≡ 64

-- the rows `ids` are the open sessions, the one served last in front; every other row is free, since the two lists
-- together have as many rows as there are; and no caller has two sessions
pub record Placed (roster : Roster) (slots : List ℕ) (rows : List SessionRow) (ids free : List ℕ) : Type 0 where
  pub laid : Laid roster slots rows ids free
  pub whole : length ids + length free ≡ 64
  pub counted : roster.count ≡ length ids
  pub distinct : Distinct (sessions_at rows ids)

-- the open sessions, front to back, are `xs`
abbrev pub Shown : Roster → List ℕ → List SessionRow → List Session → Type 0
Shown roster slots rows xs = (ids : List ℕ) × (free : List ℕ) × Placed roster slots rows ids free × (xs ≡ sessions_at rows ids)
