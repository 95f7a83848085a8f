-- What the sessions show: the reference table's list of sessions.
use Rattle.std.specs.Prelude.{ℕ, List, vec_items}
use Rattle.chained.specs.Chains.{size}
use Rattle.model.specs.Calls.{Session}
use Rattle.sessions.specs.Rosters.{Shown}
use Rattle.sessions.specs.declared.sessions.Sessions.{Sessions}

-- the open sessions are `xs`, the one served last in front
abbrev pub Shows : Sessions → List Session → Type 0
Shows s xs = Shown s.roster (vec_items s.slots) (vec_items s.rows) xs

-- the size of the table of callers: its slots in use, and how many of them are old ones
abbrev pub table_size : Sessions → ℕ × ℕ
table_size s = size s.roster.callers
