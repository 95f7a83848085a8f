-- What a session's row holds: what it says of a session, and its places in a list and in a chain.
use Rattle.std.specs.Prelude.{ℕ, List, map, slice_index_or}
use Rattle.model.specs.Calls.{Session}
use Rattle.sessions.specs.declared.row.SessionRow.{SessionRow}

-- the session of a caller that was served last at this second
abbrev pub session : ℕ → ℕ → Session
session caller last = record { caller = caller; last = last }

-- what a row says of a session
abbrev pub session_of : SessionRow → Session
session_of row = session row.caller row.last

-- a row but for its place in its list
abbrev pub unlisted : SessionRow → SessionRow
unlisted row = record { caller = row.caller; last = row.last; link = row.link; next = 0; prev = 0 }

-- a row but for its place in its chain
abbrev pub unchained : SessionRow → SessionRow
unchained row = record { caller = row.caller; last = row.last; link = 0; next = row.next; prev = row.prev }

-- a row but for what it says of a session
abbrev pub unsaid : SessionRow → SessionRow
unsaid row = record { caller = 0; last = 0; link = row.link; next = row.next; prev = row.prev }

-- what the rows with these numbers say, one after the other
abbrev pub sessions_at : List SessionRow → List ℕ → List Session
sessions_at rows ids = map (λ i. slice_index_or (map session_of rows) i (session 0 0)) ids
