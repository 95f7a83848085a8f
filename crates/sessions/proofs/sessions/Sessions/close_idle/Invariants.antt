use Rattle.std.proofs.Common.{◌≡◌, List}
use Rattle.model.specs.Calls.{Session}
use Rattle.sessions.specs.Orders.{Swept}
use Rattle.sessions.specs.Showing.{Shows, table_size}
use Rattle.sessions.proofs.sessions.Sessions.close_idle.Given as goal

abbrev pub invariant-loop-closed : goal.invariant-loop-closed
invariant-loop-closed l =
    ((xs : List Session) → Shows l.initial.self xs → (ys : List Session) × Swept l.second l.limit xs l.closed ys × Shows l.self ys)
    × (table_size l.self ≡ table_size l.initial.self)

abbrev pub decreases-loop-closed : goal.decreases-loop-closed
decreases-loop-closed l = l.self.roster.count
