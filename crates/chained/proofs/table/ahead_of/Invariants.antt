use Rattle.std.proofs.Common.{◌≡◌, ◌^◌, ◌<◌, map, length, get_or}
use Rattle.recency.specs.Numbers.{none}
use Rattle.chained.proofs.Searches.{Toward}
use Rattle.chained.proofs.Walks.{steps}
use Rattle.chained.proofs.table.ahead_of.Given as goal

abbrev pub invariant-loop-next : goal.invariant-loop-next
invariant-loop-next g l =
    (l.at < 2 ^ 32)
    × (l.next < 2 ^ 32)
    × (l.next ≡ get_or (map g.R.Chained.link_of l.rows) l.at none)
    × (l.at ≡ l.i → ⊥)
    × Toward (map g.R.Chained.link_of l.rows) l.first l.i l.at

abbrev pub decreases-loop-next : goal.decreases-loop-next
decreases-loop-next g l = steps (length (map g.R.Chained.link_of l.rows)) (map g.R.Chained.link_of l.rows) l.at
