use Rattle.std.proofs.Common.{◌≡◌, ℕ, ◌^◌, ◌<◌, List, map, length}
use Rattle.recency.specs.Numbers.{Apart}
use Rattle.chained.specs.Chains.{Chain, Keeps, poured, size}
use Rattle.chained.proofs.Moves.{Pouring}
use Rattle.chained.proofs.Walks.{steps}
use Rattle.chained.proofs.table.Chains.insert_all.Given as goal

abbrev pub invariant-loop-at : goal.invariant-loop-at
invariant-loop-at g l =
    (l.at < 2 ^ 32)
    × (map g.R.Chained.bare l.rows ≡ map g.R.Chained.bare l.initial.rows)
    × ((ids rest : List ℕ) → Keeps g.R.Chained.link_of g.R.Chained.hash_of l.self l.initial.heads l.initial.rows ids → Chain (map g.R.Chained.link_of l.initial.rows) l.first rest → Apart rest ids → Pouring (size l.self) l.heads (map g.R.Chained.link_of l.rows) (map g.R.Chained.hash_of l.rows) l.at (poured rest ids))

abbrev pub decreases-loop-at : goal.decreases-loop-at
decreases-loop-at g l = steps (length (map g.R.Chained.link_of l.rows)) (map g.R.Chained.link_of l.rows) l.at
