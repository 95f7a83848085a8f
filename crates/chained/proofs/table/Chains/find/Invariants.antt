use Rattle.std.proofs.Common.{ℕ, ◌^◌, ◌<◌, List, map, length}
use Rattle.chained.specs.Chains.{Keeps}
use Rattle.chained.proofs.Searches.{Ahead, Unlike}
use Rattle.chained.proofs.Walks.{steps}
use Rattle.chained.proofs.table.Chains.find.Given as goal

abbrev pub invariant-loop-at : goal.invariant-loop-at
invariant-loop-at g l =
    (l.at < 2 ^ 32)
    × ((ids : List ℕ) → Keeps g.R.Chained.link_of g.R.Chained.hash_of l.self l.heads l.rows ids → Ahead (map g.R.Chained.link_of l.rows) ids (Unlike g.R.Chained.hash_of (g.C.Keyed.key_of l.keys) l.rows l.hash (g.C.Keyed.wanted l.key)) l.at)

abbrev pub decreases-loop-at : goal.decreases-loop-at
decreases-loop-at g l = steps (length (map g.R.Chained.link_of l.rows)) (map g.R.Chained.link_of l.rows) l.at
