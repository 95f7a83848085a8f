use Rattle.std.proofs.Common.{ℕ, List, map}
use Rattle.std.specs.Fn.{FnReturnsAt}
use Rattle.slabs.specs.Lists.{held_of}
use Rattle.slabs.specs.Slabs.{rows_of, Lists}
use Rattle.slabs.proofs.Walks.{Walked, NonePicked, left_ahead}
use Rattle.slabs.proofs.slab.Slab.rearmost_picked.Given as goal

abbrev pub invariant-loop-at : goal.invariant-loop-at
invariant-loop-at g l = (ls : ℕ → List ℕ) → Lists l.self ls → Walked (ls (held_of l.class)) l.at (NonePicked (FnReturnsAt g.F.Fn l.test) (rows_of l.self))

abbrev pub decreases-loop-at : goal.decreases-loop-at
decreases-loop-at g l = left_ahead (map (λ row. row.prev) (rows_of l.self)) l.at
