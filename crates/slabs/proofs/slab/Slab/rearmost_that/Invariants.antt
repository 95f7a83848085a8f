use Rattle.std.proofs.Common.{ℕ, List}
use Rattle.std.specs.Fn.{FnReturnsAt}
use Rattle.slabs.specs.Lists.{held_of}
use Rattle.slabs.specs.Slabs.{rows_of, Lists}
use Rattle.slabs.proofs.Walks.{Counted}
use Rattle.slabs.proofs.slab.Slab.rearmost_that.Given as goal

abbrev pub invariant-loop : goal.invariant-loop
invariant-loop g l = (ls : ℕ → List ℕ) → Lists l.self ls → Counted (FnReturnsAt g.F.Fn l.test) (rows_of l.self) (ls (held_of l.class)) l.counter l.at
