use Rattle.std.proofs.Common.{◌≤◌}
use Rattle.slab_demo.proofs.desk.Desk.fill.Given as goal

abbrev pub invariant-loop-n : goal.invariant-loop-n
invariant-loop-n l = l.stored ≤ l.n
