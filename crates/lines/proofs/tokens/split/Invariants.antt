use Rattle.std.proofs.Common.{◌-◌, length}
use Rattle.lines.proofs.Splitting.{Sofar}
use Rattle.lines.proofs.tokens.split.Given as goal

abbrev pub invariant-loop-start : goal.invariant-loop-start
invariant-loop-start l = Sofar l.line l.found.items l.at

abbrev pub decreases-loop-start : goal.decreases-loop-start
decreases-loop-start l = length l.line - l.at
