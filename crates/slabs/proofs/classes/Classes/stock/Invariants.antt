use Rattle.std.proofs.Common.{◌-◌}
use Rattle.slabs.specs.Lists.{free_of}
use Rattle.slabs.proofs.Stocking.{Stocked}
use Rattle.slabs.proofs.classes.Classes.stock.Given as goal

abbrev pub invariant-loop-i : goal.invariant-loop-i
invariant-loop-i l = Stocked l.initial.self.all l.self.all l.initial.rows l.rows l.first (l.i - l.first) (free_of l.class)
