use Rattle.std.proofs.Common.{◌≡◌, ◌-◌, ◌*◌, ◌^◌, ◌≤◌}
use Rattle.sizing.specs.Pages.{pages_up_to}
use Rattle.sizing.proofs.tally.Tally.pages_in_all.Given as goal

-- the pages of the classes before this one
abbrev pub invariant-loop-class : goal.invariant-loop-class
invariant-loop-class l = record {
  so_far : l.total ≡ pages_up_to l.self (l.class - 1);
  fits : l.total ≤ (l.class - 1) * 2 ^ 64;
}
