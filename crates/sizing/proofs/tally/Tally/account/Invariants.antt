use Rattle.std.proofs.Common.{◌≡◌, ◌+◌, ◌-◌}
use Rattle.sizing.specs.Pages.{pages_up_to}
use Rattle.sizing.proofs.tally.Tally.account.Given as goal

-- what the classes before this one got, and what is left
abbrev pub invariant-loop-class : goal.invariant-loop-class
invariant-loop-class l = record { handed : pages_up_to l.self (l.class - 1) + l.left ≡ l.given }
