use Rattle.std.proofs.Common.{◌≡◌, ◌-◌, ◌++◌, length, take}
use Rattle.plan.specs.Sizes.{sizes_of}
use Rattle.plan.proofs.Rule.{rest_from}
use Rattle.plan.proofs.plan.Plan.new.Given as goal

-- the sizes that are written, and then those that are still to come, are all sizes
abbrev pub invariant-loop-before : goal.invariant-loop-before
invariant-loop-before l = record {
  all : sizes_of l.first l.percent ≡ take l.before l.slot-items ++ rest_from l.percent l.size (33 - l.before);
  places : length l.slot-items ≡ 32;
}
