-- The worked examples and the small runs: both are computed.
use Rattle.std.proofs.Common.{refl}
use Rattle.std.specs.Fmt.{digits}
use Rattle.plan.specs.Sizes.{sizes_of}
use Rattle.model.specs.Examples.{Examples}
use Rattle.model.specs.Runs.{RunsAreRight}

pub examples : Examples
unfolding digits sizes_of
examples = refl

pub runs_are_right : RunsAreRight
unfolding digits sizes_of
runs_are_right = refl
