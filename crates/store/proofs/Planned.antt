-- What a lawful plan gives. Assumes nothing.
use Rattle.std.proofs.Common.{◌≡◌, ◌<◌, length, ap, subst, arith}
use Rattle.plan.specs.declared.plan.Plan.{Plan}
use Rattle.plan.specs.Plans.{plan_sizes}
use Rattle.plan.specs.Classes.{size_at, chunks_of}
use Rattle.plan.proofs.Facts.{fair}
use Rattle.model.specs.Setup.{Setup}
use Rattle.records.specs.Showing.{HasChunks}

-- a page has a chunk of each class
pub has_chunks : (plan : Plan) {setup : Setup} → plan_sizes plan ≡ setup.sizes → HasChunks setup
has_chunks plan {setup} same class num =
    let long = ap length same in
    let high = num.high in
    subst (λ sizes. 0 < chunks_of (size_at sizes class)) same (fair plan class num.low (omega arith)).some
