use Rattle.model.proofs.Openings.{openings_are_planned}
use Rattle.model.proofs.openings_are_planned.Goals as goal

pub returns : goal.returns
returns c = openings_are_planned
