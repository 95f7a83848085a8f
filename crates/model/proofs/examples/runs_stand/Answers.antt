use Rattle.model.proofs.Worked.{runs_are_right}
use Rattle.model.proofs.examples.runs_stand.Goals as goal

pub returns : goal.returns
returns c = runs_are_right
