use Rattle.model.proofs.Worked.{examples}
use Rattle.model.proofs.examples.examples_stand.Goals as goal

pub returns : goal.returns
returns c = examples
