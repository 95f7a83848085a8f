use Rattle.model.proofs.Excuses.{every_reason_is_true}
use Rattle.model.proofs.every_reason_is_true.Goals as goal

pub returns : goal.returns
returns c = every_reason_is_true
