use Rattle.model.proofs.Accounts.{everything_is_accounted_for}
use Rattle.model.proofs.everything_is_accounted_for.Goals as goal

pub returns : goal.returns
returns c = everything_is_accounted_for
