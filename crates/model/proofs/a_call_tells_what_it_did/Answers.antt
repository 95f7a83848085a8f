use Rattle.model.proofs.Numbers.{a_call_tells_what_it_did}
use Rattle.model.proofs.a_call_tells_what_it_did.Goals as goal

pub returns : goal.returns
returns c = a_call_tells_what_it_did
