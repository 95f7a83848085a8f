use Rattle.std.proofs.Common.{None}
use Rattle.store.proofs.store.RecordStore.remove.Goals as goal

pub returns-clause-shown : goal.returns-clause-shown
returns-clause-shown c = λ setup n memory s at few sh. c.leave.ensures.shown setup n memory None s at sh
