use Rattle.replies.proofs.Writes.{both}
use Rattle.replies.proofs.output.Writer.value.Goals as goal

pub returns : goal.returns
returns c = both (both (both (both c.value_head.ensures c.cas_part.ensures) c.put.ensures) c.put-2.ensures) c.put-3.ensures
