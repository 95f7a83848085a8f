use Rattle.replies.proofs.Writes.{both}
use Rattle.replies.proofs.output.Writer.stat.Goals as goal

pub returns : goal.returns
returns c = both (both (both (both c.put.ensures c.put-2.ensures) c.put-3.ensures) c.put_number.ensures) c.put-4.ensures
