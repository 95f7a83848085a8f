use Rattle.std.proofs.Common.{ap, ◌∙◌}
use Rattle.replies.specs.Growth.{front}
use Rattle.replies.specs.Reading.{read_back}
use Rattle.replies.proofs.ReadingBack.{reads_back}
use Rattle.replies.proofs.output.Writer.end.Goals as goal

pub returns-clause-readable : goal.returns-clause-readable
returns-clause-readable c = λ numbered xs all is. ap (read_back numbered) c.put.ensures.written ∙ reads_back (front c.args.self.now) numbered xs all is
