use Rattle.lines.proofs.Back.{reads_back}
use Rattle.lines.proofs.Ranges.{reads_lawful}
use Rattle.lines.proofs.reader.reading_stands.Goals as goal

pub returns : goal.returns
returns c = record { back = reads_back; lawful = reads_lawful }
