use Rattle.std.proofs.Common.{◌∙◌}
use Rattle.slabs.specs.Rows.{blank}
use Rattle.slabs.specs.Slabs.{rows_of}
use Rattle.records.proofs.Telling.{at_column}
use Rattle.records.proofs.records.Records.tag.Goals as goal

pub returns : goal.returns
returns c = c.tag.ensures blank.tag ∙ at_column (λ row. row.tag) (rows_of c.args.self.now.slab) c.args.i
