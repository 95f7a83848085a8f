use Rattle.model.proofs.Larger.{a_larger_table_keeps_all}
use Rattle.model.proofs.a_larger_table_keeps_all.Goals as goal

pub returns : goal.returns
returns c = a_larger_table_keeps_all
