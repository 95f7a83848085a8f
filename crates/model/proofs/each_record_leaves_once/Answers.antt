use Rattle.model.proofs.Numbers.{each_record_leaves_once}
use Rattle.model.proofs.each_record_leaves_once.Goals as goal

pub returns : goal.returns
returns c = each_record_leaves_once
