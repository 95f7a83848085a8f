use Rattle.model.proofs.Truth.{the_story_is_true}
use Rattle.model.proofs.the_story_is_true.Goals as goal

pub returns : goal.returns
returns c = the_story_is_true
