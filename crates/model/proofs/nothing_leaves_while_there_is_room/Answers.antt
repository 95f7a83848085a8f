use Rattle.model.proofs.Room.{nothing_leaves_while_there_is_room}
use Rattle.model.proofs.nothing_leaves_while_there_is_room.Goals as goal

pub returns : goal.returns
returns c = nothing_leaves_while_there_is_room
