use Rattle.records.proofs.Granting.{take_indexed, take_only, take_shown, take_room}
use Rattle.records.proofs.records.Records.take.Goals as goal

pub invariant_of-self-clause-indexed : goal.invariant_of-self-clause-indexed
invariant_of-self-clause-indexed c =
    let took = c.take.ensures in
    take_indexed c.args.self.now c.take.new.self c.args.class took.rests c.take.result took.found took.taken

pub returns-clause-only : goal.returns-clause-only
returns-clause-only c = let took = c.take.ensures in take_only c.args.self.now c.take.new.self c.args.class took.rests c.take.result took.found took.taken

pub returns-clause-shown : goal.returns-clause-shown
returns-clause-shown c = let took = c.take.ensures in take_shown c.args.self.now c.take.new.self c.args.class took.rests c.take.result took.found took.taken

pub returns-clause-room : goal.returns-clause-room
returns-clause-room c = let took = c.take.ensures in take_room c.args.self.now c.take.new.self c.args.class took.rests c.take.result took.found
