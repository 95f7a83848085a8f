use Rattle.records.proofs.Paging.{gave_indexed, gave_granted, gave_shown, gave_answer}
use Rattle.records.proofs.records.Records.give_page.Goals as goal

pub invariant_of-self-clause-indexed : goal.invariant_of-self-clause-indexed
invariant_of-self-clause-indexed c =
    let gave = c.give_page.ensures in
    gave_indexed c.args.self.now c.give_page.new.self c.args.class gave.rests c.give_page.result gave.answer gave.given

pub returns-clause-answer : goal.returns-clause-answer
returns-clause-answer c = let gave = c.give_page.ensures in gave_answer c.args.self.now c.give_page.new.self c.args.class gave.rests c.give_page.result gave.answer

pub returns-clause-granted : goal.returns-clause-granted
returns-clause-granted c = let gave = c.give_page.ensures in gave_granted c.args.self.now c.give_page.new.self c.args.class gave.rests c.give_page.result gave.answer gave.given

pub returns-clause-shown : goal.returns-clause-shown
returns-clause-shown c = let gave = c.give_page.ensures in gave_shown c.args.self.now c.give_page.new.self c.args.class gave.rests c.give_page.result gave.answer gave.given
