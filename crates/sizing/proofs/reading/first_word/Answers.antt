use Rattle.std.proofs.Common.{◌-◌, false, length, take, drop, sym, ◌∙◌, rules, tests}
use Rattle.std.proofs.lemmas.Iterator.{YieldsList-from_slice}
use Rattle.std.proofs.lemmas.Iterator.Search.{position_from_yields_List}
use Rattle.sizing.specs.Words.{blank, in_run}
use Rattle.sizing.proofs.WordLemmas.{to_first, past_run, cut_is}
use Rattle.sizing.proofs.reading.first_word.Goals as goal

pub returns : goal.returns
returns c =
    let line = c.args.line.now in
    let first = position_from_yields_List (in_run false) _ _ c.position.result c.position.ensures.ran (YieldsList-from_slice line cc) (λ x b q k. search (rules, tests)) in
    let next = position_from_yields_List blank _ _ c.position-2.result c.position-2.ensures.ran (YieldsList-from_slice _ c.iter-2.ensures.rest) (λ x b q k. search (rules, tests)) in
    let start = rw first at c.unwrap_or-start.ensures ∙ to_first (in_run false) line ∙ sym (past_run line) in
    let end = rw next at c.unwrap_or-end.ensures ∙ to_first blank (take (length line - c.unwrap_or-start.result) (drop c.unwrap_or-start.result line)) in
    record {
      word = cut_is take line _ _ _ start end c.split_at.ensures.front;
      rest = cut_is drop line _ _ _ start end c.split_at.ensures.back;
    }
