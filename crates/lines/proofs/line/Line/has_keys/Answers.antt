use Rattle.std.proofs.Common.{◌-◌, [], length, get_or, refl, ◌∙◌, arith, rules}
use Rattle.lines.proofs.Bytewise.{keys_from}
use Rattle.lines.proofs.Lined.{count_tokens}
use Rattle.lines.proofs.line.Line.has_keys.Goals as goal
use Rattle.lines.specs.Lines.{toks}
use Rattle.lines.specs.Numbers.{good_key}
use Rattle.std.proofs.lemmas.Iterator.{YieldsList-from_range}
use Rattle.std.proofs.lemmas.Iterator.Search.{all_from_yields_List}
use borrow.Author.Tests.{tests}

pub returns : goal.returns
returns c =
    let line = c.args.self.now in
    let n = length (toks line) in
    all_from_yields_List (λ i. good_key (get_or (toks line) i [])) _ _ _ c.all.ensures.ran (YieldsList-from_range 1 c.len.result (n - 1) refl (omega (arith, c.len.ensures.value, count_tokens line line.cut)))
    (λ x b q k. search (rules, tests))
    ∙ keys_from (toks line) 1 (n - 1) refl
