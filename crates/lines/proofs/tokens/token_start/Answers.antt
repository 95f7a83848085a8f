use Rattle.std.proofs.Common.{◌≡◌, not, ◌==◌, drop, ap, ◌∙◌, arith, sym, rules, tests}
use Rattle.std.specs.List.{position}
use Rattle.std.proofs.lemmas.Iterator.{YieldsList-from_slice}
use Rattle.std.proofs.lemmas.Iterator.Search.{position_from_yields_List}
use Rattle.std.proofs.lemmas.List.{take_rest}
use Rattle.lines.proofs.Cutting.{gap_found, gap_none}
use Rattle.lines.proofs.tokens.token_start.Goals as goal

pub returns-in_err-gap : goal.returns-in_err-gap
returns-in_err-gap c =
    let line = c.args.line.now in
    let first = position_from_yields_List (λ b. not (b == 32)) _ _ c.position.result c.position.ensures.ran (YieldsList-from_slice _ c.iter.ensures.rest) (λ x b q k. search (rules, tests)) in
    let same : c.position.result ≡ position (λ b. not (b == 32)) (drop c.args.at line) = first ∙ ap (position (λ b. not (b == 32))) (take_rest line c.args.at) in
    rw c.from_residual.ensures (gap_none (drop c.args.at line) (sym same ∙ c.in_err-gap.was))

pub returns : goal.returns
returns c =
    let line = c.args.line.now in
    let first = position_from_yields_List (λ b. not (b == 32)) _ _ c.position.result c.position.ensures.ran (YieldsList-from_slice _ c.iter.ensures.rest) (λ x b q k. search (rules, tests)) in
    let same : c.position.result ≡ position (λ b. not (b == 32)) (drop c.args.at line) = first ∙ ap (position (λ b. not (b == 32))) (take_rest line c.args.at) in
    let h = gap_found line c.args.at c.in_ok-gap.gap c.requires (sym same ∙ c.in_ok-gap.was) in
    (omega arith, h.0, h.1, h.2)
