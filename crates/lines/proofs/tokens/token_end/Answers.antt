use Rattle.std.proofs.Common.{◌≡◌, ◌+◌, ◌-◌, ◌==◌, ◌∷◌, length, take, drop, ap, ◌∙◌, arith, sym, rules, tests}
use Rattle.std.specs.List.{position}
use Rattle.std.specs.Option.{unwrap_or}
use Rattle.lines.specs.Tokens.{tokens}
use Rattle.std.proofs.lemmas.Iterator.{YieldsList-from_slice}
use Rattle.std.proofs.lemmas.Iterator.Search.{position_from_yields_List}
use Rattle.std.proofs.lemmas.List.{drop-drop, take_rest}
use Rattle.lines.proofs.Cutting.{run, run_end, run_cut, to_space}
use Rattle.lines.proofs.tokens.token_end.Goals as goal

pub returns : goal.returns
returns c =
    let line = c.args.line.now in
    let at = c.args.at in
    let first = position_from_yields_List (λ b. b == 32) _ _ c.position-space.result c.position-space.ensures.ran (YieldsList-from_slice _ c.iter.ensures.rest) (λ x b q k. search (rules, tests)) in
    let tail : take (length line - at) (drop at line) ≡ drop at line = take_rest line at in
    let same : c.position-space.result ≡ position (λ b. b == 32) (drop at line) = first ∙ ap (position (λ b. b == 32)) tail in
    let far : c.unwrap_or.result ≡ run (drop at line) =
    c.unwrap_or.ensures ∙ ap (λ o. unwrap_or o (length (take (length line - at) (drop at line)))) same
    ∙ ap (λ xs. unwrap_or (position (λ b. b == 32) (drop at line)) (length xs)) tail
    ∙ to_space (drop at line)
    in
    let h = run_end line at c.requires.inside c.requires.token in
    let size : at + c.unwrap_or.result - at ≡ run (drop at line) = omega (arith, far) in
    record {
      beyond = omega (arith, far, h.0);
      within = omega (arith, far, h.1);
      cut =
          run_cut (drop at line) h.0
          ∙ ap (λ k. take k (drop at line) ∷ tokens (drop (run (drop at line)) (drop at line))) (sym size)
          ∙ ap (λ ts. take (at + c.unwrap_or.result - at) (drop at line) ∷ tokens ts) (ap (λ k. drop k (drop at line)) (sym far) ∙ drop-drop c.unwrap_or.result at line);
    }
