use Rattle.std.proofs.Common.{◌≡◌, take, length, min, ap, ◌∙◌, arith, rules}
use Rattle.lines.proofs.Ends.{FindsEnd, found_end}
use Rattle.lines.proofs.tokens.line_end.Goals as goal
use Rattle.lines.specs.Tokens.{first_crlf}
use Rattle.std.proofs.iter.runs.Made.{chains}
use Rattle.std.proofs.lemmas.List.{take_min}

pub returns : goal.returns
returns c =
    let bytes = c.args.bytes.now in
    let near = take c.min-near.result bytes in
    let found : FindsEnd near c.position.result = search (rules, chains) in
    let reach : c.min-near.result ≡ min 2048 (length bytes) = omega (arith, c.min-near.ensures) in
    found_end near c.position.result found ∙ ap first_crlf (ap (λ n. take n bytes) reach ∙ take_min 2048 bytes)
