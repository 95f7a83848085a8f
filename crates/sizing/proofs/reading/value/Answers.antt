use Rattle.std.proofs.Common.{◌*◌, ◌+◌, ◌≤◌, ◌^◌, arith, rules}
use Rattle.std.proofs.lemmas.List.Sums.{fold_more}
use Rattle.sizing.specs.Words.{one_digit_more}
use Rattle.sizing.proofs.Bytes.{no_less}
use Rattle.sizing.proofs.reading.value.Goals as goal

pub returns-in_err-checked_mul : goal.returns-in_err-checked_mul
returns-in_err-checked_mul c =
    let more = fold_more one_digit_more 0 c.args.word.now c.loop-byte.byte-index 0 c.loop-byte-test.true in
    let up = no_less 0 c.args.word.now (c.loop-byte.byte-index + 1) in
    let is = c.loop-byte.invariant in
    let over : 2 ^ 64 ≤ c.loop-byte.value * 10 = search rules in
    rw c.from_residual.ensures (omega arith)

pub returns-in_err-value : goal.returns-in_err-value
returns-in_err-value c =
    let more = fold_more one_digit_more 0 c.args.word.now c.loop-byte.byte-index 0 c.loop-byte-test.true in
    let up = no_less 0 c.args.word.now (c.loop-byte.byte-index + 1) in
    let is = c.loop-byte.invariant in
    let over : 2 ^ 64 ≤ c.loop-byte.value * 10 + c.saturating_sub.result = search rules in
    rw c.from_residual-in_err-value.ensures (omega (arith, c.saturating_sub.ensures))
