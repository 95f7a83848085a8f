use Rattle.std.proofs.Common.{◌≡◌, ◌+◌, ◌-◌, ◌*◌, ◌<◌, get_or, drop, sym, refl, ap, ◌∙◌, arith}
use Rattle.lines.proofs.Bytewise.{passes, number_large, value_grows}
use Rattle.lines.proofs.fields.number.Goals as goal
use Rattle.lines.specs.Numbers.{value, value_after}
use Rattle.std.proofs.lemmas.List.{at_drop_more}
use Rattle.std.specs.Char.{is_ascii_digit}
use Rattle.std.specs.Str.{all_ascii_digits}

pub loop-byte-preserved : goal.loop-byte-preserved
loop-byte-preserved c =
    let token = c.args.token.now in
    let i = c.loop-byte.byte-index in
    let v = c.loop-byte.value in
    let whole = sym (at_drop_more (value_after v) token i 0 c.loop-byte-test.true) ∙ c.loop-byte.invariant.0 in
    let next : c.in_ok-value.value ≡ v * 10 + (get_or token i 0 - 48) = omega (arith, c.in_ok-value.ensures, c.in_ok-checked_mul.ensures) in (
      ap (λ n. value_after n (drop (i + 1) token)) next ∙ whole,
      sym (passes 0 is_ascii_digit all_ascii_digits (λ _ _. refl) _ _ c.loop-byte-test.true (sym c.if-not-is_ascii_digit.ensures.value)) ∙ c.loop-byte.invariant.1,
    )

pub returns-in_err-checked_mul : goal.returns-in_err-checked_mul
returns-in_err-checked_mul c =
    let token = c.args.token.now in
    let i = c.loop-byte.byte-index in
    let v = c.loop-byte.value in
    let whole = sym (at_drop_more (value_after v) token i 0 c.loop-byte-test.true) ∙ c.loop-byte.invariant.0 in
    let grows = value_grows (v * 10 + (get_or token i 0 - 48)) (drop (i + 1) token) in
    let large : c.args.top < value token = omega (arith, whole, grows, c.in_err-checked_mul.ensures) in
    c.from_residual.ensures ∙ sym (number_large c.args.most c.args.top token large)

pub returns-in_err-value : goal.returns-in_err-value
returns-in_err-value c =
    let token = c.args.token.now in
    let i = c.loop-byte.byte-index in
    let v = c.loop-byte.value in
    let whole = sym (at_drop_more (value_after v) token i 0 c.loop-byte-test.true) ∙ c.loop-byte.invariant.0 in
    let grows = value_grows (v * 10 + (get_or token i 0 - 48)) (drop (i + 1) token) in
    let large : c.args.top < value token = omega (arith, whole, grows, c.in_err-value.ensures, c.in_ok-checked_mul.ensures) in
    c.from_residual-in_err-value.ensures ∙ sym (number_large c.args.most c.args.top token large)
