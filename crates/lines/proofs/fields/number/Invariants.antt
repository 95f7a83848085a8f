use Rattle.std.proofs.Common.{◌≡◌, drop}
use Rattle.lines.proofs.fields.number.Given as goal
use Rattle.lines.specs.Numbers.{value, value_after}
use Rattle.std.specs.Str.{all_ascii_digits}

abbrev pub invariant-loop-byte : goal.invariant-loop-byte
invariant-loop-byte l =
    (value_after l.value (drop l.byte-index l.token) ≡ value l.token)
    × (all_ascii_digits (drop l.byte-index l.token) ≡ all_ascii_digits l.token)
