use Rattle.std.proofs.Common.{◌≡◌, take}
use Rattle.sizing.specs.Words.{decimal}
use Rattle.sizing.proofs.reading.value.Given as goal

abbrev pub invariant-loop-byte : goal.invariant-loop-byte
invariant-loop-byte l = l.value ≡ decimal (take l.byte-index l.word)
