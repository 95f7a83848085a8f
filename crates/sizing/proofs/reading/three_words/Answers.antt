use Rattle.std.proofs.Common.{rules}
use Rattle.sizing.proofs.WordLemmas.{earlier}
use Rattle.sizing.proofs.reading.three_words.Goals as goal

pub returns : goal.returns
returns c = search (rules, earlier)
