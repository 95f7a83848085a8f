use Rattle.std.proofs.Common.{ℕ}
use lib.ListN.{get_or-replicate}
use Rattle.sizing.proofs.tally.Tally.new.Goals as goal

pub returns-clause-total : goal.returns-clause-total
returns-clause-total c =
    record { records = λ i lt. get_or-replicate {A = ℕ} 32 i 0 0 lt; filled = λ i lt. get_or-replicate {A = ℕ} 32 i 0 0 lt }
