use Rattle.std.proofs.Common.{refl, arith}
use Rattle.chained.proofs.Changes.{holds_nothing}
use Rattle.chained.proofs.table.Chains.open.Goals as goal

pub returns : goal.returns
returns c =
    record {
      starts = refl;
      empty = λ link hash few. holds_nothing c.fill.new.self link hash few (omega (arith, c.fill.ensures.len)) (omega (arith, c.fill.ensures.len)) (λ s lt. c.fill.ensures.clones s _ (omega (arith, c.fill.ensures.len)) refl);
    }
