use native.Mathlib.Bridge.{le_prop}
use Rattle.std.proofs.Common.{◌≤◌, length, subst, arith}
use mathlib.Core.Logic.{∥∥₁_elim}
use Rattle.chained.specs.Chains.{Holds}
use Rattle.chained.proofs.Changes.{doubled}
use Rattle.chained.proofs.Sizes.{grows}
use Rattle.chained.proofs.table.Chains.grow_after.Goals as goal

pub overflow_mul-self-then-self-heads : goal.overflow_mul-self-then-self-heads
overflow_mul-self-then-self-heads c =
    let l : length c.args.heads.now ≤ 16384 = ∥∥₁_elim c.requires le_prop (λ s. s.3.limit) in
    omega (arith, c.if-self-heads.true)

pub returns-then-self-heads : goal.returns-then-self-heads
returns-then-self-heads c =
    let slots = c.args.self.now.slots in
    let heads = c.args.heads.now in
    record {
      grown = grows c.args.entries (length heads) slots c.args.self.now.unmoved (omega arith) c.if-self-eq0.true c.if-self-heads.true;
      held = λ link hash ids h.
          doubled slots heads link hash ids c.if-self-heads.true (subst (λ u. Holds (slots, u) heads link hash ids) c.if-self-eq0.true h);
    }
