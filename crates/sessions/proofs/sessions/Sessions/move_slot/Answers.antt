use Rattle.std.proofs.Common.{arith}
use mathlib.Core.Logic.{∥∥₁_map}
use Rattle.sessions.proofs.Shown.{placed_as, shown_as, shown_back, shown_moved}
use Rattle.sessions.proofs.sessions.Sessions.move_slot.Goals as goal

pub move_one-requires : goal.move_one-requires
move_one-requires c = ∥∥₁_map c.args.self.now.ok (λ t. (t.1.0, (placed_as _ _ _ c.deref_mut.ensures.value c.deref_mut-2.ensures.value t.1.2).laid.kept))

pub invariant_of-self : goal.invariant_of-self
invariant_of-self c =
    let self = c.args.self.now in record {
      ok = ∥∥₁_map self.ok (λ t. (
        t.0,
        shown_back _ t.0 self.slots self.rows c.move_one.new.heads c.move_one.new.rows (omega arith) (omega arith)
            (shown_moved self.roster c.move_one.new.self _ _ _ _ t.0 c.move_one.ensures.rest (omega arith) c.move_one.ensures.held (shown_as self.roster t.0 c.deref_mut.ensures.value c.deref_mut-2.ensures.value t.1)),
      ));
    }

pub returns-clause-shown : goal.returns-clause-shown
returns-clause-shown c = λ xs s.
    let self = c.args.self.now in
    shown_back _ xs self.slots self.rows c.move_one.new.heads c.move_one.new.rows (omega arith) (omega arith)
    (shown_moved self.roster c.move_one.new.self _ _ _ _ xs c.move_one.ensures.rest (omega arith) c.move_one.ensures.held (shown_as self.roster xs c.deref_mut.ensures.value c.deref_mut-2.ensures.value s))
