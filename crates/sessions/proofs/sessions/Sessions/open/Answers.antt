use Rattle.std.proofs.Common.{[], arith}
use Rattle.sessions.proofs.Shown.{shown_back}
use Rattle.sessions.proofs.sessions.Sessions.open.Goals as goal

pub invariant_of-result : goal.invariant_of-result
invariant_of-result c = record { ok = ∣ ([], shown_back c.open-roster.result [] c.args.slots c.args.rows c.open-roster.new.slots c.open-roster.new.rows (omega arith) (omega arith) c.open-roster.ensures.shown) ∣₁ }
