use Rattle.std.proofs.Common.{◌≡◌, ℕ, ◌<◌, map, get_or}
use Rattle.linked_rows.proofs.register.Register.open.Given as goal

abbrev pub invariant-loop-row : goal.invariant-loop-row
invariant-loop-row g l = (k : ℕ) → k < l.row-index → get_or (map g.R.Marked.mark_of l.rows) k 0 ≡ 0
