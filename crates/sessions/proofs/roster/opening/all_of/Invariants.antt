use Rattle.std.proofs.Common.{◌≡◌, ℕ, ◌≤◌, List, length}
use Rattle.recency.specs.Numbers.{count}
use Rattle.recency.specs.Lists.{Reads}
use Rattle.sessions.proofs.roster.opening.all_of.Given as goal

-- the list reads the rows so far, and no row to come
abbrev pub invariant-loop-i : goal.invariant-loop-i
invariant-loop-i l = (ids : List ℕ) × Reads (λ row. row.next) (λ row. row.prev) l.list l.rows ids × (length ids ≡ l.i) × ((k : ℕ) → l.i ≤ k → count k ids ≡ 0)
