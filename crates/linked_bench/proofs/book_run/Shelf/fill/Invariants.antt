use Rattle.std.proofs.Common.{◌≡◌, length}
use Rattle.linked_bench.proofs.book_run.Shelf.fill.Given as goal

abbrev pub invariant-loop-i : goal.invariant-loop-i
invariant-loop-i l = l.i-end ≡ length l.self.rows.now
