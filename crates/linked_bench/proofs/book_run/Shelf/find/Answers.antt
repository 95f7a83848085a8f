use mathlib.Core.Logic.{∥∥₁_map}
use Rattle.linked_bench.proofs.book_run.Shelf.find.Goals as goal

pub find-requires : goal.find-requires
find-requires c = ∥∥₁_map c.args.self.now.sound (λ s. (s.0, s.1.held.kept))
