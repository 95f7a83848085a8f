use mathlib.Core.Logic.{∥∥₁_map}
use Rattle.linked_demo.proofs.texts.TextsTable.use_row.Goals as goal

pub use_row-requires-clause-sound : goal.use_row-requires-clause-sound
use_row-requires-clause-sound c = ∥∥₁_map c.args.self.now.sound (λ s. (c.args.self.now.heads.now, s.0, s.1))
