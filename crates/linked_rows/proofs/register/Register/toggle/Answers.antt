use mathlib.Core.Logic.{∥∥₁_map}
use Rattle.linked_rows.proofs.Marks.{mark_of}
use Rattle.linked_rows.proofs.register.Register.toggle.Goals as goal

pub leave-requires-clause-inside : goal.leave-requires-clause-inside
leave-requires-clause-inside g c =
    ∥∥₁_map c.requires.sound (λ s. (s.0, s.1, mark_of g.R.Marked.mark_of c.args.rows.now c.args.i c.index-rows-i.result s.0 1 c.requires.within s.1.marks c.if-is_held.ensures))

pub enter-requires-clause-outside : goal.enter-requires-clause-outside
enter-requires-clause-outside g c =
    ∥∥₁_map c.requires.sound (λ s. (s.0, s.1, mark_of g.R.Marked.mark_of c.args.rows.now c.args.i c.index-rows-i.result s.0 0 c.requires.within s.1.marks c.if-is_held.ensures))

pub returns-then-is_held-clause-left : goal.returns-then-is_held-clause-left
returns-then-is_held-clause-left g c = λ _ ids h.
    c.leave.ensures.held ids h (mark_of g.R.Marked.mark_of c.args.rows.now c.args.i c.index-rows-i.result ids 1 c.requires.within h.marks c.if-is_held.ensures)

pub returns-then-is_held-clause-sound : goal.returns-then-is_held-clause-sound
returns-then-is_held-clause-sound g c =
    ∥∥₁_map c.requires.sound (λ s. (_, c.leave.ensures.held s.0 s.1 (mark_of g.R.Marked.mark_of c.args.rows.now c.args.i c.index-rows-i.result s.0 1 c.requires.within s.1.marks c.if-is_held.ensures)))

pub returns-else-is_held-clause-entered : goal.returns-else-is_held-clause-entered
returns-else-is_held-clause-entered g c = λ _ ids h.
    c.enter.ensures.held ids h (mark_of g.R.Marked.mark_of c.args.rows.now c.args.i c.index-rows-i.result ids 0 c.requires.within h.marks c.if-is_held.ensures)

pub returns-else-is_held-clause-sound : goal.returns-else-is_held-clause-sound
returns-else-is_held-clause-sound g c =
    ∥∥₁_map c.requires.sound (λ s. (_, c.enter.ensures.held s.0 s.1 (mark_of g.R.Marked.mark_of c.args.rows.now c.args.i c.index-rows-i.result s.0 0 c.requires.within s.1.marks c.if-is_held.ensures)))
