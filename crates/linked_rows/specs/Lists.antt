-- Visitors: which of the rows are held.
use Rattle.std.specs.Prelude.{ℕ, cond, List}
use Rattle.linked_rows.specs.Registers.{Registered}
use Rattle.linked_rows.specs.declared.register.Register.{Register}
use Rattle.linked_rows.specs.declared.visitor.Visitor.{Visitor}

-- 1 for a row that is marked as held
abbrev pub present : Visitor → ℕ
present row = cond row.held 1 0

-- the table holds `ids`, and just those rows are marked
abbrev pub Attended : Register → List ℕ → List Visitor → List ℕ → Type 0
Attended guests heads rows ids = Registered (λ row. row.link) (λ row. row.number) present guests heads rows ids
