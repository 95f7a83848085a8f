use mathlib.Core.Logic.{∥∥₁_map}
use Rattle.std.proofs.Common.{◌≡◌, ℕ, map, get_or, None, subst, MatchOption}
use Rattle.recency.specs.Numbers.{count}
use Rattle.model.specs.Calls.{of_caller}
use Rattle.model.specs.Store.{first}
use Rattle.sessions.specs.Rows.{session, session_of, sessions_at}
use Rattle.sessions.proofs.Shown.{placed_as, found_row}
use Rattle.sessions.proofs.sessions.Sessions.find.Goals as goal

pub find-requires : goal.find-requires
find-requires c = ∥∥₁_map c.args.self.now.ok (λ t. (t.1.0, (placed_as _ _ _ c.deref.ensures.value c.deref-2.ensures.value t.1.2).laid.kept))

pub returns : goal.returns
returns c = λ ids free h.
    let lent = placed_as c.args.self.now.roster ids free c.deref.ensures.value c.deref-2.ensures.value h in
    subst
    (λ rows. MatchOption c.find.result (first (of_caller c.args.caller) (sessions_at rows ids) ≡ None) (λ (i : ℕ). (count i ids ≡ 1) × ((get_or (map session_of rows) i (session 0 0)).caller ≡ c.args.caller)))
    c.deref-2.ensures.value
    (found_row c.args.self.now.roster _ _ c.args.caller ids free lent c.find.result (c.find.ensures ids lent.laid.kept))
