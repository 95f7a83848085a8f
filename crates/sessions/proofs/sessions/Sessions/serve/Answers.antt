use Rattle.std.proofs.Common.{map, get_or, Some, vec_items, sym, refl, ap, ◌∙◌, subst, arith}
use mathlib.Core.Logic.{∥∥₁_map}
use Rattle.std.proofs.lemmas.List.{with_items_is}
use Rattle.std.proofs.lemmas.Bool.{true≢false}
use Rattle.chained.specs.Chains.{size}
use Rattle.model.specs.Calls.{served}
use Rattle.sessions.specs.Rows.{session, session_of, sessions_at}
use Rattle.sessions.specs.Rosters.{Shown}
use Rattle.sessions.specs.Admissions.{has_session}
use Rattle.sessions.proofs.Shown.{placed_as, shown_as, found}
use Rattle.sessions.proofs.sessions.Sessions.serve.Goals as goal

pub renew-requires : goal.renew-requires
renew-requires c =
    let self = c.args.self.now in
    let lent = c.deref_mut.ensures.value in
    ∥∥₁_map self.ok (λ t.
    let s = t.1 in
    let f = c.in-Some.ensures s.0 s.1 s.2 in (
      vec_items self.slots,
      s.0,
      s.1,
      placed_as self.roster s.0 s.1 refl lent s.2,
      f.0,
      ap (λ rows. (get_or (map session_of rows) c.in-Some.i (session 0 0)).caller) lent ∙ f.1,
    ))

pub invariant_of-self : goal.invariant_of-self
invariant_of-self c =
    let self = c.args.self.now in
    let lent = c.deref_mut.ensures.value in record {
      ok = ∥∥₁_map self.ok (λ t.
          let s = t.1 in
          let f = c.in-Some.ensures s.0 s.1 s.2 in (
            _,
            shown_as c.renew.new.self _ refl (with_items_is self.rows c.renew.new.rows (omega arith))
                (c.renew.ensures.shown (vec_items self.slots) s.0 s.1 (placed_as self.roster s.0 s.1 refl lent s.2) f.0
                (ap (λ rows. (get_or (map session_of rows) c.in-Some.i (session 0 0)).caller) lent ∙ f.1)),
          ));
    }

pub returns : goal.returns
returns c =
    let self = c.args.self.now in
    let lent = c.deref_mut.ensures.value in
    let col = map session_of (vec_items self.rows) in
    record {
      shown = λ xs s.
          let f = c.in-Some.ensures s.0 s.1 s.2 in (
            ap (has_session c.args.caller) s.3 ∙ sym (found (λ i. get_or col i (session 0 0)) c.args.caller s.0 (Some c.in-Some.i) f),
            shown_as c.renew.new.self _ refl (with_items_is self.rows c.renew.new.rows (omega arith))
                (subst (λ ys. Shown c.renew.new.self (vec_items self.slots) c.renew.new.rows (served c.args.caller c.args.second ys))
                (ap (λ rows. sessions_at rows s.0) lent ∙ sym s.3)
                (c.renew.ensures.shown (vec_items self.slots) s.0 s.1 (placed_as self.roster s.0 s.1 refl lent s.2) f.0
                (ap (λ rows. (get_or (map session_of rows) c.in-Some.i (session 0 0)).caller) lent ∙ f.1))),
          );
      size = ap size c.renew.ensures.callers;
      same = λ e. absurd (true≢false e);
    }
