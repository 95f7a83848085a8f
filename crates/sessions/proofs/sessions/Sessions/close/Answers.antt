use Rattle.std.proofs.Common.{map, get_or, Some, vec_items, sym, ap, ◌∙◌, arith}
use mathlib.Core.Logic.{∥∥₁_map}
use Rattle.std.proofs.lemmas.Bool.{true≢false}
use Rattle.chained.specs.Chains.{size}
use Rattle.sessions.specs.Rows.{session, session_of}
use Rattle.sessions.specs.Admissions.{has_session}
use Rattle.sessions.proofs.Shown.{placed_as, shown_back, shown_without, found}
use Rattle.sessions.proofs.sessions.Sessions.close.Goals as goal

pub leave-requires : goal.leave-requires
leave-requires c =
    ∥∥₁_map c.args.self.now.ok (λ t.
    let s = t.1 in
    (s.0, s.1, placed_as c.args.self.now.roster s.0 s.1 c.deref_mut.ensures.value c.deref_mut-2.ensures.value s.2, (c.in-Some.ensures s.0 s.1 s.2).0))

pub invariant_of-self : goal.invariant_of-self
invariant_of-self c =
    let self = c.args.self.now in
    let slots = c.leave.new.slots in
    let rows = c.leave.new.rows in record {
      ok = ∥∥₁_map self.ok (λ t.
          let s = t.1 in
          let f = c.in-Some.ensures s.0 s.1 s.2 in (
            _,
            shown_back c.leave.new.self _ self.slots self.rows slots rows (omega arith) (omega arith)
                (shown_without c.leave.new.self (vec_items self.slots) slots (vec_items self.rows) rows self.roster c.in-Some.i c.args.caller t.0 s
                (c.leave.ensures.said ∙ ap (map session_of) c.deref_mut-2.ensures.value) f.0 f.1
                (c.leave.ensures.placed s.0 s.1 (placed_as self.roster s.0 s.1 c.deref_mut.ensures.value c.deref_mut-2.ensures.value s.2) f.0)),
          ));
    }

pub returns : goal.returns
returns c =
    let self = c.args.self.now in
    let slots = c.leave.new.slots in
    let rows = c.leave.new.rows in
    let col = map session_of (vec_items self.rows) in
    record {
      shown = λ xs s.
          let f = c.in-Some.ensures s.0 s.1 s.2 in (
            ap (has_session c.args.caller) s.3 ∙ sym (found (λ i. get_or col i (session 0 0)) c.args.caller s.0 (Some c.in-Some.i) f),
            shown_back c.leave.new.self _ self.slots self.rows slots rows (omega arith) (omega arith)
                (shown_without c.leave.new.self (vec_items self.slots) slots (vec_items self.rows) rows self.roster c.in-Some.i c.args.caller xs s
                (c.leave.ensures.said ∙ ap (map session_of) c.deref_mut-2.ensures.value) f.0 f.1
                (c.leave.ensures.placed s.0 s.1 (placed_as self.roster s.0 s.1 c.deref_mut.ensures.value c.deref_mut-2.ensures.value s.2) f.0)),
          );
      size = ap size c.leave.ensures.callers;
      same = λ e. absurd (true≢false e);
    }
