use Rattle.std.proofs.Common.{◌≡◌, ◌+◌, ◌<◌, ◌≤◌, List, [], map, length, get_or, vec_items, sym, refl, ap, ◌∙◌, subst, arith}
use native.Mathlib.Bridge.{le_prop}
use mathlib.Core.Logic.{∥∥₁_map, ∥∥₁_elim}
use Rattle.chained.specs.Chains.{size}
use Rattle.sessions.specs.Rows.{session, session_of, sessions_at}
use Rattle.sessions.specs.Orders.{EndsBusy, LastIdle}
use Rattle.sessions.specs.Rosters.{Shown}
use Rattle.model.specs.Calls.{Session}
use Rattle.sessions.proofs.Kept.{listed_within}
use Rattle.sessions.proofs.Shown.{placed_as, shown_back, shown_swept}
use Rattle.sessions.proofs.Sweeps.{no_rear, at_rear_once, nothing_ends_busy, rear_busy}
use Rattle.sessions.proofs.sessions.Sessions.close_rearmost.Goals as goal

pub returns-in_default : goal.returns-in_default
returns-in_default c =
    let rows = vec_items c.args.self.now.rows in
    let second = c.args.second in
    let limit = c.args.limit in
    record {
      shown = λ xs s.
          let empty : xs ≡ [] = s.3 ∙ ap (sessions_at rows) (no_rear s.0 (c.in_default.ensures _ _ s.0 s.2.laid.listed)) in
          (subst (EndsBusy second limit) (sym empty) (nothing_ends_busy second limit), s);
      size = refl;
    }

pub last_second-requires : goal.last_second-requires
last_second-requires c =
    let i = c.in-Some.i in
    ∥∥₁_elim c.args.self.now.ok le_prop (λ t.
    let s = t.1 in
    let l = s.2.laid.listed in
    omega (arith, ap length c.deref.ensures.value, listed_within c.args.self.now.roster.open (vec_items c.args.self.now.rows) s.0 i l (at_rear_once s.0 i l.once (c.in-Some.ensures _ _ s.0 l))))

pub returns-then-from-until : goal.returns-then-from-until
returns-then-from-until c =
    let rows = vec_items c.args.self.now.rows in
    let second = c.args.second in
    let limit = c.args.limit in
    let i = c.in-Some.i in
    record {
      shown = λ xs s.
          let e = c.in-Some.ensures _ _ s.0 s.2.laid.listed in
          let last = c.last_second.ensures ∙ ap (λ rs. (get_or (map session_of rs) i (session 0 0)).last) c.deref.ensures.value in
          let late : second < (get_or (map session_of rows) i (session 0 0)).last + limit = omega (arith, last, c.from.ensures, c.from-2.ensures, c.from-3.ensures, c.if-from-until.true) in
          (subst (EndsBusy second limit) (sym s.3) (rear_busy rows s.0 i e second limit late), s);
      size = refl;
    }

pub leave-requires : goal.leave-requires
leave-requires c =
    let i = c.in-Some.i in
    ∥∥₁_map c.args.self.now.ok (λ t.
    let s = t.1 in
    let l = s.2.laid.listed in
    (s.0, s.1, placed_as c.args.self.now.roster s.0 s.1 c.deref_mut.ensures.value c.deref_mut-2.ensures.value s.2, at_rear_once s.0 i l.once (c.in-Some.ensures _ _ s.0 l)))

pub invariant_of-self-2 : goal.invariant_of-self-2
invariant_of-self-2 c =
    let self = c.args.self.now in
    let slots = vec_items self.slots in
    let rows = vec_items self.rows in
    let second = c.args.second in
    let limit = c.args.limit in
    let i = c.in-Some.i in
    let new = c.leave.new in
    let last = c.last_second.ensures ∙ ap (λ rs. (get_or (map session_of rs) i (session 0 0)).last) c.deref.ensures.value in
    let due : (get_or (map session_of rows) i (session 0 0)).last + limit ≤ second = omega (arith, last, c.from.ensures, c.from-2.ensures, c.from-3.ensures, c.if-from-until.false) in
    let said = c.leave.ensures.said ∙ ap (map session_of) c.deref_mut-2.ensures.value in
    let swept : (xs : List Session) → Shown self.roster slots rows xs → (ys : List Session) × LastIdle second limit xs ys × Shown new.self new.slots new.rows ys =
    λ xs s.
    let e = c.in-Some.ensures _ _ s.0 s.2.laid.listed in
    shown_swept self.roster new.self slots new.slots rows new.rows i second limit xs s e said due
    (c.leave.ensures.placed s.0 s.1 (placed_as self.roster s.0 s.1 c.deref_mut.ensures.value c.deref_mut-2.ensures.value s.2) (at_rear_once s.0 i s.2.laid.listed.once e)) in
    record {
      ok = ∥∥₁_map self.ok (λ t.
          let n = swept t.0 t.1 in
          (n.0, shown_back new.self n.0 self.slots self.rows new.slots new.rows (omega arith) (omega arith) n.2));
    }

pub returns : goal.returns
returns c =
    let self = c.args.self.now in
    let slots = vec_items self.slots in
    let rows = vec_items self.rows in
    let second = c.args.second in
    let limit = c.args.limit in
    let i = c.in-Some.i in
    let new = c.leave.new in
    let last = c.last_second.ensures ∙ ap (λ rs. (get_or (map session_of rs) i (session 0 0)).last) c.deref.ensures.value in
    let due : (get_or (map session_of rows) i (session 0 0)).last + limit ≤ second = omega (arith, last, c.from.ensures, c.from-2.ensures, c.from-3.ensures, c.if-from-until.false) in
    let said = c.leave.ensures.said ∙ ap (map session_of) c.deref_mut-2.ensures.value in
    let swept : (xs : List Session) → Shown self.roster slots rows xs → (ys : List Session) × LastIdle second limit xs ys × Shown new.self new.slots new.rows ys =
    λ xs s.
    let e = c.in-Some.ensures _ _ s.0 s.2.laid.listed in
    shown_swept self.roster new.self slots new.slots rows new.rows i second limit xs s e said due
    (c.leave.ensures.placed s.0 s.1 (placed_as self.roster s.0 s.1 c.deref_mut.ensures.value c.deref_mut-2.ensures.value s.2) (at_rear_once s.0 i s.2.laid.listed.once e)) in
    record {
      shown = λ xs s.
          let n = swept xs s in
          (n.0, n.1, shown_back new.self n.0 self.slots self.rows new.slots new.rows (omega arith) (omega arith) n.2);
      size = ap size c.leave.ensures.callers;
    }
