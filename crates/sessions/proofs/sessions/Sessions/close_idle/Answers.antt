use Rattle.std.proofs.Common.{◌≤◌, [], ◌∷◌, length, vec_items, refl, ap, ◌∙◌, subst, arith, length-append}
use native.Mathlib.Bridge.{le_prop}
use mathlib.Core.Logic.{∥∥₁_elim}
use Rattle.sessions.specs.Showing.{Shows}
use Rattle.sessions.proofs.Sweeps.{swept_none, swept_more, swept_count, swept_all, swept_number}
use Rattle.sessions.proofs.Shown.{shown_count, shown_few}
use Rattle.sessions.proofs.sessions.Sessions.close_idle.Goals as goal

pub loop-closed-init : goal.loop-closed-init
loop-closed-init c = (λ xs s. (xs, swept_none c.args.second c.args.limit xs, s), refl)

pub overflow_add-closed : goal.overflow_add-closed
overflow_add-closed c =
    let self = c.args.self.now in
    let few : c.loop-closed.closed ≤ 64 =
    ∥∥₁_elim self.ok le_prop (λ t.
    let s = c.loop-closed.invariant.0 t.0 t.1 in
    omega (arith, swept_count c.args.second c.args.limit t.0 s.0 c.loop-closed.closed s.1, shown_few self.roster (vec_items self.slots) (vec_items self.rows) t.0 t.1)) in
    omega arith

pub loop-closed-preserved : goal.loop-closed-preserved
loop-closed-preserved c = (
  λ xs shown.
      let s = c.loop-closed.invariant.0 xs shown in
      let n = c.loop-closed-test.ensures.shown s.0 s.2 in
      (n.0, swept_more c.args.second c.args.limit xs s.0 n.0 c.loop-closed.closed s.1 n.1, n.2),
  c.close_rearmost.ensures.size ∙ c.loop-closed.invariant.1,
)

pub loop-closed-smaller : goal.loop-closed-smaller
loop-closed-smaller c =
    let old = c.loop-closed.self in
    let new = c.close_rearmost.new.self in
    ∥∥₁_elim old.ok le_prop (λ t.
    let n = c.loop-closed-test.ensures.shown t.0 t.1 in
    let before = shown_count old.roster (vec_items old.slots) (vec_items old.rows) t.0 t.1 in
    let after = shown_count new.roster (vec_items new.slots) (vec_items new.rows) n.0 n.2 in
    omega (arith, before, after, ap length n.1.1, length-append n.0 (n.1.0 ∷ [])))

pub returns : goal.returns
returns c =
    let second = c.args.second in
    let limit = c.args.limit in
    let closed = c.loop-closed.closed in
    record {
      stops = λ xs shown.
          let s = c.loop-closed.invariant.0 xs shown in
          let n = c.loop-closed-test.ensures.shown s.0 s.2 in
          (s.0, s.1, n.0, n.1);
      closes = λ xs shown d.
          let s = c.loop-closed.invariant.0 xs shown in
          let n = c.loop-closed-test.ensures.shown s.0 s.2 in
          (subst (Shows c.close_rearmost.new.self) (swept_all second limit xs s.0 closed s.1 n.0 d) n.1, swept_number second limit xs s.0 closed s.1 n.0 d);
      size = c.close_rearmost.ensures.size ∙ c.loop-closed.invariant.1;
    }
