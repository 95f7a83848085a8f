use Rattle.std.proofs.Common.{Some, None, Ok, Err, Option, ℕ, ◌≡◌, rules, ◌<◌, ◌≤◌, true, false, List, length, vec_items, sym, refl, ap, ◌∙◌, subst, ap₂, arith}
use mathlib.Core.Logic.{∥∥₁_map}
use Rattle.std.proofs.lemmas.Bool.{le-ltb, le-leb, lt-leb, true≢false, false≢true}
use Rattle.chained.specs.Chains.{size}
use Rattle.chained.specs.Growth.{grow_after}
use Rattle.model.specs.Calls.{Session, of_caller, served}
use Rattle.model.specs.Store.{first}
use Rattle.sessions.specs.Rows.{sessions_at}
use Rattle.sessions.specs.Rosters.{Shown}
use Rattle.sessions.proofs.Shown.{placed_as, shown_back, not_found, spare_once, no_spare, verdict, shown_count}
use Rattle.sessions.proofs.Laying.{shorter}
use Rattle.std.specs.Option.{ok_or}
use Rattle.refusals.specs.declared.Refusal.{Refusal}
use Rattle.refusals.specs.declared.Refusal.TheVariants as refusal
use Rattle.sessions.proofs.sessions.Sessions.admit.Goals as goal
use Rattle.sessions.proofs.sessions.Sessions.admit.Goals.{In_ok-i}

-- the free row that `ok_or` let through, and none where it did not
some_spare : (o : Option ℕ) (e : Refusal) (i : ℕ) → ok_or o e ≡ Ok i → o ≡ Some i
some_spare None e i was = cc
some_spare (Some x) e i was = cc

none_spare : (o : Option ℕ) (e x : Refusal) → ok_or o e ≡ Err x → (o ≡ None) × (e ≡ x)
none_spare None e x was = (refl, cc)
none_spare (Some y) e x was = cc

spare : (c : In_ok-i) → c.spare_row.result ≡ Some c.in_ok-i.i
spare c = some_spare c.spare_row.result refusal.SessionsFull c.in_ok-i.i (sym c.ok_or.ensures.value ∙ c.in_ok-i.was)

pub returns-in_err-i-clause-shown : goal.returns-in_err-i-clause-shown
returns-in_err-i-clause-shown c =
    let none = none_spare c.spare_row.result refusal.SessionsFull c.in_err-i.field-0.0 (sym c.ok_or.ensures.value ∙ c.in_err-i.was) in
    let is : c.from_residual.result ≡ Err refusal.SessionsFull = search rules in
    λ xs s.
    let all : 64 ≤ length xs =
    omega (arith, no_spare s.1 (sym none.0 ∙ c.spare_row.ensures s.0 s.1 s.2), s.2.whole, s.2.counted, shown_count c.args.self.now.roster (vec_items c.args.self.now.slots) (vec_items c.args.self.now.rows) xs s) in
    rw is (verdict c.args.caller xs false false true (le-ltb 4194303 c.args.caller c.if-caller-gt-LAST_CALLER.false) (sym (c.if-is_open.ensures xs s)) (le-leb 64 (length xs) all), s)

pub enter-requires : goal.enter-requires
enter-requires c =
    let self = c.args.self.now in
    let lent = c.deref_mut-2.ensures.value in
    ∥∥₁_map self.ok (λ t.
    let s = t.1 in (
      s.0,
      s.1,
      placed_as self.roster s.0 s.1 c.deref_mut.ensures.value lent s.2,
      spare_once s.1 c.in_ok-i.i s.2.laid.spare.once (sym (spare (goal.at.enter-requires c).In_ok-i) ∙ c.spare_row.ensures s.0 s.1 s.2),
      ap (first (of_caller c.args.caller)) (ap (λ rows. sessions_at rows s.0) lent ∙ sym s.3) ∙ not_found c.args.caller t.0 (sym (c.if-is_open.ensures t.0 s)),
    ))

pub invariant_of-self : goal.invariant_of-self
invariant_of-self c =
    let self = c.args.self.now in
    let lent = c.deref_mut-2.ensures.value in record {
      ok = ∥∥₁_map self.ok (λ t.
          let s = t.1 in (
            _,
            shown_back c.enter.new.self _ self.slots self.rows c.enter.new.slots c.enter.new.rows (omega arith) (omega arith)
                (c.enter.ensures.shown s.0 s.1 (placed_as self.roster s.0 s.1 c.deref_mut.ensures.value lent s.2)
                (spare_once s.1 c.in_ok-i.i s.2.laid.spare.once (sym (spare (goal.at.invariant_of-self c).In_ok-i) ∙ c.spare_row.ensures s.0 s.1 s.2))
                (ap (first (of_caller c.args.caller)) (ap (λ rows. sessions_at rows s.0) lent ∙ sym s.3) ∙ not_found c.args.caller t.0 (sym (c.if-is_open.ensures t.0 s)))),
          ));
    }

pub returns : goal.returns
returns c =
    let self = c.args.self.now in
    let new = c.enter.new.self in
    let slots = c.enter.new.slots in
    let rows = c.enter.new.rows in
    let caller = c.args.caller in
    let second = c.args.second in
    let lent = c.deref_mut-2.ensures.value in
    let after : (xs : List Session) → Shown self.roster (vec_items self.slots) (vec_items self.rows) xs → Shown new slots rows (served caller second xs) =
    λ xs s.
    subst (λ ys. Shown new slots rows (served caller second ys)) (ap (λ rs. sessions_at rs s.0) lent ∙ sym s.3)
    (c.enter.ensures.shown s.0 s.1 (placed_as self.roster s.0 s.1 c.deref_mut.ensures.value lent s.2)
    (spare_once s.1 c.in_ok-i.i s.2.laid.spare.once (sym (spare (goal.at.returns c).In_ok-i) ∙ c.spare_row.ensures s.0 s.1 s.2))
    (ap (first (of_caller caller)) (ap (λ rs. sessions_at rs s.0) lent ∙ sym s.3) ∙ not_found caller xs (sym (c.if-is_open.ensures xs s)))) in
    record {
      shown = λ xs s.
          let here = spare_once s.1 c.in_ok-i.i s.2.laid.spare.once (sym (spare (goal.at.returns c).In_ok-i) ∙ c.spare_row.ensures s.0 s.1 s.2) in
          let room : length xs < 64 =
          omega (arith, shorter c.in_ok-i.i s.1 here, s.2.whole, s.2.counted, shown_count self.roster (vec_items self.slots) (vec_items self.rows) xs s) in (
            verdict caller xs false false false (le-ltb 4194303 caller c.if-caller-gt-LAST_CALLER.false) (sym (c.if-is_open.ensures xs s)) (lt-leb 64 (length xs) room),
            shown_back new (served caller second xs) self.slots self.rows slots rows (omega arith) (omega arith) (after xs s),
          );
      grown = λ xs s _.
          c.enter.ensures.grown
          ∙ ap₂ (λ n m. grow_after n m (size self.roster.callers)) (shown_count new slots rows (served caller second xs) (after xs s)) (ap length c.deref_mut.ensures.value ∙ s.2.laid.all_slots);
      same = λ e. absurd (true≢false e);
    }
