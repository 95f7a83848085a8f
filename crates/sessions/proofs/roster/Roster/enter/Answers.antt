use Rattle.std.proofs.Common.{◌≡◌, ◌+◌, ◌≤◌, ◌∷◌, map, length, set, sym, ap, ◌∙◌, subst, ap₂, arith}
use native.Mathlib.Bridge.{le_prop}
use mathlib.Core.Logic.{∥∥₁_map, ∥∥₁_elim}
use Rattle.recency.specs.Numbers.{count, without}
use Rattle.recency.proofs.Counts.{count_left_out}
use Rattle.chained.specs.Chains.{size}
use Rattle.chained.specs.Growth.{grow_after}
use Rattle.sessions.specs.Rows.{session, session_of, sessions_at, unsaid}
use Rattle.sessions.specs.Orders.{Distinct}
use Rattle.sessions.proofs.Callers.{distinct_served}
use Rattle.sessions.proofs.Kept.{even, listed_within}
use Rattle.sessions.proofs.Laying.{shorter, laid_again, laid_said, entered}
use Rattle.sessions.proofs.roster.Roster.enter.Goals as goal

pub take_free-requires : goal.take_free-requires
take_free-requires c = ∥∥₁_map c.requires (λ s. (c.args.slots.now, s.0, s.1, s.2.laid, s.3))

pub note-requires : goal.note-requires
note-requires c =
    ∥∥₁_elim c.requires le_prop (λ s.
    omega (arith, listed_within c.args.self.now.free c.args.rows.now s.1 c.args.i s.2.laid.spare s.3, even session_of c.args.rows.now c.take_free.new.rows c.take_free.ensures.said))

pub put_open-requires : goal.put_open-requires
put_open-requires c =
    let i = c.args.i in
    let one = c.take_free.new.rows in
    let two = c.note.new.rows in
    let slots = c.args.slots.now in
    ∥∥₁_map c.requires (λ s.
    let out : count i s.0 ≡ 0 = omega (arith, s.2.laid.apart i, s.3) in (
      s.0,
      without i s.1,
      laid_said c.take_free.new.self slots one two s.0 (without i s.1) i (session c.args.caller c.args.second) c.note.ensures.said c.note.ensures.rest out
          (c.take_free.ensures.laid slots s.0 s.1 s.2.laid s.3),
      omega (arith, listed_within c.args.self.now.free c.args.rows.now s.1 i s.2.laid.spare s.3, even session_of c.args.rows.now one c.take_free.ensures.said, even unsaid one two c.note.ensures.rest),
      out,
      count_left_out i s.1,
    ))

pub overflow_add-self : goal.overflow_add-self
overflow_add-self c =
    let few : c.put_open.new.self.count ≤ 64 =
    ∥∥₁_elim c.requires le_prop (λ s. omega (arith, s.2.counted, s.2.whole, c.put_open.ensures.counted, c.take_free.ensures.counted)) in
    omega arith

pub grow_after-requires : goal.grow_after-requires
grow_after-requires c =
    let i = c.args.i in
    let slots = c.args.slots.now in
    ∥∥₁_map c.requires (λ s.
    let out : count i s.0 ≡ 0 = omega (arith, s.2.laid.apart i, s.3) in (
      map (λ r. r.link) c.put_open.new.rows,
      map (λ r. r.caller) c.put_open.new.rows,
      i ∷ s.0,
      (c.put_open.ensures.laid s.0 (without i s.1)
          (laid_said c.take_free.new.self slots c.take_free.new.rows c.note.new.rows s.0 (without i s.1) i (session c.args.caller c.args.second) c.note.ensures.said c.note.ensures.rest out
          (c.take_free.ensures.laid slots s.0 s.1 s.2.laid s.3))
          out (count_left_out i s.1)).kept,
    ))

pub returns : goal.returns
returns c =
    let i = c.args.i in
    let caller = c.args.caller in
    let second = c.args.second in
    let slots = c.args.slots.now in
    let rows = c.args.rows.now in
    let one = c.take_free.new.rows in
    let two = c.note.new.rows in
    let three = c.put_open.new.rows in
    let said = c.put_open.ensures.said ∙ c.note.ensures.said ∙ ap (λ col. set col i (session caller second)) c.take_free.ensures.said in
    record {
      shown = λ ids free h here absent.
          let lt = listed_within c.args.self.now.free rows free i h.laid.spare here in
          let out : count i ids ≡ 0 = omega (arith, h.laid.apart i) in
          let noted = laid_said c.take_free.new.self slots one two ids (without i free) i (session caller second) c.note.ensures.said c.note.ensures.rest out (c.take_free.ensures.laid slots ids free h.laid here) in
          let laid = c.put_open.ensures.laid ids (without i free) noted out (count_left_out i free) in
          let told = entered rows three i caller second ids lt said out absent in (
            i ∷ ids,
            without i free,
            record {
              laid = laid_again c.put_open.new.self c.grow_after.new.self _ c.put_open.new.slots three (i ∷ ids) (without i free) laid (c.grow_after.ensures.held _ _ (i ∷ ids) laid.kept);
              whole = omega (arith, h.whole, shorter i free here);
              counted = omega (arith, c.put_open.ensures.counted, c.take_free.ensures.counted, h.counted);
              distinct = subst Distinct (sym told) (distinct_served caller second (sessions_at rows ids) h.distinct);
            },
            sym told,
          );
      grown =
          let long : length c.put_open.new.slots ≡ length slots = omega arith in
          c.grow_after.ensures.grown
          ∙ ap₂ (λ n callers. grow_after (c.put_open.new.self.count + 1) n (size callers)) long (c.put_open.ensures.callers ∙ c.take_free.ensures.callers);
    }
