use Rattle.std.proofs.Common.{◌≡◌, ◌∷◌, map, get_or, sym, refl, ◌∙◌, subst, arith}
use native.Mathlib.Bridge.{le_prop}
use mathlib.Core.Logic.{∥∥₁_map, ∥∥₁_elim}
use Rattle.recency.specs.Numbers.{count, without}
use Rattle.recency.proofs.Counts.{count_left_out}
use Rattle.sessions.specs.Rows.{session, session_of, sessions_at}
use Rattle.sessions.specs.Orders.{Distinct}
use Rattle.sessions.proofs.Callers.{distinct_left}
use Rattle.sessions.proofs.Kept.{even, listed_within}
use Rattle.sessions.proofs.Laying.{shorter, laid_again, departed}
use Rattle.sessions.proofs.roster.Roster.leave.Goals as goal

pub take_open-requires : goal.take_open-requires
take_open-requires c = ∥∥₁_map c.requires (λ s. (s.0, s.1, s.2.laid, s.3))

pub put_free-requires : goal.put_free-requires
put_free-requires c =
    let rows = c.args.rows.now in
    let i = c.args.i in
    ∥∥₁_map c.requires (λ s.
    let lt = listed_within c.args.self.now.open rows s.0 i s.2.laid.listed s.3 in (
      c.take_open.new.slots,
      without i s.0,
      s.1,
      c.take_open.ensures.laid s.0 s.1 s.2.laid s.3,
      omega (arith, lt, even session_of rows c.take_open.new.rows c.take_open.ensures.said),
      count_left_out i s.0,
      omega (arith, s.2.laid.apart i, s.3),
    ))

pub overflow_sub-self : goal.overflow_sub-self
overflow_sub-self c = ∥∥₁_elim c.requires le_prop (λ s. omega (arith, s.2.counted, shorter c.args.i s.0 s.3, c.put_free.ensures.counted, c.take_open.ensures.counted))

pub returns : goal.returns
returns c =
    let rows = c.args.rows.now in
    let new = c.put_free.new.rows in
    let self = c.args.self.now in
    let i = c.args.i in
    let said = c.put_free.ensures.said ∙ c.take_open.ensures.said in
    record {
      placed = λ ids free h here.
          let shut = count_left_out i ids in
          let out : count i free ≡ 0 = omega (arith, h.laid.apart i) in
          let laid = c.put_free.ensures.laid c.take_open.new.slots (without i ids) free (c.take_open.ensures.laid ids free h.laid here) shut out in
          let caller = (get_or (map session_of rows) i (session 0 0)).caller in
          let told = departed rows new i caller ids said refl here h.distinct in
          record {
            laid = laid_again c.put_free.new.self c.put_free.new.self.callers _ c.take_open.new.slots new (without i ids) (i ∷ free) laid laid.kept;
            whole = omega (arith, h.whole, shorter i ids here);
            counted = omega (arith, c.put_free.ensures.counted, c.take_open.ensures.counted, h.counted, shorter i ids here);
            distinct = subst Distinct (sym told) (distinct_left caller (sessions_at rows ids) h.distinct);
          };
      said = said;
      callers = c.put_free.ensures.callers ∙ c.take_open.ensures.callers;
    }
