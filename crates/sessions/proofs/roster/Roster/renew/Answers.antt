use Rattle.std.proofs.Common.{◌∷◌, sym, ◌∙◌, subst, arith}
use native.Mathlib.Bridge.{le_prop}
use mathlib.Core.Logic.{∥∥₁_map, ∥∥₁_elim}
use Rattle.recency.specs.Numbers.{without}
use Rattle.sessions.specs.Rows.{session, sessions_at}
use Rattle.sessions.specs.Orders.{Distinct}
use Rattle.sessions.proofs.Callers.{distinct_served}
use Rattle.sessions.proofs.Kept.{listed_within}
use Rattle.sessions.proofs.Laying.{shorter, laid_renewed, renewed}
use Rattle.sessions.proofs.roster.Roster.renew.Goals as goal

pub note-requires : goal.note-requires
note-requires c = ∥∥₁_elim c.requires le_prop (λ s. listed_within c.args.self.now.open c.args.rows.now s.1 c.args.i s.3.laid.listed s.4)

pub put_in_front-requires : goal.put_in_front-requires
put_in_front-requires c =
    let rows = c.args.rows.now in
    let self = c.args.self.now in
    ∥∥₁_map c.requires (λ s. (
      s.0,
      s.1,
      s.2,
      laid_renewed self s.0 rows c.note.new.rows s.1 s.2 c.args.i (session c.args.caller c.args.second) c.note.ensures.said c.note.ensures.rest
          (listed_within self.open rows s.1 c.args.i s.3.laid.listed s.4) s.5 s.3.laid,
      s.4,
    ))

pub returns : goal.returns
returns c =
    let rows = c.args.rows.now in
    let new = c.put_in_front.new.rows in
    let self = c.args.self.now in
    let i = c.args.i in
    let caller = c.args.caller in
    let second = c.args.second in
    record {
      shown = λ slots ids free h here of.
          let lt = listed_within self.open rows ids i h.laid.listed here in
          let laid = laid_renewed self slots rows c.note.new.rows ids free i (session caller second) c.note.ensures.said c.note.ensures.rest lt of h.laid in
          let told = renewed rows new i caller second ids lt (c.put_in_front.ensures.said ∙ c.note.ensures.said) of here h.distinct in (
            i ∷ without i ids,
            free,
            record {
              laid = c.put_in_front.ensures.laid slots ids free laid here;
              whole = omega (arith, h.whole, shorter i ids here);
              counted = omega (arith, c.put_in_front.ensures.counted, h.counted, shorter i ids here);
              distinct = subst Distinct (sym told) (distinct_served caller second (sessions_at rows ids) h.distinct);
            },
            sym told,
          );
      callers = c.put_in_front.ensures.callers;
    }
