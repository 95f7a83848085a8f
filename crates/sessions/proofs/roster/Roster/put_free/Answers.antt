use Rattle.std.proofs.Common.{refl, ◌∙◌, arith}
use native.Mathlib.Bridge.{le_prop}
use mathlib.Core.Logic.{∥∥₁_map, ∥∥₁_elim}
use Rattle.std.proofs.lemmas.Bool.Decides.{nat_tests}
use Rattle.recency.proofs.Columns.{column_of_rest}
use Rattle.sessions.specs.Rows.{session_of, unlisted}
use Rattle.sessions.proofs.Kept.{even, keeps_on}
use Rattle.sessions.proofs.roster.Roster.put_free.Goals as goal

pub push_front-requires : goal.push_front-requires
push_front-requires c =
    record {
      within = ∥∥₁_elim c.requires le_prop (λ s. s.4);
      outside = ∥∥₁_map c.requires (λ s. (s.2, s.3.spare, s.6));
    }

pub returns : goal.returns
returns c =
    let rows = c.args.rows.now in
    let new = c.push_front.new.rows in
    let rest = c.push_front.ensures.rest in
    let i = c.args.i in
    record {
      laid = λ slots ids free h shut out.
          record {
            listed = c.push_front.ensures.others free h.spare c.args.self.now.open ids h.listed (λ k. let a = h.apart k in grind (arith, nat_tests));
            spare = c.push_front.ensures.listed free h.spare out;
            kept = keeps_on c.args.self.now.callers slots rows new ids rest h.kept;
            apart = λ k. let a = h.apart k in grind (arith, nat_tests);
            all_rows = even unlisted rows new rest ∙ h.all_rows;
            all_slots = h.all_slots;
          };
      said = column_of_rest unlisted session_of (λ _. refl) rows new rest;
      callers = refl;
      counted = refl;
    }
