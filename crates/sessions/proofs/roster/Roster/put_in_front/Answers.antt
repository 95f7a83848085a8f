use Rattle.std.proofs.Common.{◌∷◌, refl, ◌∙◌, arith}
use native.Mathlib.Bridge.{le_prop}
use mathlib.Core.Logic.{∥∥₁_map, ∥∥₁_elim}
use Rattle.recency.specs.Numbers.{without}
use Rattle.recency.proofs.Columns.{column_of_rest}
use Rattle.recency.proofs.Counts.{count_moved}
use Rattle.chained.proofs.Moves.{recount}
use Rattle.sessions.specs.Rows.{session_of, unlisted}
use Rattle.sessions.proofs.Kept.{even, keeps_on, listed_within}
use Rattle.sessions.proofs.roster.Roster.put_in_front.Goals as goal

pub move_to_front-requires : goal.move_to_front-requires
move_to_front-requires c =
    record {
      within = ∥∥₁_elim c.requires le_prop (λ s. listed_within c.args.self.now.open c.args.rows.now s.1 c.args.i s.3.listed s.4);
      inside = ∥∥₁_map c.requires (λ s. (s.1, s.3.listed, s.4));
    }

pub returns : goal.returns
returns c =
    let rows = c.args.rows.now in
    let new = c.move_to_front.new.rows in
    let rest = c.move_to_front.ensures.rest in
    let i = c.args.i in
    record {
      laid = λ slots ids free h here.
          record {
            listed = c.move_to_front.ensures.listed ids h.listed here;
            spare = c.move_to_front.ensures.others ids h.listed here c.args.self.now.free free h.spare h.apart;
            kept = recount _ _ _ _ ids (i ∷ without i ids) (count_moved i ids here) (keeps_on c.args.self.now.callers slots rows new ids rest h.kept);
            apart = λ k. omega (arith, h.apart k, count_moved i ids here k);
            all_rows = even unlisted rows new rest ∙ h.all_rows;
            all_slots = h.all_slots;
          };
      said = column_of_rest unlisted session_of (λ _. refl) rows new rest;
      callers = refl;
      counted = refl;
    }
