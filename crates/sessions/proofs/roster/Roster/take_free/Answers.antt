use Rattle.std.proofs.Common.{refl, ◌∙◌, arith}
use native.Mathlib.Bridge.{le_prop}
use mathlib.Core.Logic.{∥∥₁_map, ∥∥₁_elim}
use Rattle.std.proofs.lemmas.Bool.Decides.{nat_tests}
use Rattle.recency.proofs.Columns.{column_of_rest}
use Rattle.recency.proofs.Counts.{count_without}
use Rattle.sessions.specs.Rows.{session_of, unlisted}
use Rattle.sessions.proofs.Kept.{even, keeps_on, listed_within}
use Rattle.sessions.proofs.roster.Roster.take_free.Goals as goal

pub unlink-requires : goal.unlink-requires
unlink-requires c =
    record {
      within = ∥∥₁_elim c.requires le_prop (λ s. listed_within c.args.self.now.free c.args.rows.now s.2 c.args.i s.3.spare s.4);
      inside = ∥∥₁_map c.requires (λ s. (s.2, s.3.spare, s.4));
    }

pub returns : goal.returns
returns c =
    let rows = c.args.rows.now in
    let new = c.unlink.new.rows in
    let rest = c.unlink.ensures.rest in
    let i = c.args.i in
    record {
      laid = λ slots ids free h here.
          record {
            listed = c.unlink.ensures.others free h.spare here c.args.self.now.open ids h.listed (λ k. omega (arith, h.apart k));
            spare = c.unlink.ensures.listed free h.spare here;
            kept = keeps_on c.args.self.now.callers slots rows new ids rest h.kept;
            apart = λ k. let w = count_without k i free in let a = h.apart k in grind (arith, nat_tests);
            all_rows = even unlisted rows new rest ∙ h.all_rows;
            all_slots = h.all_slots;
          };
      said = column_of_rest unlisted session_of (λ _. refl) rows new rest;
      callers = refl;
      counted = refl;
    }
