use Rattle.std.proofs.Common.{◌∷◌, refl, ◌∙◌, arith}
use native.Mathlib.Bridge.{le_prop}
use mathlib.Core.Logic.{∥∥₁_map, ∥∥₁_elim}
use Rattle.std.proofs.lemmas.Bool.Decides.{nat_tests}
use Rattle.recency.proofs.Columns.{column_of_rest}
use Rattle.sessions.specs.Rows.{session_of, unlisted, unchained}
use Rattle.sessions.proofs.Kept.{even, reads_on, keeps_on}
use Rattle.sessions.proofs.roster.Roster.put_open.Goals as goal

pub insert-requires : goal.insert-requires
insert-requires c = record { within = ∥∥₁_elim c.requires le_prop (λ s. s.3); outside = ∥∥₁_map c.requires (λ s. (s.0, s.2.kept, s.4)) }

pub push_front-requires : goal.push_front-requires
push_front-requires c =
    let rows = c.args.rows.now in
    let one = c.insert.new.rows in
    let rest = c.insert.ensures.rest in
    record {
      within = ∥∥₁_elim c.requires le_prop (λ s. omega (arith, s.3, even unchained rows one rest));
      outside = ∥∥₁_map c.requires (λ s. (s.0, reads_on unchained (λ _. refl) (λ _. refl) c.args.self.now.open rows one s.0 rest s.2.listed, s.4));
    }

pub returns : goal.returns
returns c =
    let rows = c.args.rows.now in
    let one = c.insert.new.rows in
    let two = c.push_front.new.rows in
    let by_table = c.insert.ensures.rest in
    let by_list = c.push_front.ensures.rest in
    let self = c.args.self.now in
    let i = c.args.i in
    record {
      laid = λ ids free h shut out.
          let open_one = reads_on unchained (λ _. refl) (λ _. refl) self.open rows one ids by_table h.listed in
          let free_one = reads_on unchained (λ _. refl) (λ _. refl) self.free rows one free by_table h.spare in
          record {
            listed = c.push_front.ensures.listed ids open_one shut;
            spare = c.push_front.ensures.others ids open_one self.free free free_one (λ k. let a = h.apart k in grind (arith, nat_tests));
            kept = keeps_on self.callers c.insert.new.heads one two (i ∷ ids) by_list (c.insert.ensures.held ids h.kept shut);
            apart = λ k. let a = h.apart k in grind (arith, nat_tests);
            all_rows = even unlisted one two by_list ∙ even unchained rows one by_table ∙ h.all_rows;
            all_slots = omega (arith, h.all_slots);
          };
      said = column_of_rest unlisted session_of (λ _. refl) one two by_list ∙ column_of_rest unchained session_of (λ _. refl) rows one by_table;
      callers = refl;
      counted = refl;
    }
