use Rattle.std.proofs.Common.{refl, ◌∙◌, arith}
use native.Mathlib.Bridge.{le_prop}
use mathlib.Core.Logic.{∥∥₁_map, ∥∥₁_elim}
use Rattle.std.proofs.lemmas.Bool.Decides.{nat_tests}
use Rattle.recency.specs.Numbers.{without}
use Rattle.recency.proofs.Columns.{column_of_rest}
use Rattle.recency.proofs.Counts.{count_without}
use Rattle.sessions.specs.Rows.{session_of, unlisted, unchained}
use Rattle.sessions.proofs.Kept.{even, reads_on, keeps_on, listed_within}
use Rattle.sessions.proofs.roster.Roster.take_open.Goals as goal

pub remove-requires : goal.remove-requires
remove-requires c =
    record {
      within = ∥∥₁_elim c.requires le_prop (λ s. listed_within c.args.self.now.open c.args.rows.now s.0 c.args.i s.2.listed s.3);
      inside = ∥∥₁_map c.requires (λ s. (s.0, s.2.kept, s.3));
    }

pub unlink-requires : goal.unlink-requires
unlink-requires c =
    let rows = c.args.rows.now in
    let one = c.remove.new.rows in
    let rest = c.remove.ensures.rest in
    record {
      within = ∥∥₁_elim c.requires le_prop (λ s. omega (arith, listed_within c.args.self.now.open rows s.0 c.args.i s.2.listed s.3, even unchained rows one rest));
      inside = ∥∥₁_map c.requires (λ s. (s.0, reads_on unchained (λ _. refl) (λ _. refl) c.args.self.now.open rows one s.0 rest s.2.listed, s.3));
    }

pub returns : goal.returns
returns c =
    let rows = c.args.rows.now in
    let one = c.remove.new.rows in
    let two = c.unlink.new.rows in
    let by_table = c.remove.ensures.rest in
    let by_list = c.unlink.ensures.rest in
    let self = c.args.self.now in
    let i = c.args.i in
    record {
      laid = λ ids free h here.
          let open_one = reads_on unchained (λ _. refl) (λ _. refl) self.open rows one ids by_table h.listed in
          let free_one = reads_on unchained (λ _. refl) (λ _. refl) self.free rows one free by_table h.spare in
          record {
            listed = c.unlink.ensures.listed ids open_one here;
            spare = c.unlink.ensures.others ids open_one here self.free free free_one h.apart;
            kept = keeps_on self.callers c.remove.new.heads one two (without i ids) by_list (c.remove.ensures.held ids h.kept here);
            apart = λ k. let w = count_without k i ids in let a = h.apart k in grind (arith, nat_tests);
            all_rows = even unlisted one two by_list ∙ even unchained rows one by_table ∙ h.all_rows;
            all_slots = omega (arith, h.all_slots);
          };
      said = column_of_rest unlisted session_of (λ _. refl) one two by_list ∙ column_of_rest unchained session_of (λ _. refl) rows one by_table;
      callers = refl;
      counted = refl;
    }
