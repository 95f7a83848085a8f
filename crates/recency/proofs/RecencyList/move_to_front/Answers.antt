use Rattle.std.proofs.Common.{◌+◌, ◌≤◌, length, sym, refl, ap, ◌∙◌, subst, arith}
use mathlib.Core.Logic.{∥∥₁_map}
use lib.ListN.{length-map}
use Rattle.recency.specs.Numbers.{none, count, without}
use Rattle.recency.specs.Lists.{Reads}
use Rattle.recency.proofs.Counts.{count_moved, count_left_out, front_stays}
use Rattle.recency.proofs.RecencyList.move_to_front.Goals as goal

pub push_front-requires : goal.push_front-requires
push_front-requires g c =
    let i = c.args.i in
    record {
      within = omega (arith, c.requires.within, length-map c.unlink.new.rows g.R.Linked.bare, length-map c.args.rows.now g.R.Linked.bare, ap length c.unlink.ensures.rest);
      outside = ∥∥₁_map c.requires.inside (λ s. (without i s.0, c.unlink.ensures.listed s.0 s.1 s.2, count_left_out i s.0));
    }

pub returns-then-self-i : goal.returns-then-self-i
returns-then-self-i g c =
    let i = c.args.i in
    let out = c.unlink.ensures in
    let back = c.push_front.ensures in
    record {
      listed = λ ids l here. back.listed (without i ids) (out.listed ids l here) (count_left_out i ids);
      rest = back.rest ∙ out.rest;
      outside = λ ids l here k d away.
          back.outside (without i ids) (out.listed ids l here) k d (count_moved i ids here k ∙ away) ∙ out.outside ids l here k d away;
      others = λ ids l here other mine m apart.
          back.others (without i ids) (out.listed ids l here) other mine (out.others ids l here other mine m apart)
          (λ k. subst (λ n. n + count k mine ≤ 1) (sym (count_moved i ids here k)) (apart k));
    }

pub returns-else-self-i : goal.returns-else-self-i
returns-else-self-i g c =
    let i = c.args.i in
    let list = c.args.self.now in
    record {
      listed = λ ids l here.
          subst (λ xs. Reads g.R.Linked.next_of g.R.Linked.prev_of list c.args.rows.now xs) (sym (front_stays i ids none (sym l.front_is ∙ c.if-self-i.false) here)) l;
      rest = refl;
      outside = λ ids l here k d away. refl;
      others = λ ids l here other mine m apart. m;
    }
