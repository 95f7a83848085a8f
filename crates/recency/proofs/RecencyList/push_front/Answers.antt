use Rattle.std.proofs.Common.{cond, eqb, ◌∷◌, map, length, get_or, set, refl, ap, ◌∙◌, arith}
use lib.ListN.{length-map}
use Rattle.recency.specs.Numbers.{none}
use Rattle.recency.proofs.Known.{few_of, front_within, listed_as, columns_even}
use Rattle.recency.proofs.Steps.{pushed, pushed_others, pushed_nexts, pushed_prevs, row_same}
use Rattle.recency.proofs.RecencyList.push_front.Goals as goal

pub join-requires-clause-few : goal.join-requires-clause-few
join-requires-clause-few g c =
    let rows = c.args.rows.now in
    let list = c.args.self.now in
    omega (arith, few_of list.front list.back (map g.R.Linked.next_of rows) (map g.R.Linked.prev_of rows) c.requires.outside, length-map rows g.R.Linked.next_of)

pub join-requires-clause-behind : goal.join-requires-clause-behind
join-requires-clause-behind g c = λ ne.
    let rows = c.args.rows.now in
    let list = c.args.self.now in
    omega (arith, front_within list.front list.back (map g.R.Linked.next_of rows) (map g.R.Linked.prev_of rows) c.requires.outside ne, length-map rows g.R.Linked.next_of)

pub join-requires-2-clause-few : goal.join-requires-2-clause-few
join-requires-2-clause-few g c =
    let rows = c.args.rows.now in
    let list = c.args.self.now in
    let same = ap length c.join.ensures.rest in
    omega (arith, few_of list.front list.back (map g.R.Linked.next_of rows) (map g.R.Linked.prev_of rows) c.requires.outside, length-map rows g.R.Linked.next_of, length-map rows g.R.Linked.bare, length-map c.join.new.rows g.R.Linked.bare)

pub returns : goal.returns
returns g c =
    let rows = c.args.rows.now in
    let new = c.join-2.new.rows in
    let list = c.args.self.now in
    let i = c.args.i in
    let next_of = g.R.Linked.next_of in
    let prev_of = g.R.Linked.prev_of in
    let next = map next_of rows in
    let prev = map prev_of rows in
    let one = c.join.ensures in
    let two = c.join-2.ensures in
    let nexts = two.nexts ∙ ap (λ xs. set xs none i) one.nexts in
    let prevs = two.prevs ∙ ap (λ xs. set xs i none) one.prevs in
    let rest = two.rest ∙ one.rest in
    record {
      listed = λ ids l out.
          listed_as (i ∷ ids) two.front (two.back ∙ ap (λ b. cond (eqb i none) none b) one.back) nexts prevs
          (pushed list.front list.back next prev ids i (columns_even prev_of next_of rows) (omega (arith, c.requires.within, length-map rows next_of)) out l);
      rest = rest;
      outside = λ ids l k d out.
          row_same next_of prev_of g.R.Linked.bare g.met.R.Linked.whole new rows k d
          (ap (λ xs. get_or xs k none) nexts ∙ pushed_nexts list.front list.back next prev ids i l k out)
          (ap (λ xs. get_or xs k none) prevs ∙ pushed_prevs list.front list.back next prev ids i l k (columns_even prev_of next_of rows) out)
          rest;
      others = λ ids l other mine m apart.
          listed_as mine refl refl nexts prevs (pushed_others list.front list.back next prev ids i l other.front other.back mine m apart);
    }
