use Rattle.std.proofs.Common.{map, get_or, refl, ap, ◌∙◌, arith}
use lib.ListN.{length-map}
use Rattle.recency.specs.Numbers.{none}
use Rattle.recency.proofs.Known.{few_of, p_within, n_within, listed_as, columns_even, link_is}
use Rattle.recency.proofs.Steps.{spot, kept_apart, near_outside, row_same}
use Rattle.recency.proofs.RecencyList.unlink.Goals as goal

pub join-requires : goal.join-requires
join-requires g c =
    let rows = c.args.rows.now in
    let list = c.args.self.now in
    let i = c.args.i in
    let p = c.prev-ahead.result in
    let n = c.next-behind.result in
    let next_of = g.R.Linked.next_of in
    let prev_of = g.R.Linked.prev_of in
    let next = map next_of rows in
    let prev = map prev_of rows in
    let same = columns_even prev_of next_of rows in
    let even = length-map rows next_of in
    let pe = link_is prev_of rows i p c.index-rows-i.result c.requires.within c.prev-ahead.ensures in
    let ne = link_is next_of rows i n c.index-rows-i-2.result c.requires.within c.next-behind.ensures in
    record {
      few = omega (arith, few_of list.front list.back next prev c.requires.inside, even);
      ahead = λ h. omega (arith, p_within list.front list.back next prev i p n same pe ne c.requires.inside h, even);
      behind = λ h. omega (arith, n_within list.front list.back next prev i p n same pe ne c.requires.inside h, even);
    }

pub returns : goal.returns
returns g c =
    let rows = c.args.rows.now in
    let new = c.join.new.rows in
    let list = c.args.self.now in
    let i = c.args.i in
    let p = c.prev-ahead.result in
    let n = c.next-behind.result in
    let next_of = g.R.Linked.next_of in
    let prev_of = g.R.Linked.prev_of in
    let next = map next_of rows in
    let prev = map prev_of rows in
    let same = columns_even prev_of next_of rows in
    let pe = link_is prev_of rows i p c.index-rows-i.result c.requires.within c.prev-ahead.ensures in
    let ne = link_is next_of rows i n c.index-rows-i-2.result c.requires.within c.next-behind.ensures in
    let told = c.join.ensures in
    record {
      listed = λ ids l here.
          listed_as _ told.front told.back told.nexts told.prevs (spot list.front list.back next prev ids i p n same l here pe ne).left;
      rest = told.rest;
      outside = λ ids l here k d out.
          let s = spot list.front list.back next prev ids i p n same l here pe ne in
          row_same next_of prev_of g.R.Linked.bare g.met.R.Linked.whole new rows k d
          (ap (λ xs. get_or xs k none) told.nexts ∙ near_outside next ids p n k l.few s.p_near out)
          (ap (λ xs. get_or xs k none) told.prevs ∙ near_outside prev ids n p k (omega (arith, l.few, same)) s.n_near out)
          told.rest;
      others = λ ids l here other mine m apart.
          let s = spot list.front list.back next prev ids i p n same l here pe ne in
          listed_as mine refl refl told.nexts told.prevs (kept_apart other.front other.back next prev ids mine p n n p s.p_near s.n_near m apart);
    }
