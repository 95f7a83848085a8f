use Rattle.std.proofs.Common.{◌≤◌, map, length, sym, ◌∙◌, subst, arith}
use lib.ListN.{length-map}
use Rattle.recency.specs.Numbers.{none}
use Rattle.chained.proofs.Searches.{Toward, toward_start, toward_more, toward_within, toward_less, toward_among}
use Rattle.chained.proofs.table.ahead_of.Goals as goal

pub link_of-next-requires : goal.link_of-next-requires
link_of-next-requires g c =
    let rows = c.args.rows.now in
    let link = map g.R.Chained.link_of rows in
    let first = c.args.first in
    let i = c.args.i in
    let even = length-map rows g.R.Chained.link_of in
    let few : length link ≤ none = omega (arith, c.requires.few, even) in
    omega (arith, toward_within link first i few first (toward_start link first i) c.requires.inside, even)

pub link_of-next-requires-in-loop-next : goal.link_of-next-requires-in-loop-next
link_of-next-requires-in-loop-next g c =
    let rows = c.args.rows.now in
    let link = map g.R.Chained.link_of rows in
    let first = c.args.first in
    let i = c.args.i in
    let even = length-map rows g.R.Chained.link_of in
    let few : length link ≤ none = omega (arith, c.requires.few, even) in
    let at = c.loop-next.at in
    let inv = c.loop-next.invariant in
    let on = subst (λ f. Toward link first i f) (sym inv.2) (toward_more link first i few at inv.4 inv.3) in
    omega (arith, toward_within link first i few c.loop-next.next on c.requires.inside, even)

pub loop-next-smaller : goal.loop-next-smaller
loop-next-smaller g c =
    let rows = c.args.rows.now in
    let link = map g.R.Chained.link_of rows in
    let first = c.args.first in
    let i = c.args.i in
    let even = length-map rows g.R.Chained.link_of in
    let few : length link ≤ none = omega (arith, c.requires.few, even) in
    let inv = c.loop-next.invariant in
    toward_less link first i few c.loop-next.at inv.4 c.requires.inside c.loop-next.next inv.2

pub loop-next-preserved : goal.loop-next-preserved
loop-next-preserved g c =
    let rows = c.args.rows.now in
    let link = map g.R.Chained.link_of rows in
    let first = c.args.first in
    let i = c.args.i in
    let even = length-map rows g.R.Chained.link_of in
    let few : length link ≤ none = omega (arith, c.requires.few, even) in
    let at = c.loop-next.at in
    let inv = c.loop-next.invariant in
    let on = subst (λ f. Toward link first i f) (sym inv.2) (toward_more link first i few at inv.4 inv.3) in
    (inv.1, omega (arith, c.link_of-next-in-loop-next.type_inv), c.link_of-next-in-loop-next.ensures, c.loop-next-test.true, on)

pub returns : goal.returns
returns g c =
    let rows = c.args.rows.now in
    let link = map g.R.Chained.link_of rows in
    let first = c.args.first in
    let i = c.args.i in
    let even = length-map rows g.R.Chained.link_of in
    let few : length link ≤ none = omega (arith, c.requires.few, even) in
    let at = c.loop-next.at in
    let inv = c.loop-next.invariant in
    record {
      within = omega (arith, toward_within link first i few at inv.4 c.requires.inside, even);
      names = sym inv.2 ∙ c.loop-next-test.false;
      among = toward_among link first i few at inv.4;
    }
