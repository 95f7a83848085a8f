use native.Mathlib.Bridge.{le_prop}
use Rattle.std.proofs.Common.{map, refl, ◌∙◌, arith}
use mathlib.Core.Logic.{∥∥₁_elim, ∥∥₁_map}
use Rattle.chained.specs.Chains.{poured}
use Rattle.chained.proofs.Moves.{pour_end, pours_row, pour_out, pour_less, pour_more, columns_even, column_agree}
use Rattle.chained.proofs.table.Chains.insert_all.Goals as goal

pub loop-at-init : goal.loop-at-init
loop-at-init g c = (omega arith, refl, λ ids rest h ch apart. (ids, rest, h, ch, apart, refl))

pub link_of-next-requires : goal.link_of-next-requires
link_of-next-requires g c =
    pours_row g.R.Chained.link_of c.loop-at.rows (∥∥₁_map c.requires (λ x. (poured x.1 x.0, c.loop-at.invariant.2 x.0 x.1 x.2 x.3 x.4))) c.loop-at-test.true

pub insert-requires : goal.insert-requires
insert-requires g c =
    record {
      within = pours_row g.R.Chained.link_of c.loop-at.rows (∥∥₁_map c.requires (λ x. (poured x.1 x.0, c.loop-at.invariant.2 x.0 x.1 x.2 x.3 x.4))) c.loop-at-test.true;
      outside = ∥∥₁_map c.requires (λ x.
          let p = c.loop-at.invariant.2 x.0 x.1 x.2 x.3 x.4 in
          (p.0, p.2, pour_out p c.loop-at-test.true));
    }

pub loop-at-smaller : goal.loop-at-smaller
loop-at-smaller g c =
    let rows = c.loop-at.rows in
    let new = c.insert.new.rows in
    let same = columns_even g.R.Chained.bare g.R.Chained.link_of new rows c.insert.ensures.rest in
    let agree = column_agree g.R.Chained.link_of new rows c.loop-at.at same c.insert.ensures.others in
    ∥∥₁_elim c.requires le_prop (λ x. pour_less (c.loop-at.invariant.2 x.0 x.1 x.2 x.3 x.4) c.loop-at-test.true (map g.R.Chained.link_of new) same agree c.link_of-next.ensures)

pub loop-at-preserved : goal.loop-at-preserved
loop-at-preserved g c =
    let rows = c.loop-at.rows in
    let new = c.insert.new.rows in
    let ne = c.loop-at-test.true in
    let same = columns_even g.R.Chained.bare g.R.Chained.link_of new rows c.insert.ensures.rest in
    let agree = column_agree g.R.Chained.link_of new rows c.loop-at.at same c.insert.ensures.others in (
      omega (arith, c.link_of-next.type_inv),
      c.insert.ensures.rest ∙ c.loop-at.invariant.1,
      λ ids rest h ch apart.
          let p = c.loop-at.invariant.2 ids rest h ch apart in
          pour_more p ne (map g.R.Chained.link_of new) same agree c.link_of-next.ensures (c.insert.ensures.held p.0 p.2 (pour_out p ne)),
    )

pub returns : goal.returns
returns g c =
    record {
      held = λ ids rest h ch apart. pour_end c.loop-at-test.false (c.loop-at.invariant.2 ids rest h ch apart);
      rest = c.loop-at.invariant.1;
    }
