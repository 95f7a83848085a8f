use Rattle.std.proofs.Common.{map, sym, arith}
use lib.ListN.{length-map}
use Rattle.linked_rows.proofs.Marks.{cleared_more, cleared_all}
use Rattle.linked_rows.proofs.register.Register.open.Goals as goal

pub loop-row-preserved : goal.loop-row-preserved
loop-row-preserved g c =
    cleared_more g.R.Marked.mark_of c.loop-row.rows c.loop-row.row-index _ (omega (arith, c.loop-row-test.true, c.loop-row.auto.rows)) c.set_held.ensures.marked c.loop-row.invariant

pub returns-clause-held : goal.returns-clause-held
returns-clause-held g c =
    let rows = c.loop-row.rows in
    let link_of = g.R.Chained.link_of in
    record {
      kept = c.open.ensures.empty (map link_of rows) (map g.R.Chained.hash_of rows) (omega (arith, c.requires.few, c.loop-row.auto.rows, length-map rows link_of));
      marks = λ k. sym (cleared_all g.R.Marked.mark_of rows c.loop-row.row-index c.loop-row.invariant (omega (arith, c.loop-row-test.false, c.loop-row.auto.rows)) k);
    }
