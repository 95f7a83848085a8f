use Rattle.std.proofs.Common.{None, refl, ap, ◌∙◌}
use Rattle.model.specs.Store.{class_at}
use Rattle.store.specs.Showing.{found_record}
use Rattle.store.proofs.Flushed.{front_none, one_emptied, flushed_one, lists_lower}
use Rattle.store.proofs.store.RecordStore.flush_class.Goals as goal

pub loop-row-init : goal.loop-row-init
loop-row-init c = (refl, λ setup n memory s at sh num emptied. record { left = s; same = refl; emptied = emptied; shown = sh })

pub loop-row-smaller : goal.loop-row-smaller
loop-row-smaller c = lists_lower c.loop-row.self.records.slab c.leave.new.self.records.slab c.in-Some.row c.in-Some.ensures.held c.leave.ensures.freed

pub loop-row-preserved : goal.loop-row-preserved
loop-row-preserved c = (
  ap (λ l. l.pages) c.leave.ensures.kept.layout ∙ c.loop-row.invariant.0,
  λ setup n memory s at sh num emptied.
      let f = c.loop-row.invariant.1 setup n memory s at sh num emptied in
      let r = found_record c.loop-row.self memory (record { row = c.in-Some.row }) in
      let front = c.in-Some.ensures.shown setup memory f.left.classes f.shown.records num in
      flushed_one f num r front c.leave.new.self (c.leave.ensures.shown setup n memory None f.left at f.shown),
)

pub returns-clause-shown : goal.returns-clause-shown
returns-clause-shown c =
    λ setup n memory s at sh num emptied.
    let f = c.loop-row.invariant.1 setup n memory s at sh num emptied in
    one_emptied f (front_none (class_at c.args.class f.left.classes).records (c.in_default.ensures.shown setup memory f.left.classes f.shown.records num))
