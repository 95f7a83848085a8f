use Rattle.std.proofs.Common.{refl}
use Rattle.store.proofs.Grants.{made_given}
use Rattle.store.proofs.Planned.{has_chunks}
use Rattle.store.proofs.store.RecordStore.give_page.Goals as goal

pub returns-clause-shown : goal.returns-clause-shown
returns-clause-shown c =
    let done = c.give_page.ensures in
    λ setup n memory s sh num.
    made_given c.args.self.now _ s sh c.args.class num (record { plan = refl; cas = refl; counts = refl; soonest = refl }) c.give_page.result
    (done.answer setup memory s.classes (has_chunks c.args.self.now.plan sh.sizes) sh.records num) done.pages.0 done.pages.1 done.same done.table done.slots done.granted
    (done.shown setup memory s.classes sh.records num)
