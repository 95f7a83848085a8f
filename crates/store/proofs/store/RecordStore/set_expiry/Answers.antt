use Rattle.std.proofs.Common.{◌<◌, length, refl, arith, rules}
use Rattle.store.proofs.Shown.{shown_touched}
use Rattle.store.proofs.store.RecordStore.set_expiry.Goals as goal

pub returns-clause-shown : goal.returns-clause-shown
returns-clause-shown c =
    let done = c.set_expiry.ensures in
    let class = c.class_of-class.ensures in
    let lt : c.class_of-class.result < length c.args.self.now.soonest.seconds = search (rules, arith) in
    λ setup n memory s sh.
    shown_touched c.args.self.now _ s sh c.args.found.row c.requires.held done.kept refl refl c.class_of-class.result class.value lt c.args.expiry c.note.ensures
    (done.shown setup memory s.classes sh.records) refl
