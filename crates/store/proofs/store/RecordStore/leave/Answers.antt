use Rattle.std.proofs.Common.{refl}
use Rattle.store.specs.Counting.{why_of}
use Rattle.store.proofs.Shown.{shown_removed}
use Rattle.store.proofs.store.RecordStore.leave.Goals as goal

pub returns-clause-shown : goal.returns-clause-shown
returns-clause-shown c =
    let done = c.unlink.ensures in
    λ setup n memory out s at sh.
    shown_removed c.args.self.now _ s sh c.args.i c.requires done.kept refl refl refl at (why_of c.args.why) (done.shown setup memory s.classes sh.records) c.left.ensures
