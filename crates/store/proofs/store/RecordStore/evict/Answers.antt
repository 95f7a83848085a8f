use Rattle.std.proofs.Common.{true, None, ap}
use Rattle.model.specs.Store.{Evicted, rid}
use Rattle.store.specs.Showing.{found_record}
use Rattle.store.proofs.Grants.{made_rid}
use Rattle.store.proofs.store.RecordStore.evict.Goals as goal

pub returns-in_default-clause-shown : goal.returns-in_default-clause-shown
returns-in_default-clause-shown c = λ setup n memory s at sh num. (ap (λ o. rid setup at Evicted o s) (c.in_default.ensures.shown setup memory s.classes sh.records num), sh)

pub returns-clause-shown : goal.returns-clause-shown
returns-clause-shown c =
    λ setup n memory s at sh num.
    let r = found_record c.args.self.now memory (record { row = c.in-Some.row }) in
    made_rid s c.args.class sh.records.kept num at Evicted (λ _. true) r (c.in-Some.ensures.shown setup memory s.classes sh.records num) c.leave.new.self
    (c.leave.ensures.shown setup n memory None s at sh)
