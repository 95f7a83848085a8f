use Rattle.std.proofs.Common.{◌≡◌, Some, None, sym, ap, subst}
use Rattle.model.specs.Store.{Replaced, held, remove_any}
use Rattle.store.specs.Showing.{Shows, found_record}
use Rattle.store.proofs.store.RecordStore.clear.Goals as goal

pub returns-in-Some-clause-shown : goal.returns-in-Some-clause-shown
returns-in-Some-clause-shown c =
    let memory = c.args.memory.now in
    let key = c.args.key.now.bytes.now in
    λ setup n out s at sh.
    let r = found_record c.args.self.now memory (record { row = c.in-Some.old }) in
    let is : held key s ≡ Some r = c.in-Some.ensures.found setup s.classes sh.records in
    subst (Shows setup n c.leave.new.self memory out) (ap (λ o. remove_any setup at Replaced o s) (sym is)) (c.leave.ensures.shown setup n memory out s at sh)

pub returns-in_default-clause-shown : goal.returns-in_default-clause-shown
returns-in_default-clause-shown c =
    let memory = c.args.memory.now in
    let key = c.args.key.now.bytes.now in
    λ setup n out s at sh.
    let is : held key s ≡ None = c.in_default.ensures.found setup s.classes sh.records in
    subst (Shows setup n c.args.self.now memory out) (ap (λ o. remove_any setup at Replaced o s) (sym is)) sh
