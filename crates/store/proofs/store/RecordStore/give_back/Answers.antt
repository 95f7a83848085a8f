use Rattle.std.proofs.Common.{None, refl, ap, ◌∙◌}
use Rattle.chained.specs.Chains.{size}
use Rattle.store.proofs.Shown.{shown_as}
use Rattle.store.proofs.Grants.{none_outstanding}
use Rattle.store.proofs.store.RecordStore.give_back.Goals as goal

pub returns-clause-shown : goal.returns-clause-shown
returns-clause-shown c =
    let done = c.give_back.ensures in
    let new = c.give_back.new.self in
    λ setup n memory s sh.
    shown_as None c.args.self.now _ s s.growth sh (record { plan = refl; cas = refl; counts = refl; soonest = refl }) done.kept.layout done.kept.slots (done.shown setup memory s.classes sh.records)
    (none_outstanding c.args.self.now.records.slab new.slab c.args.grant sh.granted done.kept.granted done.returned)
    (ap size done.kept.table ∙ sh.growth)
