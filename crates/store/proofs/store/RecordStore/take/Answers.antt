use Rattle.std.proofs.Common.{◌≡◌, refl, ap, ◌∙◌}
use Rattle.chained.specs.Chains.{size}
use Rattle.slabs.specs.Slabs.{Granted}
use Rattle.store.proofs.Shown.{shown_as}
use Rattle.store.proofs.Grants.{outstanding}
use Rattle.store.proofs.store.RecordStore.take.Goals as goal

pub returns-clause-shown : goal.returns-clause-shown
returns-clause-shown c =
    let t = c.args.self.now in
    let r = c.take.result in
    let new = c.take.new.self in
    let done = c.take.ensures in
    λ setup n memory s sh.
    shown_as r t _ s s.growth sh (record { plan = refl; cas = refl; counts = refl; soonest = refl }) done.layout done.slots (done.shown setup memory s.classes sh.records)
    (outstanding r t.records new (λ grant. (grant.class ≡ c.args.class) × Granted new.slab grant) done.taken (done.only sh.granted) sh.granted)
    (ap size done.table ∙ sh.growth)

pub returns-clause-room : goal.returns-clause-room
returns-clause-room c = λ setup n memory s sh num fits. c.take.ensures.room setup memory s.classes sh.records sh.granted num
