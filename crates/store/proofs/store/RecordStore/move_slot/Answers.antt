use Rattle.std.proofs.Common.{None, refl, ap, ◌∙◌}
use Rattle.chained.specs.Growth.{move_one}
use Rattle.store.proofs.Shown.{shown_as}
use Rattle.store.proofs.store.RecordStore.move_slot.Goals as goal

pub returns-clause-shown : goal.returns-clause-shown
returns-clause-shown c =
    let done = c.move_slot.ensures in
    λ setup n memory s sh.
    shown_as None c.args.self.now _ s (move_one s.growth) sh (record { plan = refl; cas = refl; counts = refl; soonest = refl }) done.layout done.slots
    (done.shown setup memory s.classes sh.records) (λ i class g. sh.granted i class (done.granted i class g)) (done.moved ∙ ap move_one sh.growth)
