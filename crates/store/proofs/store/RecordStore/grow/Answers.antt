use Rattle.std.proofs.Common.{refl}
use Rattle.store.proofs.Links.{shown_grown}
use Rattle.store.proofs.store.RecordStore.grow.Goals as goal

pub returns-clause-shown : goal.returns-clause-shown
returns-clause-shown c =
    let done = c.grow_after.ensures in
    λ setup n memory out s sh. shown_grown c.args.self.now _ s sh done.slab done.slots (record { plan = refl; cas = refl; counts = refl; soonest = refl }) c.entries.result c.entries.ensures done.grown
