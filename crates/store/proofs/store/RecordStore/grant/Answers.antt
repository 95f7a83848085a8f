use Rattle.std.proofs.Common.{◌+◌, subst}
use Rattle.plan.specs.Classes.{class_of}
use Rattle.store.specs.Granting.{Comes, granting}
use Rattle.store.proofs.store.RecordStore.grant.Goals as goal

pub returns-clause-shown : goal.returns-clause-shown
returns-clause-shown g c =
    let done = c.grant_room.ensures in
    λ setup n memory s few sh.
    subst (λ evicting. Comes setup (λ k. granting setup evicting c.args.second k s) (class_of (c.args.key_len + c.args.data_len) setup.sizes) n c.grant_room.new.self memory s c.grant_room.result)
    c.evicts.ensures (done.shown setup n memory s sh)
