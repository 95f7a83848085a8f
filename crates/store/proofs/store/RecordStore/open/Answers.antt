use Rattle.std.proofs.Common.{◌≡◌, arith, vec_len, sym, refl, ◌∙◌}
use Rattle.store.specs.Counting.{no_counts}
use Rattle.store.proofs.Opens.{shown_opened}
use Rattle.store.proofs.store.RecordStore.open.Goals as goal
use Rattle.store.proofs.store.RecordStore.open.Goals.{After-default}

nothing_counted : (c : After-default) → c.default.result ≡ no_counts
nothing_counted c = grind arith

pub returns-clause-shown : goal.returns-clause-shown
returns-clause-shown c =
    let done = c.open-records.ensures in
    λ setup memory sizes rows few limit.
    shown_opened _ (vec_len c.args.rows) done.opened rows few (done.shown setup memory sizes) done.granted done.table (done.slots ∙ sym limit) (sym sizes) refl (nothing_counted (goal.at.returns-clause-shown c).After-default)
