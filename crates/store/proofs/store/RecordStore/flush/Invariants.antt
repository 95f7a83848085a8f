use Rattle.std.proofs.Common.{◌≡◌, ℕ, List, None}
use Rattle.model.specs.Setup.{Setup}
use Rattle.model.specs.Store.{Store}
use Rattle.store.specs.Showing.{Shows, pages_of}
use Rattle.store.specs.Flushing.{Flushing}
use Rattle.store.proofs.store.RecordStore.flush.Given as goal

abbrev pub invariant-loop-class : goal.invariant-loop-class
invariant-loop-class l =
    (pages_of l.self ≡ pages_of l.initial.self)
    × ((setup : Setup) (n : ℕ) (memory : List ℕ) (s : Store) (at : ℕ) → Shows setup n l.initial.self memory None s → Flushing setup n l.self memory at s l.class)
