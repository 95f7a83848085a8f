use Rattle.std.proofs.Common.{◌≡◌, ℕ, List, None}
use Rattle.std.specs.List.{sum}
use Rattle.model.specs.Setup.{Setup}
use Rattle.model.specs.Sound.{Numbered}
use Rattle.model.specs.Store.{Store}
use Rattle.slabs.specs.Slabs.{homes_of}
use Rattle.store.specs.Showing.{Shows, pages_of}
use Rattle.store.specs.Flushing.{Emptied, Flushing}
use Rattle.store.proofs.store.RecordStore.flush_class.Given as goal

abbrev pub invariant-loop-row : goal.invariant-loop-row
invariant-loop-row l =
    (pages_of l.self ≡ pages_of l.initial.self)
    × ((setup : Setup) (n : ℕ) (memory : List ℕ) (s : Store) (at : ℕ) → Shows setup n l.initial.self memory None s → Numbered setup l.class → Emptied l.class s → Flushing setup n l.self memory at s l.class)

-- a row that leaves goes to a list of a smaller number
abbrev pub decreases-loop-row : goal.decreases-loop-row
decreases-loop-row l = sum (homes_of l.self.records.slab)
