-- A flush, class by class.
use Rattle.std.specs.Prelude.{◌≡◌, ℕ, ◌<◌, ◌≤◌, List, [], None}
use Rattle.model.specs.Setup.{Setup}
use Rattle.model.specs.Store.{Store, Flushed, class_at, everything, remove_all}
use Rattle.store.specs.declared.store.RecordStore.{RecordStore}
use Rattle.store.specs.Showing.{Shows}

-- the classes below a number hold no record
abbrev pub Emptied : ℕ → Store → Type 0
Emptied class s = (d : ℕ) → 1 ≤ d → d < class → (class_at d s.classes).records ≡ []

-- the store that a flush came to: what is left to remove leads where the whole flush leads, and the classes below a
-- number hold no record
pub record Flushing (setup : Setup) (n : ℕ) (t : RecordStore) (memory : List ℕ) (at : ℕ) (s : Store) (class : ℕ) : Type 0 where
  pub left : Store
  pub same : remove_all setup at Flushed (everything left) left ≡ remove_all setup at Flushed (everything s) s
  pub emptied : Emptied class left
  pub shown : Shows setup n t memory None left
