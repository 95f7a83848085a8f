-- The seconds before which no record of a class is dead.
use Rattle.std.specs.Prelude.{ℕ, ◌≤◌, min, List, Some, None, Option, slice_index, slice_set}
use Rattle.model.specs.Records.{Record}

-- an expiry is not before a second
abbrev pub Later : ℕ → Option ℕ → Type 0
Later bound None = Unit {0}
Later bound (Some second) = bound ≤ second

-- a record is not dead before a second
abbrev pub NotBefore : ℕ → Record → Type 0
NotBefore bound r = Later bound r.expiry

-- the earlier of a second and an expiry
abbrev pub sooner : ℕ → Option ℕ → ℕ
sooner bound None = bound
sooner bound (Some second) = min bound second

-- the seconds that are kept for the classes, with an expiry noted for one of them
abbrev pub noting : Option ℕ → Option ℕ → List ℕ → List ℕ
noting None expiry soonest = soonest
noting (Some class) expiry soonest = slice_set soonest class (sooner (slice_index soonest class) expiry)
