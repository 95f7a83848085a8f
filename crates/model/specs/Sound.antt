-- A list of classes in which every record is where it belongs. Every store of every run is such a one.
use Rattle.std.specs.Prelude.{◌≡◌, ℕ, ◌≤◌, List, length, filter}
use Rattle.std.specs.List.{flat_map, AllByRecursion}
use Rattle.model.specs.Setup.{Setup, chunks}
use Rattle.model.specs.Records.{Key, has_key, class_no}
use Rattle.model.specs.Store.{Class, class_at, records_of}

-- the number of a class that there is
pub record Numbered (setup : Setup) (class : ℕ) : Type 0 where
  pub low : 1 ≤ class
  pub high : class ≤ length setup.sizes

pub record Sound (setup : Setup) (ks : List Class) : Type 0 where
  -- there are as many classes as sizes
  pub size : length ks ≡ length setup.sizes
  -- each record is in its own class
  pub homes : (class : ℕ) → 1 ≤ class → AllByRecursion (λ r. class_no setup r ≡ class) (class_at class ks).records
  -- no key is held twice
  pub once : (key : Key) → length (filter (has_key key) (flat_map records_of ks)) ≤ 1
  -- no class holds more records than it has chunks
  pub fits : (class : ℕ) → 1 ≤ class → length (class_at class ks).records ≤ chunks setup class (class_at class ks).pages
