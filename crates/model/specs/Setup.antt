-- What an opening fixes for the life of a table.
use Rattle.std.specs.Prelude.{ℕ, ◌*◌, List}
use Rattle.plan.specs.Classes.{size_at, chunks_of}

pub record Setup : Type 0 where
  -- the sizes of the classes' chunks, class 1 first
  pub sizes : List ℕ
  -- how many pages there are
  pub pages : ℕ
  -- how many slots the hash of the records may have at most
  pub limit : ℕ
  -- the number of the policy that every request has to bring
  pub policy : ℕ

-- how many chunks so many pages give to a class
abbrev pub chunks : Setup → ℕ → ℕ → ℕ
chunks setup class pages = pages * chunks_of (size_at setup.sizes class)
