-- What a policy means to the table.
use Rattle.std.specs.Prelude.{ℕ, Bool}

-- A policy is known by its number, by whether it lets a record be evicted, and by whether a use at `now` moves
-- a record to the front that was last stored or moved at `moved`. The same question always has the same answer.
pub record Meaning : Type 0 where
  pub number : ℕ
  pub evicting : Bool
  pub moving : ℕ → ℕ → Bool

-- the meaning of a policy, packed from the three things that it is known by
abbrev pub meaning : ℕ → Bool → (ℕ → ℕ → Bool) → Meaning
meaning number evicting moving = record { number = number; evicting = evicting; moving = moving }
