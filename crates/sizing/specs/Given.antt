-- The pages that a table may be given.
use Rattle.std.specs.Prelude.{ℕ, cond, ◌&&◌, Ok, Err, Result, nat_le}
use Rattle.refusals.specs.declared.Refusal.{Refusal}
use Rattle.refusals.specs.declared.Refusal.TheVariants.{Memory}

-- from 1 to 256 pages, and any other number is refused as a length of memory that no table has
abbrev pub given_pages : ℕ → Result ℕ Refusal
given_pages pages = cond (nat_le 1 pages && nat_le pages 256) (Ok pages) (Err Memory)
