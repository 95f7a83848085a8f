-- How many pages records need, class by class and in all.
use Rattle.std.specs.Prelude.{◌≡◌, ℕ, zero, suc, ◌+◌, ◌-◌, ◌*◌, ◌/◌, ◌<◌, ◌≤◌, cond, ◌&&◌, length, Some, None, Option, Ok, Err, Result, ◌==◌, nat_le}
use Rattle.std.specs.Option.{unwrap_or}
use Rattle.plan.specs.Sizes.{page}
use Rattle.plan.specs.Classes.{size_at, of_class, chunks_of}
use Rattle.plan.specs.Plans.{plan_sizes}
use Rattle.sizing.specs.declared.tally.Tally.{Tally}
use Rattle.sizing.specs.declared.tally.Load.{Load}
use Rattle.sizing.specs.declared.tally.Shortage.{Shortage}
use Rattle.sizing.specs.Totals.{records_at, filled_at}

-- so many pages of so many chunks hold the records, and no fewer do
pub record Least (records chunks pages : ℕ) : Type 0 where
  pub enough : records ≤ pages * chunks
  pub no_fewer : (fewer : ℕ) → fewer < pages → fewer * chunks < records

-- that number, as it is worked out: records over chunks, rounded up
abbrev pub pages_for : ℕ → ℕ → ℕ
pages_for records chunks = (records + (chunks - 1)) / chunks

-- the pages that a class needs; none where the plan has no such class
abbrev pub pages_at : Tally → ℕ → ℕ
pages_at tally class =
    unwrap_or (of_class (λ size. pages_for (records_at tally class) (chunks_of size)) (plan_sizes tally.plan) class) 0

-- the same in other words: where the plan has the class, they are the least that hold its records
abbrev pub ClassPages : Tally → ℕ → ℕ → Type 0
ClassPages tally class pages =
    1 ≤ class → class ≤ length (plan_sizes tally.plan) → Least (records_at tally class) (chunks_of (size_at (plan_sizes tally.plan) class)) pages

-- the pages of the classes from 1 up to this one
abbrev pub pages_up_to : Tally → ℕ → ℕ
pages_up_to tally zero = 0
pages_up_to tally (suc class) = pages_up_to tally class + pages_at tally (suc class)

-- the thousandths of the pages' bytes that are filled, rounded down
abbrev pub share_of : ℕ → ℕ → ℕ
share_of filled pages = cond (pages == 0) 0 (filled * 1000 / (pages * page))

-- what a class comes to
abbrev pub load_at : Tally → ℕ → Load
load_at tally class =
    record {
      records = records_at tally class;
      pages = pages_at tally class;
      chunks = pages_at tally class * chunks_of (size_at (plan_sizes tally.plan) class);
      share = share_of (filled_at tally class) (pages_at tally class);
    }

abbrev pub load_of : Tally → ℕ → Option Load
load_of tally class =
    cond (nat_le 1 class && nat_le class (length (plan_sizes tally.plan))) (Some (load_at tally class)) None

-- Pages are handed to the classes in their order. Every class up to `class` gets all its pages but the last, which lacks some.
pub record FirstShort (tally : Tally) (given class lacks : ℕ) : Type 0 where
  pub numbered : (1 ≤ class) × (class ≤ length (plan_sizes tally.plan))
  pub before : pages_up_to tally (class - 1) ≤ given
  pub some : 1 ≤ lacks
  pub short : pages_up_to tally class ≡ given + lacks

-- What an account says of the pages given. Ok: all classes get their pages, and so many are left.
-- Err: the classes before this one do, and this one lacks so many.
abbrev pub Settled : Tally → ℕ → Result ℕ Shortage → Type 0
Settled tally given (Ok spare) = pages_up_to tally (length (plan_sizes tally.plan)) + spare ≡ given
Settled tally given (Err short) = FirstShort tally given short.class short.lacks
