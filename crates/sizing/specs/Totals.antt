-- What kinds of records come to in each class.
use Rattle.std.specs.Prelude.{◌≡◌, ℕ, ◌+◌, ◌-◌, ◌*◌, ◌^◌, ◌<◌, Bool, false, cond, List, [], ◌∷◌, map, Some, None, Option, Ok, Err, Result, ◌==◌, nat_lt, slice_index}
use Rattle.plan.specs.Need.{need_of}
use Rattle.plan.specs.Classes.{class_of}
use Rattle.plan.specs.Plans.{plan_sizes}
use Rattle.sizing.specs.declared.kind.Kind.{Kind}
use Rattle.sizing.specs.declared.tally.Tally.{Tally}
use Rattle.sizing.specs.declared.tally.Unplaced.{Unplaced}
use Rattle.sizing.specs.declared.tally.Unplaced.TheVariants.{TooLarge, Uncountable}

-- the bytes that each record of a kind takes
abbrev pub kind_need : Kind → ℕ
kind_need kind = need_of kind.key kind.block

-- the answer to 'which class' is this class
abbrev pub is_class : Option ℕ → ℕ → Bool
is_class None class = false
is_class (Some found) class = found == class

-- records of this kind go to the class: it is the smallest whose chunks hold them
abbrev pub belongs : List ℕ → ℕ → Kind → Bool
belongs sizes class kind = is_class (class_of (kind_need kind) sizes) class

-- what all those kinds that go to the class come to, where each adds so much
abbrev pub total_in : (Kind → ℕ) → List ℕ → ℕ → List Kind → ℕ
total_in amount sizes class [] = 0
total_in amount sizes class (kind ∷ kinds) =
    cond (belongs sizes class kind) (amount kind) 0 + total_in amount sizes class kinds

-- how many records of those kinds go to the class
abbrev pub records_in : List ℕ → ℕ → List Kind → ℕ
records_in sizes class kinds = total_in (λ kind. kind.count) sizes class kinds

-- and how many bytes of keys and data they have
abbrev pub bytes_in : List ℕ → ℕ → List Kind → ℕ
bytes_in sizes class kinds = total_in (λ kind. kind_need kind * kind.count) sizes class kinds

-- the records and bytes of each class, class 1 first, as the tally has them
abbrev pub records_of : Tally → List ℕ
records_of tally = map (λ sum. sum.records) tally.sums

abbrev pub filled_of : Tally → List ℕ
filled_of tally = map (λ sum. sum.filled) tally.sums

-- and of one class
abbrev pub records_at : Tally → ℕ → ℕ
records_at tally class = slice_index (records_of tally) (class - 1)

abbrev pub filled_at : Tally → ℕ → ℕ
filled_at tally class = slice_index (filled_of tally) (class - 1)

-- A tally of these kinds: it has the totals of every class, which is numbered from 1; `i` is one less.
pub record Tallied (tally : Tally) (kinds : List Kind) : Type 0 where
  pub records : (i : ℕ) → i < 32 → slice_index (records_of tally) i ≡ records_in (plan_sizes tally.plan) (i + 1) kinds
  pub filled : (i : ℕ) → i < 32 → slice_index (filled_of tally) i ≡ bytes_in (plan_sizes tally.plan) (i + 1) kinds

abbrev pub place_at : Tally → Kind → Option ℕ → Result ℕ Unplaced
place_at tally kind None = Err TooLarge
place_at tally kind (Some class) = cond (nat_lt (records_at tally class + kind.count) (2 ^ 64)) (Ok class) (Err Uncountable)

-- Where a kind goes. TooLarge: its records fit no class. Uncountable: its class would have 2^64 records or more.
abbrev pub place_in : Tally → Kind → Result ℕ Unplaced
place_in tally kind = place_at tally kind (class_of (kind_need kind) (plan_sizes tally.plan))

-- the kinds that were added, the last one first: one that found no place is not among them
abbrev pub taken : Result ℕ Unplaced → Kind → List Kind → List Kind
taken (Ok class) kind kinds = kind ∷ kinds
taken (Err unplaced) kind kinds = kinds
