-- What a table is opened with, and the two refusals that come before every other.
use Rattle.std.specs.Prelude.{ℕ, ◌*◌, ◌/◌, ◌%◌, Bool, true, false, not, ◌&&◌, ◌||◌, List, [], ◌∷◌, Some, None, Option, ◌==◌, nat_le}
use Rattle.refusals.specs.declared.Refusal.{Refusal}
use Rattle.refusals.specs.declared.Refusal.TheVariants as refusal
use Rattle.plan.specs.Sizes.{page, lawful, sizes_of}
use Rattle.model.specs.Setup.{Setup}
use Rattle.model.specs.Calls.{State, empty, Call, Answer, Refused, step, refuse_if}

pub record Opening : Type 0 where
  -- the plan: the first size, and the percent
  pub begin : ℕ
  pub percent : ℕ
  -- the policy's number
  pub policy : ℕ
  -- the bytes of page memory, and how many rows and slots there are
  pub memory : ℕ
  pub rows : ℕ
  pub slots : ℕ
  pub session_rows : ℕ
  pub session_slots : ℕ

abbrev pub pages_in : ℕ → ℕ
pages_in memory = memory / page

abbrev pub one_of : ℕ → List ℕ → Bool
one_of n [] = false
one_of n (m ∷ ms) = n == m || one_of n ms

-- 1 to 256 whole pages, 85 rows a page, a power of two of hash slots from 16 to 16,384, 64 session rows and 64 session slots
abbrev pub lawful_memory : Opening → Bool
lawful_memory o =
    (o.memory % page == 0) && nat_le 1 (pages_in o.memory) && nat_le (pages_in o.memory) 256
    && o.rows == 85 * pages_in o.memory
    && one_of o.slots (16 ∷ 32 ∷ 64 ∷ 128 ∷ 256 ∷ 512 ∷ 1024 ∷ 2048 ∷ 4096 ∷ 8192 ∷ 16384 ∷ [])
    && o.session_rows == 64 && o.session_slots == 64

-- the refusal of an opening: first the plan, then the memory
abbrev pub refuse_opening : Opening → Option Refusal
refuse_opening o =
    refuse_if (not (lawful o.begin o.percent)) refusal.Plan
    (refuse_if (not (lawful_memory o)) refusal.Memory None)

abbrev pub setup_of : Opening → Setup
setup_of o = record { sizes = sizes_of o.begin o.percent; pages = pages_in o.memory; limit = o.slots; policy = o.policy }

-- A table: one whose opening was refused, or one with a state.
pub data Table : Type 0 where
  Shut : Refusal → Table
  Open : Setup → State → Table

abbrev pub opened_or : Option Refusal → Opening → Table
opened_or (Some r) o = Shut r
opened_or None o = Open (setup_of o) (empty (setup_of o))

abbrev pub opened : Opening → Table
opened o = opened_or (refuse_opening o) o

-- a table after a call, and the answer
pub record Served : Type 0 where
  pub table : Table
  pub answer : Answer

-- a call that is lent page memory of the right length
abbrev pub serve_open : Setup → Bool → Call → State → Served
serve_open setup true call s = record { table = Open setup (step setup call s).state; answer = (step setup call s).answer }
serve_open setup false call s = record { table = Open setup s; answer = Refused refusal.Memory }

-- A call, lent so many bytes of page memory. A table whose opening was refused answers with that refusal, and page memory
-- of another length than the opening's is refused before anything else.
abbrev pub serve : ℕ → Call → Table → Served
serve lent call (Shut r) = record { table = Shut r; answer = Refused r }
serve lent call (Open setup s) = serve_open setup (lent == setup.pages * page) call s
