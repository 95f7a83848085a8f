-- The form in which small runs are written down together with the answers that they must have, and when such a run is right.
use Rattle.std.specs.Prelude.{ℕ, zero, suc, ◌+◌, Bool, true, false, ◌&&◌, List, [], ◌∷◌, ◌++◌, map, codes, ◌==◌, nat_le}
use Prim.Native.String.{String}
use Rattle.std.specs.Str.{bytes_eq}
use Rattle.plan.specs.Sizes.{sizes_of}
use Rattle.policy.specs.Meaning.{Meaning}
use Rattle.refusals.specs.Numbers.{number_of}
use Rattle.replies.specs.Render.{render}
use Rattle.model.specs.Setup.{Setup}
use Rattle.model.specs.Calls.{Call, Admit, Request, Leave, Idle, Answer, Refused, Done, Replied, Closed, answers, empty}

-- THE POLICIES

-- 0: every use moves the record
abbrev pub every_use : Meaning
every_use = record { number = 0; evicting = true; moving = λ now moved. true }

-- 1: a use moves it once sixty seconds have passed
abbrev pub sixty_seconds : Meaning
sixty_seconds = record { number = 1; evicting = true; moving = λ now moved. nat_le (moved + 60) now }

-- 2: no use moves it
abbrev pub first_in : Meaning
first_in = record { number = 2; evicting = true; moving = λ now moved. false }

-- 3: every use moves it, and none is evicted
abbrev pub refusing : Meaning
refusing = record { number = 3; evicting = false; moving = λ now moved. true }

-- BYTES

-- a text with its line end
abbrev pub line : String → List ℕ
line text = codes text ++ 13 ∷ 10 ∷ []

-- a text again and again
abbrev pub many : ℕ → String → List ℕ
many zero text = []
many (suc n) text = codes text ++ many n text

-- a line and the data behind it, as storage commands bring them
abbrev pub with_data : String → List ℕ → List ℕ
with_data text block = line text ++ block ++ 13 ∷ 10 ∷ []

-- one record as get and gets show it, and what ends their reply
abbrev pub value : String → List ℕ → List ℕ
value head block = codes "VALUE " ++ with_data head block

abbrev pub end : List ℕ
end = line "END"

abbrev pub figure_names : List String
figure_names =
    "limit_pages" ∷ "free_pages" ∷ "curr_items" ∷ "total_items" ∷ "replaced" ∷ "deleted" ∷ "flushed" ∷ "expired" ∷ "evictions" ∷ "dropped"
    ∷ "get_hits" ∷ "get_misses" ∷ "curr_connections" ∷ "hash_slots" ∷ []

-- the reply of stats with these figures, in the order of the names
abbrev pub figures_named : List String → List String → List ℕ
figures_named [] figures = end
figures_named (name ∷ names) [] = []
figures_named (name ∷ names) (figure ∷ figures) = codes "STAT " ++ codes name ++ codes " " ++ line figure ++ figures_named names figures

abbrev pub statistics : List String → List ℕ
statistics figures = figures_named figure_names figures

-- SCRIPTS

-- One call of a run and what its caller must get.
pub data Entry : Type 0 where
  -- a caller and a second; the number answered
  admit : ℕ → ℕ → ℕ → Entry
  leave : ℕ → ℕ → ℕ → Entry
  -- a second and a limit; how many sessions are closed
  idle : ℕ → ℕ → ℕ → Entry
  -- caller, second and bytes of a request with the run's own policy and the smallest lawful reply buffer; the reply, answered 0
  ask : ℕ → ℕ → List ℕ → List ℕ → Entry
  -- caller, second, policy, bytes and length of the reply buffer of a request; the number that refuses it
  refused : ℕ → ℕ → Meaning → List ℕ → ℕ → ℕ → Entry

-- A plan's first size and percent, how many pages and hash slots, a policy, and the calls.
pub record Script : Type 0 where
  pub begin : ℕ
  pub percent : ℕ
  pub pages : ℕ
  pub slots : ℕ
  pub policy : Meaning
  pub entries : List Entry

abbrev pub script : ℕ → ℕ → ℕ → ℕ → Meaning → List Entry → Script
script begin percent pages slots policy entries =
    record { begin = begin; percent = percent; pages = pages; slots = slots; policy = policy; entries = entries }

abbrev pub opening : Script → Setup
opening x = record { sizes = sizes_of x.begin x.percent; pages = x.pages; limit = x.slots; policy = x.policy.number }

abbrev pub call_of : Meaning → Entry → Call
call_of policy (admit caller second number) = Admit caller second
call_of policy (leave caller second number) = Leave caller second
call_of policy (idle second limit closed) = Idle second limit
call_of policy (ask caller second bytes reply) = Request caller second policy bytes 18432
call_of policy (refused caller second brought bytes room number) = Request caller second brought bytes room

-- What a caller gets: a number, how many sessions were closed, the bytes of a reply.
pub record Seen : Type 0 where
  pub number : ℕ
  pub closed : ℕ
  pub reply : List ℕ

abbrev pub see : ℕ → ℕ → List ℕ → Seen
see number closed reply = record { number = number; closed = closed; reply = reply }

abbrev pub seen : Answer → Seen
seen (Refused r) = see (number_of r) 0 []
seen Done = see 0 0 []
seen (Replied r) = see 0 0 (render r)
seen (Closed n) = see 0 n []

abbrev pub expected : Entry → Seen
expected (admit caller second number) = see number 0 []
expected (leave caller second number) = see number 0 []
expected (idle second limit closed) = see 0 closed []
expected (ask caller second bytes reply) = see 0 0 reply
expected (refused caller second brought bytes room number) = see number 0 []

abbrev pub same : Seen → Seen → Bool
same x y = x.number == y.number && x.closed == y.closed && bytes_eq x.reply y.reply

-- each answer is the one expected, and none is left over
abbrev pub agree : List Answer → List Entry → Bool
agree [] [] = true
agree [] (e ∷ es) = false
agree (a ∷ rest) [] = false
agree (a ∷ rest) (e ∷ es) = same (seen a) (expected e) && agree rest es

-- every call of the script gets just what is written there
abbrev pub right : Script → Bool
right x = agree (answers (opening x) (map (call_of x.policy) x.entries) (empty (opening x))) x.entries

abbrev pub all_right : List Script → Bool
all_right [] = true
all_right (x ∷ xs) = right x && all_right xs
