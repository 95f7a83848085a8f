-- The calls of a table, their answers, and what each leaves: the reference table.
use Rattle.std.specs.Prelude.{ℕ, ◌+◌, ◌^◌, max, Bool, true, false, cond, not, List, [], ◌∷◌, length, replicate, is_some, Some, None, filter, Option, ◌==◌, nat_le, nat_lt}
use Rattle.chained.specs.Growth.{start}
use Rattle.policy.specs.Meaning.{Meaning}
use Rattle.refusals.specs.declared.Refusal.{Refusal}
use Rattle.refusals.specs.declared.Refusal.TheVariants as refusal
use Rattle.lines.specs.declared.Fault.{Fault}
use Rattle.lines.specs.declared.Fault.TheVariants as fault
use Rattle.lines.specs.Tokens.{line_end}
use Rattle.lines.specs.Reading.{reading}
use Rattle.lines.specs.Command as line
use Rattle.replies.specs.declared.kinds.Figures.{Figures}
use Rattle.replies.specs.declared.kinds.Text.TheVariants as text
use Rattle.replies.specs.Reply.{Reply, Line, Statistics, Silent}
use Rattle.model.specs.Setup.{Setup}
use Rattle.model.specs.Store.{Store, bare, counts_of, everything, move_slot, first}
use Rattle.model.specs.Commands.{Told, told, store_command, get_command, delete_command, touch_command, flush_command}

-- An open session: its caller, and the second at which it was admitted or last served.
pub record Session : Type 0 where
  pub caller : ℕ
  pub last : ℕ

pub record State : Type 0 where
  pub clock : ℕ
  -- the requests answered so far
  pub answered : ℕ
  -- the open sessions, the one served last in front
  pub sessions : List Session
  pub store : Store

-- A table as it is opened: all pages free, no record, no session, 16 hash slots.
abbrev pub empty : Setup → State
empty setup =
    record {
      clock = 0;
      answered = 0;
      sessions = [];
      store = record {
        cas = 0;
        counts = counts_of 0 0 0 0 0 0 0 0 0;
        free = setup.pages;
        growth = start;
        classes = replicate (length setup.sizes) bare;
        story = [];
      };
    }

-- The calls. A request brings its caller, its second, its policy, its bytes and the length of its reply buffer.
pub data Call : Type 0 where
  Admit : (caller second : ℕ) → Call
  Request : (caller second : ℕ) → Meaning → List ℕ → ℕ → Call
  Leave : (caller second : ℕ) → Call
  Idle : (second limit : ℕ) → Call

-- The answers: a refusal, that it was done, the reply to a request, how many sessions idle closed.
pub data Answer : Type 0 where
  Refused : Refusal → Answer
  Done : Answer
  Replied : Reply → Answer
  Closed : ℕ → Answer

-- the state after a call, and the answer
pub record Outcome : Type 0 where
  pub state : State
  pub answer : Answer

abbrev pub outcome : State → Answer → Outcome
outcome s a = record { state = s; answer = a }

-- a call that is refused leaves everything as it was
abbrev pub unless : Option Refusal → Outcome → State → Outcome
unless None o s = o
unless (Some r) o s = outcome s (Refused r)

-- the first refusal of a list of tests
abbrev pub refuse_if : Bool → Refusal → Option Refusal → Option Refusal
refuse_if true r rest = Some r
refuse_if false r rest = rest

-- SESSIONS

abbrev pub of_caller : ℕ → Session → Bool
of_caller caller x = x.caller == caller

abbrev pub not_of : ℕ → Session → Bool
not_of caller x = not (of_caller caller x)

abbrev pub is_open : ℕ → State → Bool
is_open caller s = is_some (first (of_caller caller) s.sessions)

-- a session is idle long enough when its last second and the limit together are not later than now
abbrev pub idle_enough : ℕ → ℕ → Session → Bool
idle_enough now limit x = nat_le (x.last + limit) now

abbrev pub busy : ℕ → ℕ → Session → Bool
busy now limit x = not (idle_enough now limit x)

-- the caller's session, served now, in front of the others
abbrev pub served : ℕ → ℕ → List Session → List Session
served caller now xs = record { caller = caller; last = now } ∷ filter (not_of caller) xs

abbrev pub refuse_admit : ℕ → State → Option Refusal
refuse_admit caller s =
    refuse_if (nat_lt 4194303 caller) refusal.CallerTooLarge
    (refuse_if (is_open caller s) refusal.CallerOpen
    (refuse_if (nat_le 64 (length s.sessions)) refusal.SessionsFull None))

abbrev pub admit : ℕ → ℕ → State → Outcome
admit caller second s =
    let now : ℕ = max s.clock second in
    unless (refuse_admit caller s)
    (outcome (record { clock = now; answered = s.answered; sessions = served caller now s.sessions; store = s.store }) Done)
    s

abbrev pub leave : ℕ → ℕ → State → Outcome
leave caller second s =
    unless (refuse_if (not (is_open caller s)) refusal.CallerNotOpen None)
    (outcome (record { clock = max s.clock second; answered = s.answered; sessions = filter (not_of caller) s.sessions; store = s.store }) Done)
    s

abbrev pub idle : ℕ → ℕ → State → Outcome
idle second limit s =
    let now : ℕ = max s.clock second in
    outcome (record { clock = now; answered = s.answered; sessions = filter (busy now limit) s.sessions; store = s.store })
    (Closed (length (filter (idle_enough now limit) s.sessions)))

-- REQUESTS

abbrev pub figures : Setup → State → Figures
figures setup s =
    let c = s.store.counts in
    record {
      limit_pages = setup.pages;
      free_pages = s.store.free;
      curr_items = length (everything s.store);
      total_items = c.linked;
      replaced = c.replaced;
      deleted = c.deleted;
      flushed = c.flushed;
      expired = c.expired;
      evictions = c.evicted;
      dropped = c.dropped;
      get_hits = c.hits;
      get_misses = c.misses;
      curr_connections = length s.sessions;
      hash_slots = s.store.growth.0;
    }

abbrev pub fault_text : Fault → Reply
fault_text fault.Unknown = Line text.Error
fault_text fault.BadLine = Line text.BadLine
fault_text fault.BadData = Line text.BadData

-- what a command does to the records, and its reply
abbrev pub run_command : Setup → Meaning → ℕ → line.Command → State → Told
run_command setup policy now (line.Get numbered keys) s = get_command setup policy now numbered keys s.store
run_command setup policy now (line.Store verb item) s = store_command setup policy now verb item s.store
run_command setup policy now (line.Delete key) s = delete_command setup now key s.store
run_command setup policy now (line.Touch key exptime) s = touch_command setup policy now key exptime s.store
run_command setup policy now line.FlushAll s = flush_command setup now s.store
run_command setup policy now line.Version s = told s.store (Line text.Version)
run_command setup policy now line.Quit s = told s.store Silent
run_command setup policy now line.Stats s = told s.store (Statistics (figures setup s))

abbrev pub run_reading : Setup → Meaning → ℕ → line.Reading → State → Told
run_reading setup policy now (line.Asks command) s = run_command setup policy now command s
run_reading setup policy now (line.Faulty f) s = told s.store (fault_text f)

-- quit closes the session; any other request serves it
abbrev pub quits : line.Reading → Bool
quits (line.Faulty f) = false
quits (line.Asks (line.Get numbered keys)) = false
quits (line.Asks (line.Store verb item)) = false
quits (line.Asks (line.Delete key)) = false
quits (line.Asks (line.Touch key exptime)) = false
quits (line.Asks line.FlushAll) = false
quits (line.Asks line.Version) = false
quits (line.Asks line.Quit) = true
quits (line.Asks line.Stats) = false

abbrev pub refuse_request : Setup → ℕ → Meaning → List ℕ → ℕ → State → Option Refusal
refuse_request setup caller policy bytes room s =
    refuse_if (not (policy.number == setup.policy)) refusal.PolicyDiffers
    (refuse_if (not (is_open caller s)) refusal.CallerNotOpen
    (refuse_if (nat_lt room 18432) refusal.ReplyShort
    (refuse_if (not (is_some (line_end bytes))) refusal.NoLineEnd
    (refuse_if (nat_le (2 ^ 60) s.answered) refusal.Exhausted None))))

abbrev pub answer_request : Setup → ℕ → ℕ → Meaning → line.Reading → State → Outcome
answer_request setup caller now policy said s =
    let t : Told = run_reading setup policy now said s in
    outcome
    (record {
      clock = now;
      answered = s.answered + 1;
      sessions = cond (quits said) (filter (not_of caller) s.sessions) (served caller now s.sessions);
      store = move_slot t.store;
    })
    (Replied t.reply)

abbrev pub request : Setup → ℕ → ℕ → Meaning → List ℕ → ℕ → State → Outcome
request setup caller second policy bytes room s =
    unless (refuse_request setup caller policy bytes room s)
    (answer_request setup caller (max s.clock second) policy (reading bytes) s)
    s

-- ONE STEP, AND A RUN

abbrev pub step : Setup → Call → State → Outcome
step setup (Admit caller second) s = admit caller second s
step setup (Request caller second policy bytes room) s = request setup caller second policy bytes room s
step setup (Leave caller second) s = leave caller second s
step setup (Idle second limit) s = idle second limit s

-- the state after a list of calls
abbrev pub after : Setup → List Call → State → State
after setup [] s = s
after setup (c ∷ cs) s = after setup cs (step setup c s).state

-- their answers
abbrev pub answers : Setup → List Call → State → List Answer
answers setup [] s = []
answers setup (c ∷ cs) s = (step setup c s).answer ∷ answers setup cs (step setup c s).state

-- a run from an opening
abbrev pub run : Setup → List Call → State
run setup calls = after setup calls (empty setup)
