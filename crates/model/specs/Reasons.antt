-- Who may say that a record left, and for which reason.
use Rattle.std.specs.Prelude.{◌≡◌, ℕ, Bool, true, false, not, ◌&&◌, List, [], ◌++◌}
use Rattle.std.specs.List.{AllByRecursion}
use Rattle.std.specs.Str.{bytes_eq}
use Rattle.lines.specs.declared.Verb.{Verb}
use Rattle.lines.specs.declared.Verb.TheVariants as verb
use Rattle.lines.specs.Command as line
use Rattle.lines.specs.Reading.{reading}
use Rattle.replies.specs.Reply.{Reply, Line, Values, Statistics, Silent}
use Rattle.model.specs.Setup.{Setup}
use Rattle.model.specs.Records.{Key, Record}
use Rattle.model.specs.Store.{Why, Replaced, Deleted, Flushed, Expired, Evicted, Dropped, Happening, Given, Stored, Moved, Left}
use Rattle.model.specs.Calls.{Call, Admit, Request, Leave, Idle, Answer, Refused, Done, Replied, Closed, run, step}
use Rattle.model.specs.Promises.{success}

-- What a line asks of the records that are held: which keys it deletes, whether it flushes all, under which keys it stores, and under which by set.
pub record Wish : Type 0 where
  pub deletes : Key → Bool
  pub flushes : Bool
  pub stores : Key → Bool
  pub sets : Key → Bool

abbrev pub no_wish : Wish
no_wish = record { deletes = λ key. false; flushes = false; stores = λ key. false; sets = λ key. false }

abbrev pub is_set : Verb → Bool
is_set verb.Set = true
is_set verb.Add = false
is_set verb.Replace = false
is_set (verb.Cas n) = false

abbrev pub wish : line.Reading → Wish
wish (line.Faulty f) = no_wish
wish (line.Asks (line.Get numbered keys)) = no_wish
wish (line.Asks (line.Store v item)) =
    record { deletes = λ key. false; flushes = false; stores = λ key. bytes_eq item.key key; sets = λ key. is_set v && bytes_eq item.key key }
wish (line.Asks (line.Delete k)) = record { deletes = λ key. bytes_eq k key; flushes = false; stores = λ key. false; sets = λ key. false }
wish (line.Asks (line.Touch key exptime)) = no_wish
wish (line.Asks line.FlushAll) = record { deletes = λ key. false; flushes = true; stores = λ key. false; sets = λ key. false }
wish (line.Asks line.Version) = no_wish
wish (line.Asks line.Quit) = no_wish
wish (line.Asks line.Stats) = no_wish

abbrev pub succeeded : Reply → Bool
succeeded (Line t) = success t
succeeded (Values numbered xs) = false
succeeded (Statistics f) = false
succeeded Silent = false

-- A record is replaced only by a command that stored under its key, deleted only by a delete of its key, flushed only by flush_all,
-- and dropped only by a set of its key that failed. To expire or to be evicted it need not be asked for.
abbrev pub excused : line.Reading → Reply → Why → Record → Bool
excused said reply Replaced r = succeeded reply && (wish said).stores r.key
excused said reply Deleted r = (wish said).deletes r.key
excused said reply Flushed r = (wish said).flushes
excused said reply Expired r = true
excused said reply Evicted r = true
excused said reply Dropped r = not (succeeded reply) && (wish said).sets r.key

-- what may happen in a request at this second, with this line and this reply
abbrev pub Excused : ℕ → line.Reading → Reply → Happening → Type 0
Excused now said reply (Given c) = Unit {0}
Excused now said reply (Stored c key) = Unit {0}
Excused now said reply (Moved c key) = Unit {0}
Excused now said reply (Left second c r why) = (second ≡ now) × (excused said reply why r ≡ true)

-- what may happen in a call: nothing, but in a request that is answered
abbrev pub ExcusedAnswered : List ℕ → ℕ → Answer → List Happening → Type 0
ExcusedAnswered bytes now (Refused r) new = new ≡ []
ExcusedAnswered bytes now Done new = new ≡ []
ExcusedAnswered bytes now (Replied reply) new = AllByRecursion (Excused now (reading bytes) reply) new
ExcusedAnswered bytes now (Closed n) new = new ≡ []

abbrev pub ExcusedIn : Call → ℕ → Answer → List Happening → Type 0
ExcusedIn (Admit caller second) now answer new = new ≡ []
ExcusedIn (Request caller second policy bytes room) now answer new = ExcusedAnswered bytes now answer new
ExcusedIn (Leave caller second) now answer new = new ≡ []
ExcusedIn (Idle second limit) now answer new = new ≡ []

-- in every call, each record that leaves does so at the call's second and for a reason that the call may give
abbrev pub EveryReasonIsTrue : Type 0
EveryReasonIsTrue =
    (setup : Setup) (calls : List Call) (call : Call) →
    (new : List Happening) × ((step setup call (run setup calls)).state.store.story ≡ new ++ (run setup calls).store.story)
    × ExcusedIn call (step setup call (run setup calls)).state.clock (step setup call (run setup calls)).answer new
