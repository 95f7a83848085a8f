-- A larger table keeps all that a smaller one keeps. Assumes nothing.
use Rattle.std.proofs.Common.{◌≡◌, ℕ, ◌+◌, ◌≤◌, max, true, cond, not, List, [], ◌∷◌, length, get_or, Some, None, filter, Option, sym, subst₂, arith}
use Rattle.std.specs.List.{AllZip, AllByRecursion}
use Rattle.std.proofs.lemmas.Bool.{false≢true}
use Rattle.policy.specs.Meaning.{Meaning}
use Rattle.plan.specs.Classes.{chunks_of}
use Rattle.refusals.specs.declared.Refusal.{Refusal}
use Rattle.refusals.specs.declared.Refusal.TheVariants as refusal
use Rattle.lines.specs.declared.Fault.TheVariants as fault
use Rattle.lines.specs.declared.Verb.TheVariants.{Set, Add, Replace, Cas}
use Rattle.lines.specs.Command as line
use Rattle.lines.specs.Reading.{reading}
use Rattle.model.specs.Setup.{Setup}
use Rattle.model.specs.Store.{Store}
use Rattle.model.specs.Calls.{Session, State, Call, Admit, Request, Leave, Idle, Outcome, unless, refuse_admit, refuse_request, refuse_if, is_open, served, not_of, busy, run_command, run_reading, answer_request, quits, step, answers, empty}
use Rattle.model.specs.Promises.{with_memory, done, Covers, plain_reading, Plain, Planned, ALargerTableKeepsAll}
use Rattle.model.proofs.Chains.{at_bare, sound_empty}
use Rattle.model.proofs.Pairs.{Pair, Above}
use Rattle.model.proofs.Keyed.{Covered, covered_get, covered_delete, covered_touch}
use Rattle.model.proofs.Flushes.{covered_flush}
use Rattle.model.proofs.Sets.{covered_set}

-- two states that differ in their records only, the larger's over the smaller's
abbrev at : ℕ → ℕ → List Session → Store → State
at clock answered sessions s = record { clock = clock; answered = answered; sessions = sessions; store = s }

data Tied (setup : Setup) : State → State → Type 0 where
  tie : (clock answered : ℕ) (sessions : List Session) (s t : Store) → Above setup s t → Tied setup (at clock answered sessions s) (at clock answered sessions t)

-- a call to both
record Steps (setup : Setup) (a b : Outcome) : Type 0 where
  states : Tied setup a.state b.state
  covers : Covers a.answer b.answer

unless_steps : {setup : Setup} (o : Option Refusal) {x y : Outcome} {a b : State} → Tied setup a b → Steps setup x y → Steps setup (unless o x a) (unless o y b)
unless_steps None tied steps = steps
unless_steps (Some r) tied steps = record { states = tied; covers = tt }

module _ (setup : Setup) (plan : Planned setup) (more limit : ℕ) where
  -- REQUESTS

  module _ (policy : Meaning) (now : ℕ) (a b : State) (rel : Above setup a.store b.store) where
    commands : (command : line.Command) → plain_reading (line.Asks command) ≡ true → Covered setup (run_command setup policy now command a) (run_command (with_memory more limit setup) policy now command b)
    commands (line.Get numbered keys) plain = covered_get setup policy now numbered keys a.store b.store rel
    commands (line.Store Set item) plain = covered_set setup plan more limit policy now item a.store b.store rel
    commands (line.Store Add item) plain = absurd (false≢true plain)
    commands (line.Store Replace item) plain = absurd (false≢true plain)
    commands (line.Store (Cas n) item) plain = absurd (false≢true plain)
    commands (line.Delete key) plain = covered_delete setup now key a.store b.store rel
    commands (line.Touch key exptime) plain = covered_touch setup plan policy now key exptime a.store b.store rel
    commands line.FlushAll plain = covered_flush setup now a.store b.store rel
    commands line.Version plain = record { stores = rel; replies = λ h. absurd (false≢true h) }
    commands line.Quit plain = record { stores = rel; replies = tt }
    commands line.Stats plain = record { stores = rel; replies = tt }

    readings : (said : line.Reading) → plain_reading said ≡ true → Covered setup (run_reading setup policy now said a) (run_reading (with_memory more limit setup) policy now said b)
    readings (line.Asks command) plain = commands command plain
    readings (line.Faulty fault.Unknown) plain = record { stores = rel; replies = λ h. absurd (false≢true h) }
    readings (line.Faulty fault.BadLine) plain = record { stores = rel; replies = λ h. absurd (false≢true h) }
    readings (line.Faulty fault.BadData) plain = record { stores = rel; replies = λ h. absurd (false≢true h) }

  requests : (caller now : ℕ) (policy : Meaning) (said : line.Reading) → plain_reading said ≡ true → (a b : State) → Tied setup a b → Steps setup (answer_request setup caller now policy said a) (answer_request (with_memory more limit setup) caller now policy said b)
  requests caller now policy said plain a b (tie clock answered sessions s t rel) =
      let c = readings policy now (at clock answered sessions s) (at clock answered sessions t) rel said plain in
      record {
        states = tie now (answered + 1) (cond (quits said) (filter (not_of caller) sessions) (served caller now sessions)) _ _ c.stores;
        covers = c.replies;
      }

  -- CALLS

  steps : (call : Call) → Plain call → (a b : State) → Tied setup a b → Steps setup (step setup call a) (step (with_memory more limit setup) call b)
  steps (Admit caller second) plain a b (tie clock answered sessions s t rel) =
      unless_steps (refuse_admit caller (at clock answered sessions s)) (tie clock answered sessions s t rel)
      (record { states = tie (max clock second) answered (served caller (max clock second) sessions) s t rel; covers = tt })
  steps (Request caller second policy bytes room) plain a b (tie clock answered sessions s t rel) =
      unless_steps (refuse_request setup caller policy bytes room (at clock answered sessions s)) (tie clock answered sessions s t rel)
      (requests caller (max clock second) policy (reading bytes) plain _ _ (tie clock answered sessions s t rel))
  steps (Leave caller second) plain a b (tie clock answered sessions s t rel) =
      unless_steps (refuse_if (not (is_open caller (at clock answered sessions s))) refusal.CallerNotOpen None) (tie clock answered sessions s t rel)
      (record { states = tie (max clock second) answered (filter (not_of caller) sessions) s t rel; covers = tt })
  steps (Idle second idle) plain a b (tie clock answered sessions s t rel) =
      record { states = tie (max clock second) answered (filter (busy (max clock second) idle) sessions) s t rel; covers = tt }

  -- RUNS

  runs : (calls : List Call) → AllByRecursion Plain calls → (a b : State) → Tied setup a b → AllZip Covers (answers setup calls a) (answers (with_memory more limit setup) calls b)
  runs [] plain a b tied = tt
  runs (call ∷ calls) plain a b tied =
      let first = steps call plain.0 a b tied in (first.covers, runs calls plain.1 _ _ first.states)

  opened : setup.pages ≤ more → Tied setup (empty setup) (empty (with_memory more limit setup))
  opened le =
      tie 0 0 [] _ _
      (record {
        free = le;
        pairs = λ i. subst₂ (Pair setup.pages (chunks_of (get_or setup.sizes i 0))) (sym (at_bare (length setup.sizes) i)) (sym (at_bare (length setup.sizes) i)) (record { within = done; extras = omega arith; alike = λ _. omega arith });
        small = sound_empty setup;
        large = sound_empty setup;
      })

pub a_larger_table_keeps_all : ALargerTableKeepsAll
a_larger_table_keeps_all setup more limit calls plan le plain =
    runs setup plan more limit calls plain (empty setup) (empty (with_memory more limit setup)) (opened setup plan more limit le)
