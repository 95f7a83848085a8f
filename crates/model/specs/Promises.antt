-- What is promised of every run of the reference table.
use Rattle.std.specs.Prelude.{◌≡◌, ℕ, ◌+◌, ◌<◌, ◌≤◌, Bool, true, false, List, [], ◌∷◌, ◌++◌, map, length, None, sum_by, filter, ◌==◌}
use Rattle.std.specs.List.{AllZip, AllByRecursion}
use Rattle.plan.specs.Sizes.{lawful, sizes_of}
use Rattle.lines.specs.declared.Verb.{Verb}
use Rattle.lines.specs.declared.Verb.TheVariants as verb
use Rattle.lines.specs.Command as line
use Rattle.lines.specs.Reading.{reading}
use Rattle.replies.specs.declared.kinds.Text.{Text}
use Rattle.replies.specs.declared.kinds.Text.TheVariants as text
use Rattle.replies.specs.Reply.{Shown, Reply, Line, Values, Statistics, Silent}
use Rattle.model.specs.Setup.{Setup, chunks}
use Rattle.model.specs.Records.{Key, Record, dead, has_key}
use Rattle.model.specs.Store.{Store, Class, Counts, Replaced, Deleted, Flushed, Expired, Evicted, Dropped, Happening, Given, Stored, Moved, Left, class_at, everything}
use Rattle.model.specs.Calls.{Call, Admit, Request, Leave, Idle, Answer, Refused, Done, Replied, Closed, run, answers, empty, step}
use Rattle.model.specs.Opening.{Opening, refuse_opening, setup_of}
use Rattle.model.specs.Stories.{keys_told, pages_told, pages_given, Sensible, uses, since, different, stores, leavings, departures, unasked}

-- the sizes are those of a lawful plan
pub record Planned (setup : Setup) : Type 0 where
  pub begin : ℕ
  pub percent : ℕ
  pub lawfully : lawful begin percent ≡ true
  pub sizes : setup.sizes ≡ sizes_of begin percent

-- whatever opening is not refused has such sizes, so that all promises below are of it
abbrev pub OpeningsArePlanned : Type 0
OpeningsArePlanned = (o : Opening) → refuse_opening o ≡ None → Planned (setup_of o)

-- NOTHING LEAVES WHILE THERE IS ROOM

-- A record may leave a class of N chunks unasked: all N hold a record, the table has no free page, and since the record
-- was last stored or moved, at least N − 1 different other keys were stored or moved in that class.
pub record Crowded (setup : Setup) (class : ℕ) (r : Record) (story : List Happening) : Type 0 where
  pub full : length (keys_told class story) ≡ chunks setup class (pages_told class story)
  pub no_page : pages_given story ≡ setup.pages
  pub others : chunks setup class (pages_told class story) ≤ 1 + different (since r.key (uses class story))

-- a story in which every record that left alive and unasked left a crowded class
abbrev pub Fair : Setup → List Happening → Type 0
Fair setup [] = Unit {0}
Fair setup (Given c ∷ story) = Fair setup story
Fair setup (Stored c key ∷ story) = Fair setup story
Fair setup (Moved c key ∷ story) = Fair setup story
Fair setup (Left now c r why ∷ story) = (unasked why ≡ true → dead now r ≡ false → Crowded setup c r story) × Fair setup story

abbrev pub NothingLeavesWhileThereIsRoom : Type 0
NothingLeavesWhileThereIsRoom = (setup : Setup) (calls : List Call) → Planned setup → Fair setup (run setup calls).store.story

-- EVERYTHING IS ACCOUNTED FOR

abbrev pub pages_of : Class → ℕ
pages_of k = k.pages

pub record Accounted (setup : Setup) (s : Store) : Type 0 where
  -- every record that was linked left by one of six ways, or is held
  pub balance : s.counts.linked ≡ s.counts.replaced + s.counts.deleted + s.counts.flushed + s.counts.expired + s.counts.evicted + s.counts.dropped + length (everything s)
  -- no class holds more records than it has chunks
  pub fits : (class : ℕ) → 1 ≤ class → length (class_at class s.classes).records ≤ chunks setup class (class_at class s.classes).pages
  -- every page is free or with a class
  pub all_pages : s.free + sum_by pages_of s.classes ≡ setup.pages
  -- no key is held twice
  pub once : (key : Key) → length (filter (has_key key) (everything s)) ≤ 1

abbrev pub EverythingIsAccountedFor : Type 0
EverythingIsAccountedFor = (setup : Setup) (calls : List Call) → Planned setup → Accounted setup (run setup calls).store

-- THE STORY IS TRUE

abbrev pub key_of : Record → Key
key_of r = r.key

-- The counts are those of the story.
pub record Tallied (c : Counts) (story : List Happening) : Type 0 where
  pub linked : c.linked ≡ stores story
  pub replaced : c.replaced ≡ leavings Replaced story
  pub deleted : c.deleted ≡ leavings Deleted story
  pub flushed : c.flushed ≡ leavings Flushed story
  pub expired : c.expired ≡ leavings Expired story
  pub evicted : c.evicted ≡ leavings Evicted story
  pub dropped : c.dropped ≡ leavings Dropped story

-- The records that each class holds, in their order, its pages and the counts are just what the story tells.
pub record Faithful (setup : Setup) (s : Store) : Type 0 where
  pub keys : (class : ℕ) → 1 ≤ class → map key_of (class_at class s.classes).records ≡ keys_told class s.story
  pub pages : (class : ℕ) → 1 ≤ class → (class_at class s.classes).pages ≡ pages_told class s.story
  pub free : s.free + pages_given s.story ≡ setup.pages
  pub sensible : Sensible s.story
  pub counts : Tallied s.counts s.story

abbrev pub TheStoryIsTrue : Type 0
TheStoryIsTrue = (setup : Setup) (calls : List Call) → Planned setup → Faithful setup (run setup calls).store

-- A CALL TELLS WHAT IT DID

-- A record is known by its cas number: each link gives the next one. How many records of a number are held.
abbrev pub has_cas : ℕ → Record → Bool
has_cas n r = r.cas == n

abbrev pub copies : ℕ → Store → ℕ
copies n s = length (filter (has_cas n) (everything s))

-- every record that was ever linked is held and never left, or is no longer held and left just once
abbrev pub EachRecordLeavesOnce : Type 0
EachRecordLeavesOnce =
    (setup : Setup) (calls : List Call) → Planned setup → (n : ℕ) → 1 ≤ n → n ≤ (run setup calls).store.cas →
    copies n (run setup calls).store + departures n (run setup calls).store.story ≡ 1

-- What happened between two states.
pub record ToldBetween (before after : Store) (new : List Happening) : Type 0 where
  -- the story only grows
  pub adds : after.story ≡ new ++ before.story
  -- a record that was held and is no longer is named by exactly one happening that says why it left
  pub gone : (n : ℕ) → copies n before ≡ 1 → copies n after ≡ 0 → departures n new ≡ 1
  -- one that is held is not named, and none is named twice
  pub kept : (n : ℕ) → 1 ≤ copies n after → departures n new ≡ 0
  pub once : (n : ℕ) → departures n new ≤ 1
  -- one that was not held and now is was stored: it has one of the numbers that were given since
  pub newly : (n : ℕ) → copies n before ≡ 0 → copies n after ≡ 1 → (before.cas < n) × (n ≤ before.cas + stores new)

abbrev pub ACallTellsWhatItDid : Type 0
ACallTellsWhatItDid =
    (setup : Setup) (calls : List Call) (call : Call) → Planned setup →
    (new : List Happening) × ToldBetween (run setup calls).store (step setup call (run setup calls)).state.store new

-- A LARGER TABLE KEEPS ALL THAT A SMALLER ONE KEEPS

-- the same plan and policy, with other memory: so many pages, and so many hash slots
abbrev pub with_memory : ℕ → ℕ → Setup → Setup
with_memory pages limit setup = record { sizes = setup.sizes; pages = pages; limit = limit; policy = setup.policy }

-- the same key, flags and data; the cas number may be another
pub record Alike (x y : Shown) : Type 0 where
  pub key : x.key ≡ y.key
  pub flags : x.flags ≡ y.flags
  pub block : x.block ≡ y.block

-- every element of the first list stands in the second too, in the same order, but for R
pub data Within {A : Type 0} (R : A → A → Type 0) : List A → List A → Type 0 where
  done : Within R [] []
  both : {x y : A} {xs ys : List A} → R x y → Within R xs ys → Within R (x ∷ xs) (y ∷ ys)
  over : {y : A} {xs ys : List A} → Within R xs ys → Within R xs (y ∷ ys)

-- the lines that say that a set, a touch or a delete succeeded
abbrev pub success : Text → Bool
success text.Error = false
success text.BadLine = false
success text.BadData = false
success text.TooLarge = false
success text.OutOfMemory = false
success text.Stored = true
success text.NotStored = false
success text.Exists = false
success text.NotFound = false
success text.Deleted = true
success text.Touched = true
success text.Done = false
success text.Version = false

-- the second reply shows all that the first shows, and succeeds where the first does
abbrev pub CoversReply : Reply → Answer → Type 0
CoversReply (Line t) other = success t ≡ true → other ≡ Replied (Line t)
CoversReply (Values numbered xs) other = (ys : List Shown) × (other ≡ Replied (Values numbered ys)) × Within Alike xs ys
CoversReply (Statistics f) other = Unit {0}
CoversReply Silent other = Unit {0}

abbrev pub Covers : Answer → Answer → Type 0
Covers (Refused r) other = Unit {0}
Covers Done other = Unit {0}
Covers (Replied reply) other = CoversReply reply other
Covers (Closed n) other = Unit {0}

-- keyed requests are only get, gets, set, touch and delete
abbrev pub plain_verb : Verb → Bool
plain_verb verb.Set = true
plain_verb verb.Add = false
plain_verb verb.Replace = false
plain_verb (verb.Cas n) = false

abbrev pub plain_reading : line.Reading → Bool
plain_reading (line.Faulty f) = true
plain_reading (line.Asks (line.Get numbered keys)) = true
plain_reading (line.Asks (line.Store v item)) = plain_verb v
plain_reading (line.Asks (line.Delete key)) = true
plain_reading (line.Asks (line.Touch key exptime)) = true
plain_reading (line.Asks line.FlushAll) = true
plain_reading (line.Asks line.Version) = true
plain_reading (line.Asks line.Quit) = true
plain_reading (line.Asks line.Stats) = true

abbrev pub Plain : Call → Type 0
Plain (Admit caller second) = Unit {0}
Plain (Request caller second policy bytes room) = plain_reading (reading bytes) ≡ true
Plain (Leave caller second) = Unit {0}
Plain (Idle second limit) = Unit {0}

abbrev pub ALargerTableKeepsAll : Type 0
ALargerTableKeepsAll =
    (setup : Setup) (more limit : ℕ) (calls : List Call) → Planned setup → setup.pages ≤ more → AllByRecursion Plain calls →
    AllZip Covers (answers setup calls (empty setup)) (answers (with_memory more limit setup) calls (empty (with_memory more limit setup)))
