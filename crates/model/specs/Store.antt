-- The records of a table, and the few things that are done to them: a record is found, used, removed or linked, and a chunk is granted.
use Rattle.std.specs.Prelude.{ℕ, ◌+◌, ◌-◌, Bool, true, false, cond, List, [], ◌∷◌, map, length, Some, None, filter, Option, nat_lt, slice_index_or, slice_set}
use Rattle.std.specs.List.{flat_map}
use Rattle.chained.specs.Growth.{grow_after, move_one}
use Rattle.policy.specs.Meaning.{Meaning}
use Rattle.model.specs.Setup.{Setup, chunks}
use Rattle.model.specs.Records.{Key, Record, dead, has_key, other_key, class_no, moved_at, expiring}

-- Why a record left: another took its place, it was deleted, all were flushed, it was found dead,
-- a full class pushed it out, or a set of its own key failed.
pub data Why : Type 0 where
  Replaced : Why
  Deleted : Why
  Flushed : Why
  Expired : Why
  Evicted : Why
  Dropped : Why

-- What happens to pages and records, one thing after the other.
pub data Happening : Type 0 where
  -- a free page was given to this class
  Given : ℕ → Happening
  -- a record of this key became the front one of this class by being linked
  Stored : ℕ → Key → Happening
  -- a record of this key became the front one of this class by a use
  Moved : ℕ → Key → Happening
  -- at this second, this record left this class
  Left : ℕ → ℕ → Record → Why → Happening

-- The counts that stats tells: records linked, records that left by each reason, and keys found and missed by get.
pub record Counts : Type 0 where
  pub linked : ℕ
  pub replaced : ℕ
  pub deleted : ℕ
  pub flushed : ℕ
  pub expired : ℕ
  pub evicted : ℕ
  pub dropped : ℕ
  pub hits : ℕ
  pub misses : ℕ

abbrev pub counts_of : ℕ → ℕ → ℕ → ℕ → ℕ → ℕ → ℕ → ℕ → ℕ → Counts
counts_of a b c d e f g h i =
    record { linked = a; replaced = b; deleted = c; flushed = d; expired = e; evicted = f; dropped = g; hits = h; misses = i }

-- one more record left
abbrev pub count_left : Why → Counts → Counts
count_left Replaced c = counts_of c.linked (c.replaced + 1) c.deleted c.flushed c.expired c.evicted c.dropped c.hits c.misses
count_left Deleted c = counts_of c.linked c.replaced (c.deleted + 1) c.flushed c.expired c.evicted c.dropped c.hits c.misses
count_left Flushed c = counts_of c.linked c.replaced c.deleted (c.flushed + 1) c.expired c.evicted c.dropped c.hits c.misses
count_left Expired c = counts_of c.linked c.replaced c.deleted c.flushed (c.expired + 1) c.evicted c.dropped c.hits c.misses
count_left Evicted c = counts_of c.linked c.replaced c.deleted c.flushed c.expired (c.evicted + 1) c.dropped c.hits c.misses
count_left Dropped c = counts_of c.linked c.replaced c.deleted c.flushed c.expired c.evicted (c.dropped + 1) c.hits c.misses

-- one more record was linked; one more key was found, or missed
abbrev pub count_linked : Counts → Counts
count_linked c = counts_of (c.linked + 1) c.replaced c.deleted c.flushed c.expired c.evicted c.dropped c.hits c.misses

abbrev pub count_asked : Bool → Counts → Counts
count_asked true c = counts_of c.linked c.replaced c.deleted c.flushed c.expired c.evicted c.dropped (c.hits + 1) c.misses
count_asked false c = counts_of c.linked c.replaced c.deleted c.flushed c.expired c.evicted c.dropped c.hits (c.misses + 1)

-- A class: how many pages it was given, and its records from front to back.
pub record Class : Type 0 where
  pub pages : ℕ
  pub records : List Record

-- All records of a table, and what belongs to them.
pub record Store : Type 0 where
  -- the last cas number
  pub cas : ℕ
  pub counts : Counts
  -- free pages
  pub free : ℕ
  -- the size of the hash of the records: how many slots it has, and how many old ones are still to be moved
  pub growth : ℕ × ℕ
  -- class 1 first
  pub classes : List Class
  -- what happened, the newest first. Nothing reads it: it is what the promises speak of.
  pub story : List Happening

-- no pages and no records
abbrev pub bare : Class
bare = record { pages = 0; records = [] }

-- a class by its number
abbrev pub class_at : ℕ → List Class → Class
class_at class ks = slice_index_or ks (class - 1) bare

-- the classes with another list of records, or another number of pages, at one of them
abbrev pub with_records : ℕ → List Record → List Class → List Class
with_records class rs ks = slice_set ks (class - 1) (record { pages = (class_at class ks).pages; records = rs })

abbrev pub with_page : ℕ → List Class → List Class
with_page class ks = slice_set ks (class - 1) (record { pages = (class_at class ks).pages + 1; records = (class_at class ks).records })

abbrev pub records_of : Class → List Record
records_of k = k.records

-- every record that is held, dead ones included
abbrev pub everything : Store → List Record
everything s = flat_map records_of s.classes

-- the first, and the last, of a list that passes a test
abbrev pub first : {A : Type 0} → (A → Bool) → List A → Option A
first p [] = None
first p (x ∷ xs) = cond (p x) (Some x) (first p xs)

abbrev pub or_else : {A : Type 0} → Option A → Option A → Option A
or_else None other = other
or_else (Some x) other = Some x

abbrev pub last : {A : Type 0} → (A → Bool) → List A → Option A
last p [] = None
last p (x ∷ xs) = or_else (last p xs) (cond (p x) (Some x) None)

-- the record that is held under a key
abbrev pub held : Key → Store → Option Record
held key s = first (has_key key) (everything s)

-- REMOVE: the record leaves its class and is counted.
abbrev pub remove : Setup → ℕ → Why → Record → Store → Store
remove setup now why r s =
    record {
      cas = s.cas;
      counts = count_left why s.counts;
      free = s.free;
      growth = s.growth;
      classes = with_records (class_no setup r) (filter (other_key r.key) (class_at (class_no setup r) s.classes).records) s.classes;
      story = Left now (class_no setup r) r why ∷ s.story;
    }

-- the record leaves if there is one
abbrev pub remove_any : Setup → ℕ → Why → Option Record → Store → Store
remove_any setup now why None s = s
remove_any setup now why (Some r) s = remove setup now why r s

-- each of these records leaves
abbrev pub remove_all : Setup → ℕ → Why → List Record → Store → Store
remove_all setup now why [] s = s
remove_all setup now why (r ∷ rs) s = remove_all setup now why rs (remove setup now why r s)

-- only a dead record counts
abbrev pub if_dead : ℕ → Option Record → Option Record
if_dead now None = None
if_dead now (Some r) = cond (dead now r) (Some r) None

-- FIND: a dead record of the key is removed. What is then held under the key was found.
abbrev pub find : Setup → ℕ → Key → Store → Store
find setup now key s = remove_any setup now Expired (if_dead now (held key s)) s

-- USE: the policy is asked about now and the moved second; on yes the record goes to the front of its class.
abbrev pub to_front : Setup → ℕ → Record → Store → Store
to_front setup now r s =
    record {
      cas = s.cas;
      counts = s.counts;
      free = s.free;
      growth = s.growth;
      classes = with_records (class_no setup r) (moved_at now r ∷ filter (other_key r.key) (class_at (class_no setup r) s.classes).records) s.classes;
      story = Moved (class_no setup r) r.key ∷ s.story;
    }

abbrev pub use_record : Setup → Meaning → ℕ → Record → Store → Store
use_record setup policy now r s = cond (policy.moving now r.moved) (to_front setup now r s) s

-- GRANT: the ways to a free chunk of a class, tried in this order.
-- 1. the class has a free chunk
abbrev pub has_room : Setup → ℕ → Store → Bool
has_room setup class s =
    nat_lt (length (class_at class s.classes).records) (chunks setup class (class_at class s.classes).pages)

-- 2. a free page is given to the class
abbrev pub give_page : ℕ → Store → Store
give_page class s =
    record {
      cas = s.cas;
      counts = s.counts;
      free = s.free - 1;
      growth = s.growth;
      classes = with_page class s.classes;
      story = Given class ∷ s.story;
    }

-- 3. the dead record nearest the back is removed
abbrev pub rear_dead : ℕ → ℕ → Store → Option Record
rear_dead now class s = last (dead now) (class_at class s.classes).records

-- 4. the rearmost record is evicted
abbrev pub rear : ℕ → Store → Option Record
rear class s = last (λ _. true) (class_at class s.classes).records

-- the store without that record, where there is one
abbrev pub rid : Setup → ℕ → Why → Option Record → Store → Option Store
rid setup now why None s = None
rid setup now why (Some r) s = Some (remove setup now why r s)

-- the store in which the class has a chunk for one more record; none where the grant fails
abbrev pub grant : Setup → Meaning → ℕ → ℕ → Store → Option Store
grant setup policy now class s =
    cond (has_room setup class s) (Some s)
    (cond (nat_lt 0 s.free) (Some (give_page class s))
    (or_else (rid setup now Expired (rear_dead now class s) s)
    (cond policy.evicting (rid setup now Evicted (rear class s) s) None)))

-- LINK: a record that is still held under the key is replaced; the new one goes to the front of its class with the next cas number.
abbrev pub insert : Setup → Record → Store → Store
insert setup r s =
    record {
      cas = s.cas + 1;
      counts = count_linked s.counts;
      free = s.free;
      growth = s.growth;
      classes = with_records (class_no setup r) (r ∷ (class_at (class_no setup r) s.classes).records) s.classes;
      story = Stored (class_no setup r) r.key ∷ s.story;
    }

abbrev pub with_growth : ℕ × ℕ → Store → Store
with_growth g s =
    record { cas = s.cas; counts = s.counts; free = s.free; growth = g; classes = s.classes; story = s.story }

-- the hash may start to grow, now that there is one more record
abbrev pub grow : Setup → Store → Store
grow setup s = with_growth (grow_after (length (everything s)) setup.limit s.growth) s

-- one old slot is moved
abbrev pub move_slot : Store → Store
move_slot s = with_growth (move_one s.growth) s

abbrev pub numbered : ℕ → Record → Record
numbered cas r =
    record { key = r.key; flags = r.flags; expiry = r.expiry; cas = cas; block = r.block; moved = r.moved }

abbrev pub link : Setup → ℕ → Record → Store → Store
link setup now r s =
    let cleared : Store = remove_any setup now Replaced (held r.key s) s in
    grow setup (insert setup (numbered (s.cas + 1) r) cleared)

-- TOUCH: the record's expiry is set where it stands.
abbrev pub aged : Key → Option ℕ → Record → Record
aged key expiry r = cond (has_key key r) (expiring expiry r) r

abbrev pub set_expiry : Setup → Option ℕ → Record → Store → Store
set_expiry setup expiry r s =
    record {
      cas = s.cas;
      counts = s.counts;
      free = s.free;
      growth = s.growth;
      classes = with_records (class_no setup r) (map (aged r.key expiry) (class_at (class_no setup r) s.classes).records) s.classes;
      story = s.story;
    }

abbrev pub counted : Bool → Store → Store
counted hit s =
    record { cas = s.cas; counts = count_asked hit s.counts; free = s.free; growth = s.growth; classes = s.classes; story = s.story }
