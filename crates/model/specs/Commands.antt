-- What each command does to the records, and what it answers.
use Rattle.std.specs.Prelude.{ℕ, Bool, true, false, cond, List, [], ◌∷◌, ℤ, Some, None, Option, ◌==◌}
use Rattle.policy.specs.Meaning.{Meaning}
use Rattle.lines.specs.declared.Verb.{Verb}
use Rattle.lines.specs.declared.Verb.TheVariants.{Set, Add, Replace, Cas}
use Rattle.lines.specs.Command.{Item}
use Rattle.replies.specs.declared.kinds.Text.TheVariants as text
use Rattle.replies.specs.Reply.{Shown, Reply, Line, Values}
use Rattle.model.specs.Setup.{Setup}
use Rattle.model.specs.Records.{Key, Record, expiry_of, class_for, expiring}
use Rattle.model.specs.Store.{Store, Dropped, Deleted, Flushed, held, everything, find, use_record, remove, remove_any, remove_all, grant, link, set_expiry, counted}

-- the records after a command, and its reply
pub record Told : Type 0 where
  pub store : Store
  pub reply : Reply

abbrev pub told : Store → Reply → Told
told s r = record { store = s; reply = r }

-- SET, ADD, REPLACE, CAS

-- the record that a storage command brings, not numbered yet
abbrev pub fresh : ℕ → Item → Record
fresh now item =
    record { key = item.key; flags = item.flags; expiry = expiry_of now item.exptime; cas = 0; block = item.block; moved = now }

-- a command that finds no room: set drops the old record, the others keep it
abbrev pub without_room : Setup → ℕ → Verb → Key → Store → Store
without_room setup now Set key s = remove_any setup now Dropped (held key s) s
without_room setup now Add key s = s
without_room setup now Replace key s = s
without_room setup now (Cas n) key s = s

-- the old record stays until the link, so the grant may take it
abbrev pub linked_or_not : Setup → ℕ → Verb → Item → Option Store → Store → Told
linked_or_not setup now verb item None s = told (without_room setup now verb item.key s) (Line text.OutOfMemory)
linked_or_not setup now verb item (Some granted) s = told (link setup now (fresh now item) granted) (Line text.Stored)

abbrev pub place : Setup → Meaning → ℕ → Verb → Item → Option ℕ → Store → Told
place setup policy now verb item None s = told (without_room setup now verb item.key s) (Line text.TooLarge)
place setup policy now verb item (Some class) s = linked_or_not setup now verb item (grant setup policy now class s) s

abbrev pub put : Setup → Meaning → ℕ → Verb → Item → Store → Told
put setup policy now verb item s = place setup policy now verb item (class_for setup item.key item.block) s

-- the command by what is held under its key
abbrev pub judged : Setup → Meaning → ℕ → Verb → Item → Option Record → Store → Told
judged setup policy now Set item old s = put setup policy now Set item s
judged setup policy now Add item None s = put setup policy now Add item s
judged setup policy now Add item (Some r) s = told (use_record setup policy now r s) (Line text.NotStored)
judged setup policy now Replace item None s = told s (Line text.NotStored)
judged setup policy now Replace item (Some r) s = put setup policy now Replace item s
judged setup policy now (Cas n) item None s = told s (Line text.NotFound)
judged setup policy now (Cas n) item (Some r) s =
    cond (r.cas == n) (put setup policy now (Cas n) item s) (told s (Line text.Exists))

abbrev pub store_command : Setup → Meaning → ℕ → Verb → Item → Store → Told
store_command setup policy now verb item s =
    let found : Store = find setup now item.key s in
    judged setup policy now verb item (held item.key found) found

-- GET, GETS

abbrev pub shown : Record → Shown
shown r = record { key = r.key; flags = r.flags; block = r.block; cas = r.cas }

-- one key of a get
pub record Asked : Type 0 where
  pub store : Store
  pub found : List Shown

abbrev pub hit_or_miss : Setup → Meaning → ℕ → Option Record → Store → Asked
hit_or_miss setup policy now None s = record { store = counted false s; found = [] }
hit_or_miss setup policy now (Some r) s = record { store = counted true (use_record setup policy now r s); found = shown r ∷ [] }

abbrev pub ask : Setup → Meaning → ℕ → Key → Store → Asked
ask setup policy now key s =
    let found : Store = find setup now key s in
    hit_or_miss setup policy now (held key found) found

abbrev pub more_found : List Shown → Asked → Asked
more_found [] rest = rest
more_found (x ∷ xs) rest = record { store = rest.store; found = x ∷ (more_found xs rest).found }

-- the keys of a get, in the order written
abbrev pub ask_all : Setup → Meaning → ℕ → List Key → Store → Asked
ask_all setup policy now [] s = record { store = s; found = [] }
ask_all setup policy now (key ∷ keys) s =
    let here : Asked = ask setup policy now key s in
    more_found here.found (ask_all setup policy now keys here.store)

abbrev pub get_command : Setup → Meaning → ℕ → Bool → List Key → Store → Told
get_command setup policy now numbered keys s =
    let all : Asked = ask_all setup policy now keys s in
    told all.store (Values numbered all.found)

-- DELETE, TOUCH, FLUSH_ALL

abbrev pub delete_found : Setup → ℕ → Option Record → Store → Told
delete_found setup now None s = told s (Line text.NotFound)
delete_found setup now (Some r) s = told (remove setup now Deleted r s) (Line text.Deleted)

abbrev pub delete_command : Setup → ℕ → Key → Store → Told
delete_command setup now key s =
    let found : Store = find setup now key s in
    delete_found setup now (held key found) found

abbrev pub touch_found : Setup → Meaning → ℕ → Option ℕ → Option Record → Store → Told
touch_found setup policy now expiry None s = told s (Line text.NotFound)
touch_found setup policy now expiry (Some r) s =
    told (use_record setup policy now (expiring expiry r) (set_expiry setup expiry r s)) (Line text.Touched)

abbrev pub touch_command : Setup → Meaning → ℕ → Key → ℤ → Store → Told
touch_command setup policy now key exptime s =
    let found : Store = find setup now key s in
    touch_found setup policy now (expiry_of now exptime) (held key found) found

abbrev pub flush_command : Setup → ℕ → Store → Told
flush_command setup now s = told (remove_all setup now Flushed (everything s) s) (Line text.Done)
