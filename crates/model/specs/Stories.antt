-- What a story tells. A story is a list of happenings, the newest first.
use Rattle.std.specs.Prelude.{◌≡◌, ℕ, suc, ◌+◌, ◌≤◌, Bool, true, false, cond, not, ◌||◌, List, [], ◌∷◌, filter, ◌==◌}
use Rattle.std.specs.Str.{bytes_eq}
use Rattle.model.specs.Records.{Key}
use Rattle.model.specs.Store.{Why, Replaced, Deleted, Flushed, Expired, Evicted, Dropped, Happening, Given, Stored, Moved, Left}

-- the key is one of these
abbrev pub among : Key → List Key → Bool
among key [] = false
among key (k ∷ ks) = bytes_eq key k || among key ks

abbrev pub unlike : Key → Key → Bool
unlike key k = not (bytes_eq key k)

-- how many different keys a list has
abbrev pub different : List Key → ℕ
different [] = 0
different (k ∷ ks) = cond (among k ks) (different ks) (suc (different ks))

-- how many pages a class was given, and all classes together
abbrev pub pages_told : ℕ → List Happening → ℕ
pages_told class [] = 0
pages_told class (Given c ∷ story) = cond (c == class) (pages_told class story + 1) (pages_told class story)
pages_told class (Stored c key ∷ story) = pages_told class story
pages_told class (Moved c key ∷ story) = pages_told class story
pages_told class (Left now c r why ∷ story) = pages_told class story

abbrev pub pages_given : List Happening → ℕ
pages_given [] = 0
pages_given (Given c ∷ story) = pages_given story + 1
pages_given (Stored c key ∷ story) = pages_given story
pages_given (Moved c key ∷ story) = pages_given story
pages_given (Left now c r why ∷ story) = pages_given story

-- the keys of the records that a class holds, front to back: one that was stored or moved is in front, one that left is gone
abbrev pub keys_told : ℕ → List Happening → List Key
keys_told class [] = []
keys_told class (Given c ∷ story) = keys_told class story
keys_told class (Stored c key ∷ story) = cond (c == class) (key ∷ keys_told class story) (keys_told class story)
keys_told class (Moved c key ∷ story) = cond (c == class) (key ∷ filter (unlike key) (keys_told class story)) (keys_told class story)
keys_told class (Left now c r why ∷ story) = cond (c == class) (filter (unlike r.key) (keys_told class story)) (keys_told class story)

-- a story in which only records leave or move that are held, and none is stored whose key is held
abbrev pub Sensible : List Happening → Type 0
Sensible [] = Unit {0}
Sensible (Given c ∷ story) = Sensible story
Sensible (Stored c key ∷ story) = ((class : ℕ) → 1 ≤ class → among key (keys_told class story) ≡ false) × Sensible story
Sensible (Moved c key ∷ story) = (among key (keys_told c story) ≡ true) × Sensible story
Sensible (Left now c r why ∷ story) = (among r.key (keys_told c story) ≡ true) × Sensible story

-- the keys that were stored or moved in a class, the newest first
abbrev pub uses : ℕ → List Happening → List Key
uses class [] = []
uses class (Given c ∷ story) = uses class story
uses class (Stored c key ∷ story) = cond (c == class) (key ∷ uses class story) (uses class story)
uses class (Moved c key ∷ story) = cond (c == class) (key ∷ uses class story) (uses class story)
uses class (Left now c r why ∷ story) = uses class story

-- of keys with the newest first, those since this key last came: all of them are other keys
abbrev pub since : Key → List Key → List Key
since key [] = []
since key (k ∷ ks) = cond (bytes_eq key k) [] (k ∷ since key ks)

-- how many records were stored, and how many left by one reason
abbrev pub stores : List Happening → ℕ
stores [] = 0
stores (Given c ∷ story) = stores story
stores (Stored c key ∷ story) = stores story + 1
stores (Moved c key ∷ story) = stores story
stores (Left now c r why ∷ story) = stores story

abbrev pub place : Why → ℕ
place Replaced = 0
place Deleted = 1
place Flushed = 2
place Expired = 3
place Evicted = 4
place Dropped = 5

abbrev pub same_why : Why → Why → Bool
same_why a b = place a == place b

abbrev pub leavings : Why → List Happening → ℕ
leavings why [] = 0
leavings why (Given c ∷ story) = leavings why story
leavings why (Stored c key ∷ story) = leavings why story
leavings why (Moved c key ∷ story) = leavings why story
leavings why (Left now c r w ∷ story) = cond (same_why why w) (leavings why story + 1) (leavings why story)

-- how often a record of this cas number left
abbrev pub departures : ℕ → List Happening → ℕ
departures n [] = 0
departures n (Given c ∷ story) = departures n story
departures n (Stored c key ∷ story) = departures n story
departures n (Moved c key ∷ story) = departures n story
departures n (Left now c r why ∷ story) = cond (r.cas == n) (departures n story + 1) (departures n story)

-- nobody asked for it: neither a delete, nor a flush, nor a new record of the same key, nor a failed set of its own key
abbrev pub unasked : Why → Bool
unasked Replaced = false
unasked Deleted = false
unasked Flushed = false
unasked Expired = true
unasked Evicted = true
unasked Dropped = false
