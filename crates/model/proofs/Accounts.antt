-- Every record linked is accounted for. Assumes nothing.
use Rattle.std.proofs.Common.{◌≡◌, ℕ, zero, suc, ◌+◌, ◌-◌, true, false, List, ◌∷◌, map, length, set, replicate, sum_by, filter, Option, refl, ◌∙◌, arith}
use lib.ListN.{length-map}
use Rattle.std.specs.List.{flat_map}
use Rattle.std.proofs.lemmas.List.Sums.{sum_by-set, sum_by-cons}
use Rattle.model.specs.Setup.{Setup}
use Rattle.model.specs.Records.{Record, other_key, class_no, moved_at}
use Rattle.model.specs.Store.{Class, Counts, Store, Why, Replaced, Deleted, Flushed, Expired, Evicted, Dropped, bare, class_at, everything, records_of, aged, count_left, remove, to_front, give_page, insert, set_expiry}
use Rattle.model.specs.Calls.{empty}
use Rattle.model.specs.Promises.{EverythingIsAccountedFor, pages_of}
use Rattle.model.proofs.Held.{length_other}
use Rattle.model.proofs.Sound.{Sound, Numbered, Lives, own_key, length_set_class, in_range}
use Rattle.model.proofs.Changes.{Change, Changes, none, then, asked, regrown, removed, fronted, gave, stored, touched, sound_change, sound_changes}
use Rattle.model.proofs.Chains.{run_changes, sound_empty}

-- all records that left
abbrev pub gone : Counts → ℕ
gone c = c.replaced + c.deleted + c.flushed + c.expired + c.evicted + c.dropped

-- every record that was linked left, or is held
abbrev pub Even : Store → Type 0
Even s = s.counts.linked ≡ gone s.counts + length (everything s)

record Balanced (setup : Setup) (s : Store) : Type 0 where
  records : Even s
  pages : s.free + sum_by pages_of s.classes ≡ setup.pages

pub one_more : (why : Why) (c : Counts) → (gone (count_left why c) ≡ gone c + 1) × ((count_left why c).linked ≡ c.linked)
one_more Replaced c = (omega arith, refl)
one_more Deleted c = (omega arith, refl)
one_more Flushed c = (omega arith, refl)
one_more Expired c = (omega arith, refl)
one_more Evicted c = (omega arith, refl)
one_more Dropped c = (omega arith, refl)

module _ (setup : Setup) (s : Store) (sound : Sound setup s.classes) where
  -- the pages of all classes, where one class changes
  pages_set : (class : ℕ) → Numbered setup class → (k : Class) → sum_by pages_of (set s.classes (class - 1) k) + (class_at class s.classes).pages ≡ sum_by pages_of s.classes + k.pages
  pages_set class num k = sum_by-set pages_of s.classes (class - 1) k bare (in_range setup s.classes sound class num)

  -- the records of all classes, where one class has another list
  module _ (class : ℕ) (num : Numbered setup class) (rs : List Record) where
    abbrev changed : Class
    changed = record { pages = (class_at class s.classes).pages; records = rs }

    pub records_set : length (flat_map records_of (set s.classes (class - 1) changed)) + length (class_at class s.classes).records ≡ length (everything s) + length rs
    records_set = length_set_class setup s.classes sound class num changed

    pages_same : sum_by pages_of (set s.classes (class - 1) changed) ≡ sum_by pages_of s.classes
    pages_same = let h = pages_set class num changed in omega arith

  -- THE BALANCE AFTER EACH CHANGE

  pub even_removed : Even s → (now : ℕ) (why : Why) (r : Record) → Lives setup r s.classes → Even (remove setup now why r s)
  even_removed before now why r live =
      let c = class_no setup r in
      let xs = (class_at c s.classes).records in
      let all = records_set c live.numbered (filter (other_key r.key) xs) in
      let own = own_key setup s.classes sound r live in
      let lost = length_other r.key xs in
      let more = one_more why s.counts in
      omega (arith, more.0, more.1)

  pub even_fronted : Even s → (now : ℕ) (r : Record) → Lives setup r s.classes → Even (to_front setup now r s)
  even_fronted before now r live =
      let c = class_no setup r in
      let xs = (class_at c s.classes).records in
      let all = records_set c live.numbered (moved_at now r ∷ filter (other_key r.key) xs) in
      let own = own_key setup s.classes sound r live in
      let lost = length_other r.key xs in
      omega arith

  pub even_given : Even s → (class : ℕ) → Numbered setup class → Even (give_page class s)
  even_given before class num =
      let k : Class = record { pages = (class_at class s.classes).pages + 1; records = (class_at class s.classes).records } in
      let all = length_set_class setup s.classes sound class num k in
      omega arith

  pub even_stored : Even s → (r : Record) → Numbered setup (class_no setup r) → Even (insert setup r s)
  even_stored before r num =
      let c = class_no setup r in
      let all = records_set c num (r ∷ (class_at c s.classes).records) in
      omega arith

  pub even_touched : Even s → (expiry : Option ℕ) (r : Record) → Lives setup r s.classes → Even (set_expiry setup expiry r s)
  even_touched before expiry r live =
      let c = class_no setup r in
      let xs = (class_at c s.classes).records in
      let all = records_set c live.numbered (map (aged r.key expiry) xs) in
      let long = length-map xs (aged r.key expiry) in
      omega arith

balanced_change : {setup : Setup} {s t : Store} → Sound setup s.classes → Balanced setup s → Change setup s t → Balanced setup t
balanced_change sound b (asked true) = record { records = b.records; pages = b.pages }
balanced_change sound b (asked false) = record { records = b.records; pages = b.pages }
balanced_change sound b (regrown g) = record { records = b.records; pages = b.pages }
balanced_change {setup} {s} sound b (removed now why r live reason) =
    let c = class_no setup r in
    record {
      records = even_removed setup s sound b.records now why r live;
      pages = rw (pages_same setup s sound c live.numbered (filter (other_key r.key) (class_at c s.classes).records)) b.pages;
    }
balanced_change {setup} {s} sound b (fronted now r live) =
    let c = class_no setup r in
    record {
      records = even_fronted setup s sound b.records now r live;
      pages = rw (pages_same setup s sound c live.numbered (moved_at now r ∷ filter (other_key r.key) (class_at c s.classes).records)) b.pages;
    }
balanced_change {setup} {s} sound b (gave class num free) =
    let k : Class = record { pages = (class_at class s.classes).pages + 1; records = (class_at class s.classes).records } in
    let given = pages_set setup s sound class num k in
    let pages = b.pages in
    record { records = even_given setup s sound b.records class num; pages = omega arith }
balanced_change {setup} {s} sound b (stored r num new room next) =
    let c = class_no setup r in
    record {
      records = even_stored setup s sound b.records r num;
      pages = rw (pages_same setup s sound c num (r ∷ (class_at c s.classes).records)) b.pages;
    }
balanced_change {setup} {s} sound b (touched expiry r live) =
    let c = class_no setup r in
    record {
      records = even_touched setup s sound b.records expiry r live;
      pages = rw (pages_same setup s sound c live.numbered (map (aged r.key expiry) (class_at c s.classes).records)) b.pages;
    }

balanced_changes : {setup : Setup} {s t : Store} → Sound setup s.classes → Balanced setup s → Changes setup s t → Balanced setup t
balanced_changes sound b none = b
balanced_changes sound b (then c more) = balanced_changes (sound_change sound c) (balanced_change sound b c) more

no_records : (n : ℕ) → length (flat_map records_of (replicate n bare)) ≡ 0
no_records zero = refl
no_records (suc n) = no_records n

no_pages : (n : ℕ) → sum_by pages_of (replicate n bare) ≡ 0
no_pages zero = refl
no_pages (suc n) = sum_by-cons pages_of bare (replicate n bare) ∙ rw (no_pages n)

pub even_empty : (setup : Setup) → Even (empty setup).store
even_empty setup = let e = no_records (length setup.sizes) in omega arith

balanced_empty : (setup : Setup) → Balanced setup (empty setup).store
balanced_empty setup =
    let p = no_pages (length setup.sizes) in
    record { records = even_empty setup; pages = omega arith }

pub everything_is_accounted_for : EverythingIsAccountedFor
everything_is_accounted_for setup calls plan =
    let changes = run_changes setup plan calls in
    let sound = sound_changes (sound_empty setup) changes in
    let b = balanced_changes (sound_empty setup) (balanced_empty setup) changes in
    record { balance = b.records; fits = sound.fits; all_pages = b.pages; once = sound.once }
