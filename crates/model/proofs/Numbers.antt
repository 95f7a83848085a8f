-- Every record that was linked is held or left once: counts by cas number. Assumes nothing.
use Rattle.std.proofs.Common.{◌≡◌, ℕ, zero, suc, ◌+◌, ◌-◌, Bool, cond, ◌&&◌, eqb, leb, List, [], ◌∷◌, ◌++◌, map, length, set, replicate, filter, Option, sym, refl, ap, ◌∙◌, arith}
use Rattle.std.specs.List.{flat_map}
use Rattle.std.proofs.lemmas.Bool.Decides.{nat_tests}
use Rattle.std.proofs.lemmas.Bool.{cond_both}
use Rattle.model.specs.Setup.{Setup}
use Rattle.model.specs.Records.{Key, Record, has_key, other_key, class_no, moved_at, expiring}
use Rattle.model.specs.Store.{Class, Store, Happening, Given, Stored, Moved, Left, bare, class_at, records_of, aged}
use Rattle.model.specs.Calls.{Call, run, empty, step}
use Rattle.model.specs.Stories.{stores, departures}
use Rattle.model.specs.Promises.{Planned, has_cas, copies, EachRecordLeavesOnce, ToldBetween, ACallTellsWhatItDid}
use Rattle.model.proofs.Held.{On, here, there, count, count_cons, count_some, same_key}
use Rattle.model.proofs.Sound.{Sound, Numbered, own_key, count_set_by}
use Rattle.model.proofs.Changes.{Change, Changes, none, then, asked, regrown, removed, fronted, gave, stored, touched, sound_change, sound_changes}
use Rattle.model.proofs.Chains.{run_changes, step_changes, sound_empty}
use Rattle.model.proofs.Truth.{grows_all}

-- 1 where the test holds
abbrev pub one_if : Bool → ℕ
one_if b = cond b 1 0

-- whether a number was given, where c is the last one
abbrev pub given : ℕ → ℕ → ℕ
given n c = one_if (leb 1 n && leb n c)

given_next : (n c : ℕ) → given n (c + 1) ≡ given n c + one_if (eqb (c + 1) n)
given_next n c = grind (arith, nat_tests)

-- COUNTS OF A LIST

-- without a key that none has, nothing is lost
count_whole : (q : Record → Bool) (key : Key) (xs : List Record) → count (has_key key) xs ≡ 0 → count q (filter (other_key key) xs) ≡ count q xs
count_whole q key [] e = refl
count_whole q key (x ∷ xs) e =
    let c = count_cons (has_key key) x xs in
    let h = count_whole q key xs in
    let d = count_cons q x xs in
    let f = count_cons q x (filter (other_key key) xs) in
    grind arith

-- without the key that one record has, just that record is lost
count_lost : (q : Record → Bool) {r : Record} {xs : List Record} → On r xs → count (has_key r.key) xs ≡ 1 → count q xs ≡ one_if (q r) + count q (filter (other_key r.key) xs)
count_lost q {r} (here {xs = xs}) e =
    let mine = same_key r.key in
    let c = count_cons (has_key r.key) r xs in
    let d = count_cons q r xs in
    let h = count_whole q r.key xs in
    grind arith
count_lost q {r} (there {y = y} {xs = xs} o) e =
    let some = count_some (has_key r.key) o (same_key r.key) in
    let c = count_cons (has_key r.key) y xs in
    let d = count_cons q y xs in
    let f = count_cons q y (filter (other_key r.key) xs) in
    let h = count_lost q o in
    grind arith

aged_cas : (key : Key) (expiry : Option ℕ) (x : Record) → (aged key expiry x).cas ≡ x.cas
aged_cas key expiry x = cond_both (has_key key x) (expiring expiry x) x (λ y. y.cas ≡ x.cas) (λ _. refl) (λ _. refl)

count_aged : (n : ℕ) (key : Key) (expiry : Option ℕ) (xs : List Record) → count (has_cas n) (map (aged key expiry) xs) ≡ count (has_cas n) xs
count_aged n key expiry [] = refl
count_aged n key expiry (x ∷ xs) =
    count_cons (has_cas n) (aged key expiry x) (map (aged key expiry) xs)
    ∙ rw (aged_cas key expiry x, count_aged n key expiry xs) (sym (count_cons (has_cas n) x xs))

-- COUNTS OF A STORE

-- held or left: each number that was given, once
record NumberedOnce (s : Store) : Type 0 where
  total : (n : ℕ) → copies n s + departures n s.story ≡ given n s.cas
  linked : s.cas ≡ stores s.story

-- how many are held of a number, where one class has another list
copies_set : (setup : Setup) (s : Store) → Sound setup s.classes → (class : ℕ) → Numbered setup class → (k : Class) (n : ℕ) → count (has_cas n) (flat_map records_of (set s.classes (class - 1) k)) + count (has_cas n) (class_at class s.classes).records ≡ copies n s + count (has_cas n) k.records
copies_set setup s sound class num k n = count_set_by setup s.classes sound class num (has_cas n) k

numbered_change : {setup : Setup} {s t : Store} → Sound setup s.classes → NumberedOnce s → Change setup s t → NumberedOnce t
numbered_change sound h (asked hit) = record { total = h.total; linked = h.linked }
numbered_change sound h (regrown g) = record { total = h.total; linked = h.linked }
numbered_change {setup} {s} sound h (removed now why r live reason) =
    let c = class_no setup r in
    let xs = (class_at c s.classes).records in
    let k : Class = record { pages = (class_at c s.classes).pages; records = filter (other_key r.key) xs } in
    record {
      total = λ n.
          let all = copies_set setup s sound c live.numbered k n in
          let lost = count_lost (has_cas n) live.on (own_key setup s.classes sound r live) in
          let before = h.total n in
          grind arith;
      linked = h.linked;
    }
numbered_change {setup} {s} sound h (fronted now r live) =
    let c = class_no setup r in
    let xs = (class_at c s.classes).records in
    let rest = filter (other_key r.key) xs in
    let k : Class = record { pages = (class_at c s.classes).pages; records = moved_at now r ∷ rest } in
    record {
      total = λ n.
          let all = copies_set setup s sound c live.numbered k n in
          let lost = count_lost (has_cas n) live.on (own_key setup s.classes sound r live) in
          let front = count_cons (has_cas n) (moved_at now r) rest in
          let before = h.total n in
          omega arith;
      linked = h.linked;
    }
numbered_change {setup} {s} sound h (gave class num free) =
    let k : Class = record { pages = (class_at class s.classes).pages + 1; records = (class_at class s.classes).records } in
    record {
      total = λ n. let all = copies_set setup s sound class num k n in let before = h.total n in omega arith;
      linked = h.linked;
    }
numbered_change {setup} {s} sound h (stored r num new room next) =
    let c = class_no setup r in
    let xs = (class_at c s.classes).records in
    let k : Class = record { pages = (class_at c s.classes).pages; records = r ∷ xs } in
    record {
      total = λ n.
          let all = copies_set setup s sound c num k n in
          let front = count_cons (has_cas n) r xs in
          let its : one_if (has_cas n r) ≡ one_if (eqb (s.cas + 1) n) = ap (λ m. one_if (eqb m n)) next in
          let more = given_next n s.cas in
          let before = h.total n in
          omega arith;
      linked = ap (λ n. n + 1) h.linked;
    }
numbered_change {setup} {s} sound h (touched expiry r live) =
    let c = class_no setup r in
    let xs = (class_at c s.classes).records in
    let k : Class = record { pages = (class_at c s.classes).pages; records = map (aged r.key expiry) xs } in
    record {
      total = λ n.
          let all = copies_set setup s sound c live.numbered k n in
          let same = count_aged n r.key expiry xs in
          let before = h.total n in
          omega arith;
      linked = h.linked;
    }

numbered_changes : {setup : Setup} {s t : Store} → Sound setup s.classes → NumberedOnce s → Changes setup s t → NumberedOnce t
numbered_changes sound h none = h
numbered_changes sound h (then c more) = numbered_changes (sound_change sound c) (numbered_change sound h c) more

none_held : (n m : ℕ) → count (has_cas n) (flat_map records_of (replicate m bare)) ≡ 0
none_held n zero = refl
none_held n (suc m) = none_held n m

numbered_empty : (setup : Setup) → NumberedOnce (empty setup).store
numbered_empty setup =
    record {
      total = λ n. let e = none_held n (length setup.sizes) in grind (arith, nat_tests);
      linked = refl;
    }

numbered_run : (setup : Setup) → Planned setup → (calls : List Call) → NumberedOnce (run setup calls).store
numbered_run setup plan calls = numbered_changes (sound_empty setup) (numbered_empty setup) (run_changes setup plan calls)

pub each_record_leaves_once : EachRecordLeavesOnce
each_record_leaves_once setup calls plan n low high =
    let h = (numbered_run setup plan calls).total n in
    grind (arith, nat_tests)

-- WHAT A CALL TELLS

departures_add : (n : ℕ) (new old : List Happening) → departures n (new ++ old) ≡ departures n new + departures n old
departures_add n [] old = omega arith
departures_add n (Given c ∷ new) old = departures_add n new old
departures_add n (Stored c key ∷ new) old = departures_add n new old
departures_add n (Moved c key ∷ new) old = departures_add n new old
departures_add n (Left now c r why ∷ new) old = let h = departures_add n new old in grind arith

stores_add : (new old : List Happening) → stores (new ++ old) ≡ stores new + stores old
stores_add [] old = omega arith
stores_add (Given c ∷ new) old = stores_add new old
stores_add (Stored c key ∷ new) old = let h = stores_add new old in omega arith
stores_add (Moved c key ∷ new) old = stores_add new old
stores_add (Left now c r why ∷ new) old = stores_add new old

told_between : (s t : Store) (new : List Happening) → t.story ≡ new ++ s.story → NumberedOnce s → NumberedOnce t → ToldBetween s t new
told_between s t new adds before after =
    record {
      adds = adds;
      gone = λ n was is. let x = sum n in let a = before.total n in let b = after.total n in grind (arith, nat_tests);
      kept = λ n is. let x = sum n in let a = before.total n in let b = after.total n in grind (arith, nat_tests);
      once = λ n. let x = sum n in let a = before.total n in let b = after.total n in grind (arith, nat_tests);
      newly = λ n was is. let x = sum n in let a = before.total n in let b = after.total n in (grind (arith, nat_tests), grind (arith, nat_tests));
    }
  where
    sum : (n : ℕ) → (departures n t.story ≡ departures n new + departures n s.story) × (t.cas ≡ s.cas + stores new)
    sum n =
        let d = ap (departures n) adds ∙ departures_add n new s.story in
        let e = ap stores adds ∙ stores_add new s.story in
        let a = before.linked in
        let b = after.linked in
        (d, omega arith)

pub a_call_tells_what_it_did : ACallTellsWhatItDid
a_call_tells_what_it_did setup calls call plan =
    let sound = sound_changes (sound_empty setup) (run_changes setup plan calls) in
    let changes = step_changes setup plan call (run setup calls) sound in
    let new = grows_all changes in
    let before = numbered_run setup plan calls in
    (new.0, told_between (run setup calls).store (step setup call (run setup calls)).state.store new.0 new.1 before (numbered_changes sound before changes))
