-- The story tells what the store holds. Assumes nothing.
use Rattle.std.proofs.Common.{◌≡◌, ℕ, ◌+◌, ◌-◌, ◌<◌, ◌≤◌, Bool, true, false, cond, eqb, List, [], ◌∷◌, ◌++◌, map, length, set, filter, Option, sym, refl, ap, ◌∙◌, subst, ⊎_elim, append_assoc, arith}
use Rattle.std.specs.List.{flat_map}
use Rattle.std.proofs.lemmas.List.{get_or_past}
use Rattle.std.proofs.lemmas.List.Sums.{get_or-le-sum_by}
use Rattle.std.proofs.lemmas.Bool.{cases_eq, cases_lt, eq-eqb, ne_eqb, or_left, or_right}
use Rattle.model.specs.Setup.{Setup}
use Rattle.model.specs.Records.{Key, Record, has_key, other_key, class_no, moved_at}
use Rattle.model.specs.Store.{Class, Counts, Store, Why, Replaced, Deleted, Flushed, Expired, Evicted, Dropped, Happening, Given, Stored, Moved, Left, bare, class_at, everything, records_of, aged, count_left, count_linked}
use Rattle.model.specs.Calls.{empty}
use Rattle.model.specs.Stories.{among, unlike, keys_told, pages_told}
use Rattle.model.specs.Promises.{Tallied, Faithful, key_of, TheStoryIsTrue}
use Rattle.model.proofs.Held.{On, here, there, count, count_cons, count_joined, same_key, first_none}
use Rattle.model.proofs.Sound.{Sound, Numbered, at_same, at_other, in_range, aged_key}
use Rattle.model.proofs.Changes.{Change, Changes, none, then, asked, regrown, removed, fronted, gave, stored, touched, sound_change}
use Rattle.model.proofs.Chains.{run_changes, sound_empty, at_bare}

-- KEYS OF RECORDS

-- a filter by key, before or after the keys are taken
pub keys_kept : (key : Key) (xs : List Record) → map key_of (filter (other_key key) xs) ≡ filter (unlike key) (map key_of xs)
keys_kept key [] = refl
keys_kept key (x ∷ xs) = by (unlike key x.key) (keys_kept key xs)
  where
    by : (b : Bool) → map key_of (filter (other_key key) xs) ≡ filter (unlike key) (map key_of xs) → map key_of (cond b (x ∷ filter (other_key key) xs) (filter (other_key key) xs)) ≡ cond b (x.key ∷ filter (unlike key) (map key_of xs)) (filter (unlike key) (map key_of xs))
    by true e = ap (λ ks. x.key ∷ ks) e
    by false e = e

pub keys_aged : (key : Key) (expiry : Option ℕ) (xs : List Record) → map key_of (map (aged key expiry) xs) ≡ map key_of xs
keys_aged key expiry [] = refl
keys_aged key expiry (x ∷ xs) = rw (aged_key key expiry x, keys_aged key expiry xs)

pub among_on : {r : Record} {xs : List Record} → On r xs → among r.key (map key_of xs) ≡ true
among_on {r} here = or_left _ _ (same_key r.key)
among_on {r} (there o) = or_right _ _ (among_on o)

pub among_count : (key : Key) (xs : List Record) → count (has_key key) xs ≡ 0 → among key (map key_of xs) ≡ false
among_count key [] e = refl
among_count key (x ∷ xs) e =
    let c = count_cons (has_key key) x xs in let rec = among_count key xs in grind arith

-- no class has a record of a key that is not held
pub class_none : (p : Record → Bool) (ks : List Class) (class : ℕ) → count p (flat_map records_of ks) ≡ 0 → count p (class_at class ks).records ≡ 0
class_none p ks class e =
    ⊎_elim
    (λ lt.
    let h = get_or-le-sum_by (λ k. count p (records_of k)) ks (class - 1) bare lt in
    let all = count_joined p records_of ks in
    omega arith)
    (λ ge. rw (get_or_past ks (class - 1) bare ge) refl)
    (cases_lt (class - 1) (length ks))

pub class_few : (p : Record → Bool) (ks : List Class) (class : ℕ) → count p (class_at class ks).records ≤ count p (flat_map records_of ks)
class_few p ks class =
    ⊎_elim
    (λ lt. rw (count_joined p records_of ks) (get_or-le-sum_by (λ k. count p (records_of k)) ks (class - 1) bare lt))
    (λ ge. rw (get_or_past ks (class - 1) bare ge) (omega arith))
    (cases_lt (class - 1) (length ks))

-- WHAT IS TOLD OF A CLASS

pub told_same : {A : Type 0} (c : ℕ) (x y : A) → cond (eqb c c) x y ≡ x
told_same c x y = rw (eq-eqb c c refl)

pub told_other : {A : Type 0} (c d : ℕ) (x y : A) → (d ≡ c → ⊥) → cond (eqb c d) x y ≡ y
told_other c d x y ne = rw (ne_eqb c d (λ e. ne (sym e)))

-- a fact of the changed class, and the old fact of each other
pub at_each_but : (P : ℕ → Class → Type 0) (ks : List Class) (k : Class) (class : ℕ) → 1 ≤ class → class - 1 < length ks → P class k → ((d : ℕ) → 1 ≤ d → (d ≡ class → ⊥) → P d (class_at d ks)) → (d : ℕ) → 1 ≤ d → P d (class_at d (set ks (class - 1) k))
at_each_but P ks k class low lt new old d high =
    ⊎_elim
    (λ e. subst (λ n. P n (class_at n (set ks (class - 1) k))) (sym e) (subst (P class) (sym (at_same ks k class lt)) new))
    (λ ne. subst (P d) (sym (at_other ks k class d low high ne)) (old d high ne))
    (cases_eq d class)

-- COUNTS

tallied_left : (now class : ℕ) (r : Record) (why : Why) (c : Counts) (story : List Happening) → Tallied c story → Tallied (count_left why c) (Left now class r why ∷ story)
tallied_left now class r Replaced c story t = record { linked = t.linked; replaced = ap (λ n. n + 1) t.replaced; deleted = t.deleted; flushed = t.flushed; expired = t.expired; evicted = t.evicted; dropped = t.dropped }
tallied_left now class r Deleted c story t = record { linked = t.linked; replaced = t.replaced; deleted = ap (λ n. n + 1) t.deleted; flushed = t.flushed; expired = t.expired; evicted = t.evicted; dropped = t.dropped }
tallied_left now class r Flushed c story t = record { linked = t.linked; replaced = t.replaced; deleted = t.deleted; flushed = ap (λ n. n + 1) t.flushed; expired = t.expired; evicted = t.evicted; dropped = t.dropped }
tallied_left now class r Expired c story t = record { linked = t.linked; replaced = t.replaced; deleted = t.deleted; flushed = t.flushed; expired = ap (λ n. n + 1) t.expired; evicted = t.evicted; dropped = t.dropped }
tallied_left now class r Evicted c story t = record { linked = t.linked; replaced = t.replaced; deleted = t.deleted; flushed = t.flushed; expired = t.expired; evicted = ap (λ n. n + 1) t.evicted; dropped = t.dropped }
tallied_left now class r Dropped c story t = record { linked = t.linked; replaced = t.replaced; deleted = t.deleted; flushed = t.flushed; expired = t.expired; evicted = t.evicted; dropped = ap (λ n. n + 1) t.dropped }

-- where neither a store nor a leaving is told, the counts are as before
module _ {c : Counts} {story : List Happening} (t : Tallied c story) where
  tallied_moved : (class : ℕ) (key : Key) → Tallied c (Moved class key ∷ story)
  tallied_moved class key = record { linked = t.linked; replaced = t.replaced; deleted = t.deleted; flushed = t.flushed; expired = t.expired; evicted = t.evicted; dropped = t.dropped }

  tallied_given : (class : ℕ) → Tallied c (Given class ∷ story)
  tallied_given class = record { linked = t.linked; replaced = t.replaced; deleted = t.deleted; flushed = t.flushed; expired = t.expired; evicted = t.evicted; dropped = t.dropped }

  tallied_stored : (class : ℕ) (key : Key) → Tallied (count_linked c) (Stored class key ∷ story)
  tallied_stored class key = record { linked = ap (λ n. n + 1) t.linked; replaced = t.replaced; deleted = t.deleted; flushed = t.flushed; expired = t.expired; evicted = t.evicted; dropped = t.dropped }

-- CHANGES

module _ (setup : Setup) (s : Store) (sound : Sound setup s.classes) (f : Faithful setup s) where
  -- a class has another list of records, and the story tells so
  module _ (class : ℕ) (num : Numbered setup class) (rs : List Record) (h : Happening) where
    abbrev changed : Class
    changed = record { pages = (class_at class s.classes).pages; records = rs }

    keys_after : map key_of rs ≡ keys_told class (h ∷ s.story) → ((d : ℕ) → (d ≡ class → ⊥) → keys_told d (h ∷ s.story) ≡ keys_told d s.story) → (d : ℕ) → 1 ≤ d → map key_of (class_at d (set s.classes (class - 1) changed)).records ≡ keys_told d (h ∷ s.story)
    keys_after own others =
        at_each_but (λ d k. map key_of k.records ≡ keys_told d (h ∷ s.story)) s.classes changed class num.low (in_range setup s.classes sound class num) own
        (λ d low ne. f.keys d low ∙ sym (others d ne))

    pages_after : ((d : ℕ) → pages_told d (h ∷ s.story) ≡ pages_told d s.story) → (d : ℕ) → 1 ≤ d → (class_at d (set s.classes (class - 1) changed)).pages ≡ pages_told d (h ∷ s.story)
    pages_after same =
        at_each_but (λ d k. k.pages ≡ pages_told d (h ∷ s.story)) s.classes changed class num.low (in_range setup s.classes sound class num)
        (f.pages class num.low ∙ sym (same class))
        (λ d low ne. f.pages d low ∙ sym (same d))

pub faithful_change : {setup : Setup} {s t : Store} → Sound setup s.classes → Faithful setup s → Change setup s t → Faithful setup t
faithful_change {setup} {s} sound f (asked true) =
    let t = f.counts in
    record { keys = f.keys; pages = f.pages; free = f.free; sensible = f.sensible; counts = record { linked = t.linked; replaced = t.replaced; deleted = t.deleted; flushed = t.flushed; expired = t.expired; evicted = t.evicted; dropped = t.dropped } }
faithful_change {setup} {s} sound f (asked false) =
    let t = f.counts in
    record { keys = f.keys; pages = f.pages; free = f.free; sensible = f.sensible; counts = record { linked = t.linked; replaced = t.replaced; deleted = t.deleted; flushed = t.flushed; expired = t.expired; evicted = t.evicted; dropped = t.dropped } }
faithful_change sound f (regrown g) = record { keys = f.keys; pages = f.pages; free = f.free; sensible = f.sensible; counts = f.counts }
faithful_change {setup} {s} sound f (removed now why r live reason) =
    let c = class_no setup r in
    let xs = (class_at c s.classes).records in
    let rs = filter (other_key r.key) xs in
    let h = Left now c r why in
    let mine = f.keys c live.numbered.low in
    record {
      keys = keys_after setup s sound f c live.numbered rs h
          (keys_kept r.key xs ∙ ap (filter (unlike r.key)) mine ∙ sym (told_same c (filter (unlike r.key) (keys_told c s.story)) (keys_told c s.story)))
          (λ d ne. told_other c d _ _ ne);
      pages = pages_after setup s sound f c live.numbered rs h (λ d. refl);
      free = f.free;
      sensible = (rw (← mine) (among_on live.on), f.sensible);
      counts = tallied_left now c r why s.counts s.story f.counts;
    }
faithful_change {setup} {s} sound f (fronted now r live) =
    let c = class_no setup r in
    let xs = (class_at c s.classes).records in
    let rs = moved_at now r ∷ filter (other_key r.key) xs in
    let h = Moved c r.key in
    let mine = f.keys c live.numbered.low in
    record {
      keys = keys_after setup s sound f c live.numbered rs h
          (ap (λ ks. r.key ∷ ks) (keys_kept r.key xs ∙ ap (filter (unlike r.key)) mine) ∙ sym (told_same c (r.key ∷ filter (unlike r.key) (keys_told c s.story)) (keys_told c s.story)))
          (λ d ne. told_other c d _ _ ne);
      pages = pages_after setup s sound f c live.numbered rs h (λ d. refl);
      free = f.free;
      sensible = (rw (← mine) (among_on live.on), f.sensible);
      counts = tallied_moved f.counts c r.key;
    }
faithful_change {setup} {s} sound f (gave class num free) =
    let k : Class = record { pages = (class_at class s.classes).pages + 1; records = (class_at class s.classes).records } in
    let lt = in_range setup s.classes sound class num in
    let all = f.free in
    record {
      keys = at_each_but (λ d k. map key_of k.records ≡ keys_told d s.story) s.classes k class num.low lt (f.keys class num.low) (λ d low ne. f.keys d low);
      pages = at_each_but (λ d k. k.pages ≡ pages_told d (Given class ∷ s.story)) s.classes k class num.low lt
          (ap (λ n. n + 1) (f.pages class num.low) ∙ sym (told_same class _ _))
          (λ d low ne. f.pages d low ∙ sym (told_other class d _ _ ne));
      free = omega arith;
      sensible = f.sensible;
      counts = tallied_given f.counts class;
    }
faithful_change {setup} {s} sound f (stored r num new room next) =
    let c = class_no setup r in
    let rs = r ∷ (class_at c s.classes).records in
    let h = Stored c r.key in
    let mine = f.keys c num.low in
    let none_held = first_none (has_key r.key) (everything s) new in
    record {
      keys = keys_after setup s sound f c num rs h
          (ap (λ ks. r.key ∷ ks) mine ∙ sym (told_same c (r.key ∷ keys_told c s.story) (keys_told c s.story)))
          (λ d ne. told_other c d _ _ ne);
      pages = pages_after setup s sound f c num rs h (λ d. refl);
      free = f.free;
      sensible = (
        λ d low. rw (← f.keys d low) (among_count r.key (class_at d s.classes).records (class_none (has_key r.key) s.classes d none_held)),
        f.sensible,
      );
      counts = tallied_stored f.counts c r.key;
    }
faithful_change {setup} {s} sound f (touched expiry r live) =
    let c = class_no setup r in
    let xs = (class_at c s.classes).records in
    let k : Class = record { pages = (class_at c s.classes).pages; records = map (aged r.key expiry) xs } in
    let lt = in_range setup s.classes sound c live.numbered in
    let low = live.numbered.low in
    record {
      keys = at_each_but (λ d k. map key_of k.records ≡ keys_told d s.story) s.classes k c low lt (keys_aged r.key expiry xs ∙ f.keys c low) (λ d l ne. f.keys d l);
      pages = at_each_but (λ d k. k.pages ≡ pages_told d s.story) s.classes k c low lt (f.pages c low) (λ d l ne. f.pages d l);
      free = f.free;
      sensible = f.sensible;
      counts = f.counts;
    }

faithful_changes : {setup : Setup} {s t : Store} → Sound setup s.classes → Faithful setup s → Changes setup s t → Faithful setup t
faithful_changes sound f none = f
faithful_changes sound f (then c more) = faithful_changes (sound_change sound c) (faithful_change sound f c) more

pub faithful_empty : (setup : Setup) → Faithful setup (empty setup).store
faithful_empty setup =
    let n = length setup.sizes in
    record {
      keys = λ class low. rw (at_bare n (class - 1)) refl;
      pages = λ class low. rw (at_bare n (class - 1)) refl;
      free = omega arith;
      sensible = tt;
      counts = record { linked = refl; replaced = refl; deleted = refl; flushed = refl; expired = refl; evicted = refl; dropped = refl };
    }

pub the_story_is_true : TheStoryIsTrue
the_story_is_true setup calls plan = faithful_changes (sound_empty setup) (faithful_empty setup) (run_changes setup plan calls)

-- A CALL ADDS

grows : {setup : Setup} {s t : Store} → Change setup s t → (new : List Happening) × (t.story ≡ new ++ s.story)
grows (asked hit) = ([], refl)
grows (regrown g) = ([], refl)
grows (removed now why r live reason) = (Left now _ r why ∷ [], refl)
grows (fronted now r live) = (Moved _ r.key ∷ [], refl)
grows (gave class num free) = (Given class ∷ [], refl)
grows (stored r num new room next) = (Stored _ r.key ∷ [], refl)
grows (touched expiry r live) = ([], refl)

pub grows_all : {setup : Setup} {s t : Store} → Changes setup s t → (new : List Happening) × (t.story ≡ new ++ s.story)
grows_all none = ([], refl)
grows_all {s = s} (then c more) =
    let first = grows c in
    let rest = grows_all more in
    (rest.0 ++ first.0, rest.1 ∙ ap (λ l. rest.0 ++ l) first.1 ∙ sym (append_assoc rest.0 first.0 s.story))
