-- Nothing leaves while there is room. Assumes nothing.
use Rattle.std.proofs.Common.{◌≡◌, ℕ, suc, ◌+◌, ◌≤◌, Bool, true, false, cond, eqb, List, [], ◌∷◌, map, length, Some, None, filter, Option, sym, refl, ap, ◌∙◌, subst, ⊎_elim, arith}
use lib.ListN.{length-map}
use Rattle.std.specs.List.{AllByRecursion}
use Rattle.std.specs.Str.{bytes_eq}
use Rattle.std.proofs.ByRecursion.{all_kept_by, All-weaker, kept_by_passes}
use Rattle.std.proofs.lemmas.List.Filters.{length-filter_both}
use Rattle.std.proofs.lemmas.Bool.{both_ways, not-true, or_left, or_right, or_parts, or_cases, ltb-false, cases_Bool}
use Rattle.model.specs.Setup.{Setup, chunks}
use Rattle.model.specs.Records.{Key, Record, dead, has_key, class_no}
use Rattle.model.specs.Store.{Store, Why, Replaced, Deleted, Flushed, Expired, Evicted, Dropped, Happening, Given, Stored, Moved, Left, class_at, last, or_else}
use Rattle.model.specs.Stories.{among, unlike, different, keys_told, pages_told, Sensible, uses, since, unasked}
use Rattle.model.specs.Promises.{Crowded, Fair, Faithful, key_of, NothingLeavesWhileThereIsRoom}
use Rattle.model.proofs.Held.{count, count_cons, count_kept, same_key, key_is, all_on, last_on, on_map}
use Rattle.model.proofs.Sound.{Sound, Lives, own_key}
use Rattle.model.proofs.Changes.{Reason, Change, Changes, none, then, asked, regrown, removed, fronted, gave, stored, touched, sound_change}
use Rattle.model.proofs.Chains.{run_changes, sound_empty}
use Rattle.model.proofs.Truth.{class_few, faithful_change, faithful_empty}

-- KEYS THAT DIFFER

-- a key differs from another as the other differs from it
differs : (x y : Key) → bytes_eq x y ≡ false → bytes_eq y x ≡ false
differs x y e = by (bytes_eq y x) refl
  where
    by : (b : Bool) → bytes_eq y x ≡ b → b ≡ false
    by true is = absurd (both_ways (bytes_eq x y) e (subst (λ k. bytes_eq x k ≡ true) (sym (key_is y x is)) (same_key x)))
    by false is = refl

unlike_of : (key k : Key) → unlike key k ≡ true → bytes_eq k key ≡ false
unlike_of key k e = differs key k (not-true (bytes_eq key k) e)

-- each key of a list in which a key is not differs from it
none_among : (key : Key) (ks : List Key) → among key ks ≡ false → AllByRecursion (λ k. bytes_eq k key ≡ false) ks
none_among key [] e = tt
none_among key (k ∷ ks) e =
    let both = or_parts (bytes_eq key k) (among key ks) e in (differs key k both.0, none_among key ks both.1)

-- a list of different keys that all stand among others has at most as many as those have different ones
many : (fs ys : List Key) → ((k : Key) → count (bytes_eq k) fs ≤ 1) → AllByRecursion (λ x. among x ys ≡ true) fs → length fs ≤ different ys
many [] [] few all = omega arith
many (x ∷ fs) [] few all = absurd (both_ways false refl all.0)
many fs (y ∷ ys) few all = by (λ gs. many gs ys) (among y ys) refl
  where
    -- a key other than y stands among the rest
    rest : (x : Key) → among x (y ∷ ys) ≡ true → bytes_eq x y ≡ false → among x ys ≡ true
    rest x h ne = ⊎_elim (λ e. absurd (both_ways (bytes_eq x y) ne e)) (λ e. e) (or_cases (bytes_eq x y) (among x ys) h)

    also : among y ys ≡ true → (x : Key) → among x (y ∷ ys) ≡ true → among x ys ≡ true
    also in_rest x h =
        ⊎_elim (λ e. subst (λ k. among k ys ≡ true) (sym (key_is x y e)) in_rest) (λ ne. rest x h ne) (cases_Bool (bytes_eq x y))

    others : (gs : List Key) → AllByRecursion (λ x. among x (y ∷ ys) ≡ true) gs → AllByRecursion (λ x. unlike y x ≡ true) gs → AllByRecursion (λ x. among x ys ≡ true) gs
    others [] h ne = tt
    others (x ∷ gs) h ne = (rest x h.0 (unlike_of y x ne.0), others gs h.1 ne.1)

    by : ((gs : List Key) → ((k : Key) → count (bytes_eq k) gs ≤ 1) → AllByRecursion (λ x. among x ys ≡ true) gs → length gs ≤ different ys) → (b : Bool) → among y ys ≡ b → length fs ≤ cond b (different ys) (suc (different ys))
    by rec true e = rec fs few (All-weaker (λ x. among x (y ∷ ys) ≡ true) (λ x. among x ys ≡ true) (also e) fs all)
    by rec false e =
        let gs = filter (unlike y) fs in
        let split = length-filter_both (bytes_eq y) (unlike y) (λ _. refl) fs in
        let one = few y in
        let h = rec gs (λ k. let c = count_kept (bytes_eq k) (unlike y) fs in let f = few k in omega arith)
        (others gs (all_kept_by (unlike y) (λ x. among x (y ∷ ys) ≡ true) fs all) (kept_by_passes (unlike y) fs)) in
        omega arith

-- THE ORDER OF A CLASS IS THE ORDER OF ITS LAST USES

-- x was stored or moved since y last was
abbrev After : List Key → Key → Key → Type 0
After us x y = among x (since y us) ≡ true

-- each key with each that stands behind it
abbrev Pairwise : (Key → Key → Type 0) → List Key → Type 0
Pairwise R [] = Unit {0}
Pairwise R (x ∷ xs) = AllByRecursion (R x) xs × Pairwise R xs

pairwise_kept : (R : Key → Key → Type 0) (p : Key → Bool) (xs : List Key) → Pairwise R xs → Pairwise R (filter p xs)
pairwise_kept R p [] h = tt
pairwise_kept R p (x ∷ xs) h = by (p x) (pairwise_kept R p xs h.1)
  where
    by : (b : Bool) → Pairwise R (filter p xs) → Pairwise R (cond b (x ∷ filter p xs) (filter p xs))
    by true rec = (all_kept_by p (R x) xs h.0, rec)
    by false rec = rec

-- a newer use
newer : (us : List Key) (key x y : Key) → bytes_eq y key ≡ false → After us x y → After (key ∷ us) x y
newer us key x y ne h = rw ne (or_right (bytes_eq x key) (among x (since y us)) h)

newest : (us : List Key) (key y : Key) → bytes_eq y key ≡ false → After (key ∷ us) key y
newest us key y ne = rw ne (or_left (bytes_eq key key) (among key (since y us)) (same_key key))

newer_all : (us : List Key) (key x : Key) (ys : List Key) → AllByRecursion (λ y. bytes_eq y key ≡ false) ys → AllByRecursion (After us x) ys → AllByRecursion (After (key ∷ us) x) ys
newer_all us key x [] ne h = tt
newer_all us key x (y ∷ ys) ne h = (newer us key x y ne.0 h.0, newer_all us key x ys ne.1 h.1)

newer_pairs : (us : List Key) (key : Key) (ks : List Key) → AllByRecursion (λ y. bytes_eq y key ≡ false) ks → Pairwise (After us) ks → Pairwise (After (key ∷ us)) ks
newer_pairs us key [] ne h = tt
newer_pairs us key (k ∷ ks) ne h = (newer_all us key k ks ne.1 h.0, newer_pairs us key ks ne.1 h.1)

in_front : (us : List Key) (key : Key) (ks : List Key) → AllByRecursion (λ y. bytes_eq y key ≡ false) ks → Pairwise (After us) ks → Pairwise (After (key ∷ us)) (key ∷ ks)
in_front us key ks ne h =
    (All-weaker (λ y. bytes_eq y key ≡ false) (After (key ∷ us) key) (newest us key) ks ne, newer_pairs us key ks ne h)

-- what a condition on the class chooses, it chooses for keys and uses alike
recent : (class : ℕ) → 1 ≤ class → (story : List Happening) → Sensible story → Pairwise (After (uses class story)) (keys_told class story)
recent class low [] sense = tt
recent class low (Given c ∷ story) sense = recent class low story sense
recent class low (Stored c key ∷ story) sense = by (eqb c class) (recent class low story sense.1)
  where
    by : (b : Bool) → Pairwise (After (uses class story)) (keys_told class story) → Pairwise (After (cond b (key ∷ uses class story) (uses class story))) (cond b (key ∷ keys_told class story) (keys_told class story))
    by true h = in_front (uses class story) key (keys_told class story) (none_among key (keys_told class story) (sense.0 class low)) h
    by false h = h
recent class low (Moved c key ∷ story) sense = by (eqb c class) (recent class low story sense.1)
  where
    by : (b : Bool) → Pairwise (After (uses class story)) (keys_told class story) → Pairwise (After (cond b (key ∷ uses class story) (uses class story))) (cond b (key ∷ filter (unlike key) (keys_told class story)) (keys_told class story))
    by true h =
        let ks = keys_told class story in
        in_front (uses class story) key (filter (unlike key) ks)
        (All-weaker (λ k. unlike key k ≡ true) (λ k. bytes_eq k key ≡ false) (unlike_of key) (filter (unlike key) ks) (kept_by_passes (unlike key) ks))
        (pairwise_kept (After (uses class story)) (unlike key) ks h)
    by false h = h
recent class low (Left now c r why ∷ story) sense = by (eqb c class) (recent class low story sense.1)
  where
    by : (b : Bool) → Pairwise (After (uses class story)) (keys_told class story) → Pairwise (After (uses class story)) (cond b (filter (unlike r.key) (keys_told class story)) (keys_told class story))
    by true h = pairwise_kept (After (uses class story)) (unlike r.key) (keys_told class story) h
    by false h = h

-- THE REARMOST RECORD

last_some : (y : Record) (ys : List Record) → last (λ _. true) (y ∷ ys) ≡ None → ⊥
last_some y ys e = by (last (λ _. true) ys) e
  where
    by : (o : Option Record) → or_else o (Some y) ≡ None → ⊥
    by None e = let z : ◌≡◌ {A = ℕ} 0 1 = cc in omega arith
    by (Some x) e = let z : ◌≡◌ {A = ℕ} 0 1 = cc in omega arith

-- every other key of the class was used since
before_last : (R : Key → Key → Type 0) (xs : List Record) (r : Record) → last (λ _. true) xs ≡ Some r → Pairwise R (map key_of xs) → AllByRecursion (λ k. unlike r.key k ≡ true → R k r.key) (map key_of xs)
before_last R [] r e h = tt
before_last R (x ∷ []) r e h =
    let is : x ≡ r = cc in
    (λ ne. absurd (both_ways (bytes_eq r.key x.key) (not-true _ ne) (subst (λ z. bytes_eq r.key z.key ≡ true) (sym is) (same_key r.key))), tt)
before_last R (x ∷ y ∷ ys) r e h = by (last (λ _. true) (y ∷ ys)) refl e (λ found. before_last R (y ∷ ys) r found h.1)
  where
    by : (o : Option Record) → last (λ _. true) (y ∷ ys) ≡ o → or_else o (Some x) ≡ Some r → (last (λ _. true) (y ∷ ys) ≡ Some r → AllByRecursion (λ k. unlike r.key k ≡ true → R k r.key) (map key_of (y ∷ ys))) → AllByRecursion (λ k. unlike r.key k ≡ true → R k r.key) (map key_of (x ∷ y ∷ ys))
    by None NoneFound e rec = absurd (last_some y ys NoneFound)
    by (Some z) found e rec =
        let on = (last_on (λ _. true) (y ∷ ys) (found ∙ e)).0 in
        (λ _. all_on (R x.key) h.0 (on_map key_of on), rec (found ∙ e))

-- EVICTION

-- counts of keys are counts of records by key
count_keys : (k : Key) (xs : List Record) → count (bytes_eq k) (map key_of xs) ≡ count (has_key k) xs
count_keys k [] = refl
count_keys k (x ∷ xs) =
    count_cons (bytes_eq k) x.key (map key_of xs) ∙ ap (λ n. cond (has_key k x) 1 0 + n) (count_keys k xs) ∙ sym (count_cons (has_key k) x xs)

-- what passes a filter has what the whole list has under the filter's test
all_passed : {A : Type 0} (P : A → Type 0) (p : A → Bool) (xs : List A) → AllByRecursion (λ x. p x ≡ true → P x) xs → AllByRecursion P (filter p xs)
all_passed P p [] h = tt
all_passed P p (x ∷ xs) h = by (p x) refl (all_passed P p xs h.1)
  where
    by : (b : Bool) → p x ≡ b → AllByRecursion P (filter p xs) → AllByRecursion P (cond b (x ∷ filter p xs) (filter p xs))
    by true e rec = (h.0 e, rec)
    by false e rec = rec

module _ (setup : Setup) (s : Store) (sound : Sound setup s.classes) (f : Faithful setup s) (r : Record) (live : Lives setup r s.classes) where
  crowded : (now : ℕ) → Reason setup now Evicted r s → Crowded setup (class_no setup r) r s.story
  crowded now reason =
      let c = class_no setup r in
      let low = live.numbered.low in
      let xs = (class_at c s.classes).records in
      let us = uses c s.story in
      let ks = map key_of xs in
      let keys : ks ≡ keys_told c s.story = f.keys c low in
      let pages = f.pages c low in
      let fit = sound.fits c low in
      let full : chunks setup c (class_at c s.classes).pages ≤ length xs = ltb-false _ _ reason.0 in
      let long = length-map xs key_of in
      let is : length xs ≡ chunks setup c (pages_told c s.story) = rw (← pages) (omega arith) in
      let pairs : Pairwise (After us) ks = subst (Pairwise (After us)) (sym keys) (recent c low s.story f.sensible) in
      let others = filter (unlike r.key) ks in
      let each : AllByRecursion (λ k. After us k r.key) others = all_passed (λ k. After us k r.key) (unlike r.key) ks (before_last (After us) xs r reason.2 pairs) in
      let few : (k : Key) → count (bytes_eq k) others ≤ 1 =
      λ k.
      let a = count_kept (bytes_eq k) (unlike r.key) ks in
      let b = count_keys k xs in
      let d = class_few (has_key k) s.classes c in
      let e = sound.once k in
      omega arith in
      let enough = many others (since r.key us) few each in
      let split = length-filter_both (bytes_eq r.key) (unlike r.key) (λ _. refl) ks in
      let own = own_key setup s.classes sound r live in
      let mine = count_keys r.key xs in
      let pages_all = f.free in
      let no_free = reason.1 in
      record {
        full = ap length (sym keys) ∙ long ∙ is;
        no_page = omega arith;
        others = omega arith;
      }

  fair_left : (now : ℕ) (why : Why) → Reason setup now why r s → unasked why ≡ true → dead now r ≡ false → Crowded setup (class_no setup r) r s.story
  fair_left now Replaced reason ask alive = absurd (both_ways false refl ask)
  fair_left now Deleted reason ask alive = absurd (both_ways false refl ask)
  fair_left now Flushed reason ask alive = absurd (both_ways false refl ask)
  fair_left now Expired reason ask alive = absurd (both_ways (dead now r) alive reason)
  fair_left now Evicted reason ask alive = crowded now reason
  fair_left now Dropped reason ask alive = absurd (both_ways false refl ask)

-- EVERY RUN

fair_change : {setup : Setup} {s t : Store} → Sound setup s.classes → Faithful setup s → Fair setup s.story → Change setup s t → Fair setup t.story
fair_change sound f fair (asked hit) = fair
fair_change sound f fair (regrown g) = fair
fair_change {setup} {s} sound f fair (removed now why r live reason) = (fair_left setup s sound f r live now why reason, fair)
fair_change sound f fair (fronted now r live) = fair
fair_change sound f fair (gave class num free) = fair
fair_change sound f fair (stored r num new room next) = fair
fair_change sound f fair (touched expiry r live) = fair

fair_changes : {setup : Setup} {s t : Store} → Sound setup s.classes → Faithful setup s → Fair setup s.story → Changes setup s t → Fair setup t.story
fair_changes sound f fair none = fair
fair_changes sound f fair (then c more) =
    fair_changes (sound_change sound c) (faithful_change sound f c) (fair_change sound f fair c) more

pub nothing_leaves_while_there_is_room : NothingLeavesWhileThereIsRoom
nothing_leaves_while_there_is_room setup calls plan =
    fair_changes (sound_empty setup) (faithful_empty setup) tt (run_changes setup plan calls)
