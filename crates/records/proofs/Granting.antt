-- What is shown when chunks are granted and returned: the same records. Assumes nothing.
use Rattle.std.proofs.Common.{◌≡◌, ℕ, ◌+◌, ◌*◌, ◌<◌, ◌≤◌, ltb, List, [], ◌∷◌, map, length, get_or, is_some, IfSome, Some, None, Option, sym, refl, ap, ◌∙◌, subst, ⊎_elim, arith, MatchOption}
use lib.ListN.{length-map}
use Rattle.std.specs.Option.{option_map}
use Rattle.std.proofs.lemmas.List.{get_or-set_same, get_or-set_other}
use Rattle.std.proofs.lemmas.Bool.{cases_eq, cases_lt, lt-ltb, le-ltb}
use Rattle.recency.specs.Lists.{foremost}
use Rattle.recency.proofs.Columns.{column_of_rest}
use Rattle.chained.specs.Fnv.{fnv}
use Rattle.plan.specs.Classes as plan
use Rattle.slabs.specs.declared.class.Stand.TheVariants.{Free, Granted, Held}
use Rattle.slabs.specs.declared.grant.Grant.{Grant}
use Rattle.slabs.specs.declared.slab.Slab.{Slab}
use Rattle.slabs.specs.Rows.{rest, rests}
use Rattle.slabs.specs.Lists.{held_of, granted_of, free_of, shift}
use Rattle.slabs.specs.Layouts.{class_at}
use Rattle.slabs.specs.Slabs.{Taken, Lists, Sound, Shifted, Holds, rows_of, homes_of, layout}
use Rattle.slabs.proofs.Ends.{none_in, beyond, names, foremost_in}
use Rattle.slabs.proofs.Families.{absent}
use Rattle.slabs.proofs.Pages.{counts_whole, classes_few}
use Rattle.slabs.proofs.Shifts.{shift_off}
use Rattle.model.specs.Setup.{Setup, chunks}
use Rattle.model.specs.Store as model
use Rattle.model.specs.Store.{Class}
use Rattle.model.specs.Sound.{Numbered}
use Rattle.records.specs.declared.records.Records.{Records}
use Rattle.records.specs.Kept.{NoGrant, OnlyGrant}
use Rattle.records.specs.Reading.{record_at}
use Rattle.records.specs.Showing.{Cut, ShowsRecords}
use Rattle.records.proofs.Chaining.{within}
use Rattle.records.proofs.Indexing.{IndexesAs, reindexed_by}
use Rattle.records.proofs.Maps.{map_same}
use Rattle.records.proofs.Turns.{told, same_records}

-- the list is none of records
abbrev pub NotRecords : ℕ → Type 0
NotRecords h = (class : ℕ) → h ≡ held_of class → ⊥

pub free_not : (class : ℕ) → NotRecords (free_of class)
free_not class other e = omega arith

pub granted_not : (class : ℕ) → NotRecords (granted_of class)
granted_not class other e = omega arith

-- the same pages, and the same lists of records over rows that tell the same
module _ (setup : Setup) (s : Slab) (memory : List ℕ) (ks : List Class) (sh : ShowsRecords setup s memory ks) (t : Slab) where
  pub shows_same : layout t ≡ layout s → map told (rows_of t) ≡ map told (rows_of s) → ((k : ℕ) → Holds t k → Holds s k) → (lists : ℕ → List ℕ) → Lists t lists → ((class : ℕ) → lists (held_of class) ≡ sh.lists (held_of class)) → ShowsRecords setup t memory ks
  shows_same layout_is tells before lists listed held =
      let read : (k : ℕ) → record_at (layout t) (rows_of t) memory k ≡ record_at (layout s) (rows_of s) memory k =
      λ k. ap (λ l. record_at l (rows_of t) memory k) layout_is ∙ same_records (layout s) (rows_of s) (rows_of t) memory tells k in
      record {
        kept = sh.kept;
        cut = subst (λ l. Cut setup l) (sym layout_is) sh.cut;
        classed = λ k h. subst (λ l. Numbered setup (class_at l k)) (sym layout_is) (sh.classed k (before k h));
        lists = lists;
        listed = listed;
        shown = λ class low high.
            sh.shown class low high
            ∙ (λ i. record {
              pages = get_or (sym layout_is i).shares class 0;
              records = sym (ap (map (record_at (layout t) (rows_of t) memory)) (held class) ∙ map_same (record_at (layout t) (rows_of t) memory) (record_at (layout s) (rows_of s) memory) (sh.lists (held_of class)) (λ k _. read k)) i;
            });
        hashed = λ k h.
            ap (λ c. get_or c k 0) (column_of_rest told (λ row. row.tag.hash) (λ _. refl) (rows_of s) (rows_of t) tells)
            ∙ sh.hashed k (before k h)
            ∙ ap (λ r. fnv r.key) (sym (read k));
      }

-- a row goes from one list to another
module _ (s t : Slab) (i from to : ℕ) (went : Shifted s t i from to) (at : get_or (homes_of s) i 0 ≡ from) (lt : i < length (homes_of s)) where
  pub home_there : get_or (homes_of t) i 0 ≡ to
  home_there = ap (λ h. get_or h i 0) went.homes ∙ get_or-set_same (homes_of s) i to 0 lt

  pub home_off : (k : ℕ) → (k ≡ i → ⊥) → get_or (homes_of t) k 0 ≡ get_or (homes_of s) k 0
  home_off k ne = ap (λ h. get_or h k 0) went.homes ∙ get_or-set_other (homes_of s) i k to 0 ne

  module _ (not_from : NotRecords from) (not_to : NotRecords to) where
    pub held_before : (k : ℕ) → Holds t k → Holds s k
    held_before k h =
        ⊎_elim
        (λ e. absurd (not_to (class_at (layout t) k) (sym home_there ∙ ap (λ n. get_or (homes_of t) n 0) (sym e) ∙ h)))
        (λ ne. sym (home_off k ne) ∙ h ∙ ap (λ l. held_of (class_at l k)) went.layout)
        (cases_eq k i)

    pub held_after : (k : ℕ) → Holds s k → Holds t k
    held_after k h =
        ⊎_elim
        (λ e. absurd (not_from (class_at (layout s) k) (sym at ∙ ap (λ n. get_or (homes_of s) n 0) (sym e) ∙ h)))
        (λ ne. home_off k ne ∙ h ∙ ap (λ l. held_of (class_at l k)) (sym went.layout))
        (cases_eq k i)

    pub shows_shifted : (from ≡ to → ⊥) → rests (rows_of t) ≡ rests (rows_of s) → (setup : Setup) (memory : List ℕ) (ks : List Class) → ShowsRecords setup s memory ks → ShowsRecords setup t memory ks
    shows_shifted ne rests_are setup memory ks sh =
        shows_same setup s memory ks sh t went.layout (column_of_rest rest told (λ _. refl) (rows_of s) (rows_of t) rests_are) held_before
        (shift i from to sh.lists) (went.lists sh.lists sh.listed)
        (λ class. shift_off i from to sh.lists ne (held_of class) (λ e. not_from class (sym e)) (λ e. not_to class (sym e)))

-- WHETHER A CLASS HAS ROOM

-- the records and the chunks of a class are those that rows and pages have
module _ (setup : Setup) (s : Slab) (memory : List ℕ) (ks : List Class) (sh : ShowsRecords setup s memory ks) (class : ℕ) (num : Numbered setup class) where
  pub records_long : length (model.class_at class ks).records ≡ length (sh.lists (held_of class))
  records_long = ap (λ x. length x.records) (sh.shown class num.low num.high) ∙ length-map (sh.lists (held_of class)) (record_at (layout s) (rows_of s) memory)

  pub chunks_all : chunks setup class (model.class_at class ks).pages ≡ get_or (layout s).shares class 0 * get_or (layout s).chunks class 0
  chunks_all =
      ap (λ x. x.pages * plan.chunks_of (plan.size_at setup.sizes class)) (sh.shown class num.low num.high)
      ∙ ap (λ c. get_or (layout s).shares class 0 * c) (sym (sh.cut.chunks class num))

-- a class whose chunks are all free or hold a record has room where a chunk is free
module _ (setup : Setup) (s : Slab) (sound : ∥ Sound s ∥₁) (memory : List ℕ) (ks : List Class) (sh : ShowsRecords setup s memory ks) (none : NoGrant s) (class : ℕ) (num : Numbered setup class) where
  none_granted : length (sh.lists (granted_of class)) ≡ 0
  none_granted =
      ap length (none_in (sh.lists (granted_of class)) (λ k. let h = absent s.classes.all (rows_of s) sh.lists sh.listed k (granted_of class) (omega arith) (none k class) in omega arith))

  -- every chunk of the class is free or holds a record
  pub whole : length (sh.lists (free_of class)) + length (sh.lists (held_of class)) ≡ get_or (layout s).shares class 0 * get_or (layout s).chunks class 0
  whole =
      ⊎_elim
      (λ (few : class < 33).
      let all = counts_whole s sound class few in
      let f = sh.listed.counted class Free few in
      let g = sh.listed.counted class Granted few in
      let h = sh.listed.counted class Held few in
      let n = none_granted in
      omega arith)
      (λ (past : 33 ≤ class).
      let f = ap length (beyond s sound sh.lists sh.listed Free class past) in
      let h = ap length (beyond s sound sh.lists sh.listed Held class past) in
      let none = ap (λ n. get_or (layout s).shares class 0 * n) (classes_few s sound class past) in
      omega arith)
      (cases_lt class 33)

  some_free : (free : List ℕ) (m n : ℕ) → length free + m ≡ n → is_some (foremost free) ≡ ltb m n
  some_free [] m n e = sym (le-ltb m n (omega arith))
  some_free (x ∷ xs) m n e = sym (lt-ltb m n (omega arith))

  pub room_is : is_some (foremost (sh.lists (free_of class))) ≡ ltb (length (model.class_at class ks).records) (chunks setup class (model.class_at class ks).pages)
  room_is =
      some_free (sh.lists (free_of class)) (length (sh.lists (held_of class))) (get_or (layout s).shares class 0 * get_or (layout s).chunks class 0) whole
      ∙ ap (λ m. ltb m (get_or (layout s).shares class 0 * get_or (layout s).chunks class 0)) (sym (records_long setup s memory ks sh class num))
      ∙ ap (λ n. ltb (length (model.class_at class ks).records) n) (sym (chunks_all setup s memory ks sh class num))

-- A CHUNK IS TAKEN

-- the chunk at the front of the free ones is granted, if there is one
module _ (t : Records) (new : Slab) (class : ℕ) (rests_are : rests (rows_of new) ≡ rests (rows_of t.slab)) where
  abbrev Found : Option Grant → Type 0
  Found r = (ls : ℕ → List ℕ) → Lists t.slab ls → option_map (λ grant. grant.row) r ≡ foremost (ls (free_of class))

  module _ (grant : Grant) (found : Found (Some grant)) (taken : Taken t.slab new class grant) where
    was_free : get_or (homes_of t.slab) grant.row 0 ≡ free_of class
    was_free = names t.slab t.sound grant.row (free_of class) (omega arith) (λ ls f. foremost_in (ls (free_of class)) grant.row (found ls f))

    in_range : grant.row < length (homes_of t.slab)
    in_range = within (homes_of t.slab) grant.row (rw was_free (omega arith))

    took_indexed : IndexesAs t new
    took_indexed =
        let before = held_before t.slab new grant.row _ _ taken.shifted was_free in_range (free_not class) (granted_not class) in
        let after = held_after t.slab new grant.row _ _ taken.shifted was_free in_range (free_not class) (granted_not class) in
        reindexed_by t new rests_are before after

    took_only : NoGrant t.slab → OnlyGrant new grant
    took_only none i to h =
        ⊎_elim
        (λ e.
        let there : get_or (homes_of new) i 0 ≡ granted_of class = ap (λ n. get_or (homes_of new) n 0) e ∙ home_there t.slab new grant.row _ _ taken.shifted was_free in_range in
        let of = taken.of in
        (e, omega (arith, there, h)))
        (λ ne. absurd (none i to (sym (home_off t.slab new grant.row _ _ taken.shifted was_free in_range i ne) ∙ h)))
        (cases_eq i grant.row)

    took_shown : (setup : Setup) (memory : List ℕ) (ks : List Class) → ShowsRecords setup t.slab memory ks → ShowsRecords setup new memory ks
    took_shown = shows_shifted t.slab new grant.row _ _ taken.shifted was_free in_range (free_not class) (granted_not class) (λ e. omega arith) rests_are

  pub take_indexed : (r : Option Grant) → Found r → MatchOption r (new ≡ t.slab) (λ grant. Taken t.slab new class grant) → IndexesAs t new
  take_indexed None found same = subst (IndexesAs t) (sym same) t.indexed
  take_indexed (Some grant) found taken = took_indexed grant found taken

  pub take_only : (r : Option Grant) → Found r → MatchOption r (new ≡ t.slab) (λ grant. Taken t.slab new class grant) → NoGrant t.slab → IfSome r (λ grant. OnlyGrant new grant)
  take_only None found same none = tt
  take_only (Some grant) found taken none = took_only grant found taken none

  pub take_shown : (r : Option Grant) → Found r → MatchOption r (new ≡ t.slab) (λ grant. Taken t.slab new class grant) → (setup : Setup) (memory : List ℕ) (ks : List Class) → ShowsRecords setup t.slab memory ks → ShowsRecords setup new memory ks
  take_shown None found same setup memory ks sh = subst (λ x. ShowsRecords setup x memory ks) (sym same) sh
  take_shown (Some grant) found taken setup memory ks sh = took_shown grant found taken setup memory ks sh

  some_mapped : (r : Option Grant) → is_some r ≡ is_some (option_map (λ grant. grant.row) r)
  some_mapped None = refl
  some_mapped (Some grant) = refl

  pub take_room : (r : Option Grant) → Found r → (setup : Setup) (memory : List ℕ) (ks : List Class) → ShowsRecords setup t.slab memory ks → NoGrant t.slab → Numbered setup class → is_some r ≡ ltb (length (model.class_at class ks).records) (chunks setup class (model.class_at class ks).pages)
  take_room r found setup memory ks sh none num = some_mapped r ∙ ap is_some (found sh.lists sh.listed) ∙ room_is setup t.slab t.sound memory ks sh none class num
