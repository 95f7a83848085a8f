-- How the classes shown change with the lists of rows. Assumes nothing.
use Rattle.std.proofs.Common.{◌≡◌, ℕ, zero, suc, ◌≤◌, List, [], ◌∷◌, map, get_or, filter, Option, sym, refl, ap, ◌∙◌, subst, ⊎_elim, arith}
use Rattle.std.proofs.lemmas.Bool.{cases_eq}
use Rattle.recency.specs.Numbers as rows
use Rattle.slabs.specs.declared.row.Row.{Row}
use Rattle.slabs.specs.Rows.{blank}
use Rattle.slabs.specs.Lists.{held_of, free_of, granted_of, shift, to_front}
use Rattle.slabs.specs.Layouts.{Layout, start}
use Rattle.slabs.proofs.Shifts.{shift_off, shift_from, shift_to, front_there, front_off}
use Rattle.model.specs.Setup.{Setup}
use Rattle.model.specs.Records.{Key, Record, has_key, other_key, moved_at, expiring}
use Rattle.model.specs.Store.{Class, class_at, with_records, aged}
use Rattle.model.proofs.Held.{On, count}
use Rattle.model.proofs.Sound.{Sound, Numbered, at_same, at_other, in_range}
use Rattle.records.specs.Reading.{record_of, record_at, shown_class, ShowsClasses}
use Rattle.model.proofs.Truth.{class_few}
use Rattle.records.proofs.Maps.{map_same, map_without, map_aged, on_without}

-- what a row tells of its record: all but its links, its list and its place in its chain
abbrev pub told : Row → Row
told row = record { next = 0; prev = 0; home = 0; chain = 0; key_len = row.key_len; data_len = row.data_len; tag = row.tag }

at_told : (rs : List Row) (i : ℕ) → get_or (map told rs) i blank ≡ told (get_or rs i blank)
at_told [] i = refl
at_told (r ∷ rs) zero = refl
at_told (r ∷ rs) (suc i) = at_told rs i

-- a record that is read by what rows tell
pub same_records : (l : Layout) (rs rs' : List Row) (pages : List ℕ) → map told rs' ≡ map told rs → (i : ℕ) → record_at l rs' pages i ≡ record_at l rs pages i
same_records l rs rs' pages e i =
    let same : told (get_or rs' i blank) ≡ told (get_or rs i blank) = sym (at_told rs' i) ∙ ap (λ c. get_or c i blank) e ∙ at_told rs i in
    ap (λ row. record_of row (start l i) pages) same

-- one class has other records, and the others are as they were
module _ (setup : Setup) (ks : List Class) (sound : Sound setup ks) (class : ℕ) (num : Numbered setup class) where
  pub turned : (l : Layout) (rs rs' : List Row) (pages pages' : List ℕ) (lists lists' : ℕ → List ℕ) (new : List Record) → ShowsClasses setup l rs pages lists ks → map (record_at l rs' pages') (lists' (held_of class)) ≡ new → ((d : ℕ) → (d ≡ class → ⊥) → map (record_at l rs' pages') (lists' (held_of d)) ≡ map (record_at l rs pages) (lists (held_of d))) → ShowsClasses setup l rs' pages' lists' (with_records class new ks)
  turned l rs rs' pages pages' lists lists' new shown mine others d low high =
      ⊎_elim
      (λ same.
      subst (λ n. class_at n (with_records class new ks) ≡ shown_class l rs' pages' lists' n) (sym same)
      (at_same ks _ class (in_range setup ks sound class num) ∙ (λ i. record { pages = ap (λ k. k.pages) (shown class num.low num.high) i; records = sym mine i })))
      (λ ne.
      at_other ks _ class d num.low low ne ∙ shown d low high
      ∙ (λ i. record { pages = get_or l.shares d 0; records = sym (others d ne) i }))
      (cases_eq d class)

  -- the records of the class, as rows and page memory show them
  module _ (l : Layout) (rs : List Row) (pages : List ℕ) (lists : ℕ → List ℕ) (alone : (c d k : ℕ) → On k (lists (held_of c)) → On k (lists (held_of d)) → c ≡ d) (shown : ShowsClasses setup l rs pages lists ks) where
    abbrev ids : List ℕ
    ids = lists (held_of class)

    abbrev read : ℕ → Record
    read = record_at l rs pages

    pub records_are : (class_at class ks).records ≡ map read ids
    records_are = ap (λ k. k.records) (shown class num.low num.high)

    pub keys_once : (key : Key) → count (has_key key) (map read ids) ≤ 1
    keys_once key =
        let few = class_few (has_key key) ks class in
        let all = sound.once key in
        let same = ap (count (has_key key)) records_are in
        omega arith

    -- a record leaves: its chunk is free
    pub shows_removed : (i : ℕ) → On i ids → (rs' : List Row) → map told rs' ≡ map told rs → ShowsClasses setup l rs' pages (shift i (held_of class) (free_of class) lists) (with_records class (filter (other_key (read i).key) (class_at class ks).records) ks)
    shows_removed i at rs' same =
        let read' = record_at l rs' pages in
        let agree : (xs : List ℕ) → map read' xs ≡ map read xs = λ xs. map_same read' read xs (λ k _. same_records l rs rs' pages same k) in
        turned l rs rs' pages pages lists (shift i (held_of class) (free_of class) lists) (filter (other_key (read i).key) (class_at class ks).records) shown
        (ap (map read') (shift_from i (held_of class) (free_of class) lists (λ e. omega arith)) ∙ agree (rows.without i ids) ∙ map_without read i ids at keys_once ∙ ap (filter (other_key (read i).key)) (sym records_are))
        (λ d ne. ap (map read') (shift_off i (held_of class) (free_of class) lists (λ e. omega arith) (held_of d) (λ e. ne (omega arith)) (λ e. omega arith)) ∙ agree (lists (held_of d)))

    -- a record moves to the front of its class, and its row has the second
    pub shows_moved : (i : ℕ) → On i ids → (now : ℕ) (rs' : List Row) → record_at l rs' pages i ≡ moved_at now (read i) → ((k : ℕ) → (k ≡ i → ⊥) → record_at l rs' pages k ≡ read k) → ShowsClasses setup l rs' pages (to_front i (held_of class) lists) (with_records class (moved_at now (read i) ∷ filter (other_key (read i).key) (class_at class ks).records) ks)
    shows_moved i at now rs' here_is other =
        let read' = record_at l rs' pages in
        let others = rows.without i ids in
        turned l rs rs' pages pages lists (to_front i (held_of class) lists) (moved_at now (read i) ∷ filter (other_key (read i).key) (class_at class ks).records) shown
        (ap (map read') (front_there i (held_of class) lists)
        ∙ ap (λ r. r ∷ map read' others) here_is
        ∙ ap (λ xs. moved_at now (read i) ∷ xs) (map_same read' read others (λ k o. other k (on_without o).1) ∙ map_without read i ids at keys_once ∙ ap (filter (other_key (read i).key)) (sym records_are)))
        (λ d ne. ap (map read') (front_off i (held_of class) lists (held_of d) (λ e. ne (omega arith))) ∙ map_same read' read (lists (held_of d)) (λ k o. other k (apart d ne k o)))
      where
        apart : (d : ℕ) → (d ≡ class → ⊥) → (k : ℕ) → On k (lists (held_of d)) → k ≡ i → ⊥
        apart d ne k o e = ne (alone d class i (subst (λ n. On n (lists (held_of d))) e o) at)

    -- a record's expiry is set where it stands
    pub shows_aged : (i : ℕ) → On i ids → (expiry : Option ℕ) (rs' : List Row) → record_at l rs' pages i ≡ expiring expiry (read i) → ((k : ℕ) → (k ≡ i → ⊥) → record_at l rs' pages k ≡ read k) → ShowsClasses setup l rs' pages lists (with_records class (map (aged (read i).key expiry) (class_at class ks).records) ks)
    shows_aged i at expiry rs' here_is other =
        let read' = record_at l rs' pages in
        turned l rs rs' pages pages lists lists (map (aged (read i).key expiry) (class_at class ks).records) shown
        (map_aged read read' i expiry ids at keys_once here_is other ∙ ap (map (aged (read i).key expiry)) (sym records_are))
        (λ d ne. map_same read' read (lists (held_of d)) (λ k o. other k (λ e. ne (alone d class i (subst (λ n. On n (lists (held_of d))) e o) at))))

    -- a granted row becomes the front record of its class, with its bytes written
    pub shows_linked : (i : ℕ) (r : Record) (rs' : List Row) (pages' : List ℕ) → record_at l rs' pages' i ≡ r → ((c k : ℕ) → On k (lists (held_of c)) → record_at l rs' pages' k ≡ read k) → ShowsClasses setup l rs' pages' (shift i (granted_of class) (held_of class) lists) (with_records class (r ∷ (class_at class ks).records) ks)
    shows_linked i r rs' pages' here_is other =
        let read' = record_at l rs' pages' in
        turned l rs rs' pages pages' lists (shift i (granted_of class) (held_of class) lists) (r ∷ (class_at class ks).records) shown
        (ap (map read') (shift_to i (granted_of class) (held_of class) lists (λ e. omega arith))
        ∙ ap (λ x. x ∷ map read' ids) here_is
        ∙ ap (λ xs. r ∷ xs) (map_same read' read ids (λ k o. other class k o) ∙ sym records_are))
        (λ d ne. ap (map read') (shift_off i (granted_of class) (held_of class) lists (λ e. omega arith) (held_of d) (λ e. omega arith) (λ e. ne (omega arith))) ∙ map_same read' read (lists (held_of d)) (λ k o. other d k o))
