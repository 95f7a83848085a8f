-- What is shown when a granted chunk is filled: one record more, at the front of its class. Assumes nothing.
use Rattle.std.proofs.Common.{◌≡◌, ℕ, ◌<◌, ◌≤◌, cond, eqb, List, [], ◌∷◌, map, length, get_or, set, None, vec_items, sym, refl, ap, ◌∙◌, subst, ⊎_elim, arith}
use lib.ListN.{length-map}
use Rattle.std.specs.List.{flat_map}
use Rattle.std.proofs.lemmas.List.{get_or-set_same, get_or-set_other, map-set}
use Rattle.std.proofs.lemmas.Bool.{cases_eq, eq-eqb, ne_eqb, cond-true, cond-false}
use Rattle.recency.specs.Numbers as rows
use Rattle.recency.proofs.Columns.{column_of_rest}
use Rattle.chained.specs.Chains as chained
use Rattle.chained.specs.Fnv.{fnv}
use Rattle.chained.proofs.Sound.{holds_as, rehashed}
use Rattle.slabs.specs.declared.class.Stand.TheVariants.{Free, Granted, Held}
use Rattle.slabs.specs.declared.row.Tag.{Tag}
use Rattle.slabs.specs.declared.slab.Slab.{Slab}
use Rattle.slabs.specs.Rows.{blank}
use Rattle.slabs.specs.Lists.{Family, held_of, granted_of, shift}
use Rattle.slabs.specs.Layouts.{class_at}
use Rattle.slabs.specs.Records.{Described, key_of, data_of, tags}
use Rattle.slabs.specs.Slabs.{Shifted, Holds, rows_of, homes_of, layout}
use Rattle.slabs.proofs.Ends.{class_is, owners_few}
use Rattle.slabs.proofs.Families.{present}
use Rattle.slabs.proofs.Pages.{counts_whole}
use Rattle.model.specs.Setup.{Setup, chunks}
use Rattle.model.specs.Records.{has_key, class_no}
use Rattle.model.specs.Store as model
use Rattle.model.specs.Store.{Class}
use Rattle.model.specs.Sound as kept
use Rattle.model.specs.Sound.{Numbered}
use Rattle.model.proofs.Held.{On, first_none}
use Rattle.model.proofs.Sound.{sound_insert}
use Rattle.records.specs.declared.records.Records.{Records}
use Rattle.records.specs.Standing.{Indexed}
use Rattle.records.specs.Kept.{GrantedTo}
use Rattle.records.specs.Reading.{record_at, brought, ShowsClasses}
use Rattle.records.specs.Showing.{Cut, ShowsRecords}
use Rattle.records.proofs.Chaining.{unchained, homes_same, family_same, within}
use Rattle.records.proofs.Granting.{granted_not, home_there, home_off, records_long, chunks_all}
use Rattle.records.proofs.Leaving.{alone, names_on}
use Rattle.records.proofs.Telling.{by_columns, hashes_of}
use Rattle.records.proofs.Turns.{told, same_records, shows_linked}

-- a record by its bytes and its row's tag
pub record_told : (s : Slab) (memory : List ℕ) (i : ℕ) → record_at (layout s) (rows_of s) memory i ≡ brought (key_of s memory i) (data_of s memory i) (get_or (tags (rows_of s)) i blank.tag)
record_told s memory i = by_columns (layout s) (rows_of s) memory i

-- the row i, which was granted, was filled, and then its chain was linked
module _ (t : Records) (i class : ℕ) (granted : get_or (homes_of t.slab) i 0 ≡ granted_of class) (u : Slab) (went : Shifted t.slab u i (granted_of class) (held_of class)) (k b : ℕ) (tag : Tag) (told_of : Described (rows_of t.slab) (rows_of u) i k b tag) where
  abbrev s : Slab
  s = t.slab

  pub in_range : i < length (homes_of s)
  in_range = within (homes_of s) i (rw granted (omega arith))

  pub row_there : i < length (rows_of s)
  row_there = rw (length-map (rows_of s) (λ row. row.home)) at in_range

  was_of : class_at (layout s) i ≡ class
  was_of = class_is s t.sound i class Granted granted

  -- the table does not see the hash of a row that it does not hold
  pub outside : (ix : Indexed t) → rows.count i ix.ids ≡ 0
  outside ix = ix.exact i ∙ cond-false _ 1 0 (ne_eqb _ _ (λ h. granted_not class (class_at (layout s) i) (sym granted ∙ h)))

  hashes_set : map (λ row. row.tag.hash) (rows_of u) ≡ set (map (λ row. row.tag.hash) (rows_of s)) i tag.hash
  hashes_set =
      hashes_of (rows_of u) ∙ ap (map (λ x. x.hash)) told_of.tags_are ∙ map-set (λ x. x.hash) (tags (rows_of s)) i tag
      ∙ ap (λ xs. set xs i tag.hash) (sym (hashes_of (rows_of s)))

  pub still_kept : (ix : Indexed t) → chained.Keeps (λ row. row.chain) (λ row. row.tag.hash) t.table (vec_items t.heads) (rows_of u) ix.ids
  still_kept ix =
      holds_as (chained.size t.table) ix.ids refl told_of.chains_stay hashes_set
      (rehashed (chained.size t.table) (vec_items t.heads) (map (λ row. row.chain) (rows_of s)) (map (λ row. row.tag.hash) (rows_of s)) ix.ids i tag.hash (outside ix) ix.kept)

  module _ (new : Slab) (stays : map unchained (rows_of new) ≡ map unchained (rows_of u)) (classes_stay : new.classes ≡ u.classes) (layout_stays : layout new ≡ layout u) where
    same_homes : homes_of new ≡ homes_of u
    same_homes = homes_same (rows_of u) (rows_of new) stays

    layout_is : layout new ≡ layout s
    layout_is = layout_stays ∙ went.layout

    new_there : get_or (homes_of new) i 0 ≡ held_of class
    new_there = ap (λ h. get_or h i 0) same_homes ∙ home_there s u i _ _ went granted in_range

    new_off : (n : ℕ) → (n ≡ i → ⊥) → get_or (homes_of new) n 0 ≡ get_or (homes_of s) n 0
    new_off n ne = ap (λ h. get_or h n 0) same_homes ∙ home_off s u i _ _ went granted in_range n ne

    new_class : (n : ℕ) → class_at (layout new) n ≡ class_at (layout s) n
    new_class n = ap (λ l. class_at l n) layout_is

    new_holds : Holds new i
    new_holds = new_there ∙ ap held_of (sym (new_class i ∙ was_of))

    -- what is held now is the new record, or was held
    held_before : (n : ℕ) → (n ≡ i → ⊥) → Holds new n → Holds s n
    held_before n ne h = sym (new_off n ne) ∙ h ∙ ap held_of (new_class n)

    pub put_exact : (ix : Indexed t) (n : ℕ) → rows.count n (i ∷ ix.ids) ≡ cond (eqb (get_or (homes_of new) n 0) (held_of (class_at (layout new) n))) 1 0
    put_exact ix n =
        ⊎_elim
        (λ (e : n ≡ i).
        let one : cond {A = ℕ} (eqb n i) 1 0 ≡ 1 = cond-true (eqb n i) 1 0 (eq-eqb n i e) in
        let zero : rows.count n ix.ids ≡ 0 = ap (λ m. rows.count m ix.ids) e ∙ outside ix in
        let there : cond {A = ℕ} (eqb (get_or (homes_of new) n 0) (held_of (class_at (layout new) n))) 1 0 ≡ 1 = cond-true _ 1 0 (eq-eqb _ _ (subst (λ m. Holds new m) (sym e) new_holds)) in
        omega arith)
        (λ ne.
        let none : cond {A = ℕ} (eqb n i) 1 0 ≡ 0 = cond-false (eqb n i) 1 0 (ne_eqb n i ne) in
        let before = ix.exact n in
        let same : cond {A = ℕ} (eqb (get_or (homes_of s) n 0) (held_of (class_at (layout s) n))) 1 0 ≡ cond (eqb (get_or (homes_of new) n 0) (held_of (class_at (layout new) n))) 1 0 =
        ap (λ h. cond (eqb h (held_of (class_at (layout s) n))) 1 0) (sym (new_off n ne)) ∙ ap (λ c. cond (eqb (get_or (homes_of new) n 0) (held_of c)) 1 0) (sym (new_class n)) in
        omega arith)
        (cases_eq n i)

    pub put_granted : (n to : ℕ) → GrantedTo new n to → GrantedTo s n to
    put_granted n to h =
        ⊎_elim
        (λ e. absurd (let there = ap (λ m. get_or (homes_of new) m 0) e ∙ new_there in omega (arith, h, there)))
        (λ ne. sym (new_off n ne) ∙ h)
        (cases_eq n i)

    pub put_spent : (to : ℕ) → GrantedTo new i to → ⊥
    put_spent to h = omega (arith, h, new_there)

    module _ (setup : Setup) (memory memory' : List ℕ) (ks : List Class) (sh : ShowsRecords setup s memory ks) (num : Numbered setup class) (key block : List ℕ) (key_is : key_of u memory' i ≡ key) (block_is : data_of u memory' i ≡ block) (others : (j : ℕ) → Holds s j → (key_of u memory' j ≡ key_of s memory j) × (data_of u memory' j ≡ data_of s memory j)) where
      -- a record by the rows as they are now, and the pages as they were cut
      now_told : (n : ℕ) → record_at (layout s) (rows_of new) memory' n ≡ brought (key_of u memory' n) (data_of u memory' n) (get_or (tags (rows_of u)) n blank.tag)
      now_told n =
          same_records (layout s) (rows_of u) (rows_of new) memory' (column_of_rest unchained told (λ _. refl) (rows_of u) (rows_of new) stays) n
          ∙ ap (λ l. record_at l (rows_of u) memory' n) (sym went.layout) ∙ record_told u memory' n

      here_is : record_at (layout s) (rows_of new) memory' i ≡ brought key block tag
      here_is =
          now_told i
          ∙ ap (λ x. brought x (data_of u memory' i) (get_or (tags (rows_of u)) i blank.tag)) key_is
          ∙ ap (λ x. brought key x (get_or (tags (rows_of u)) i blank.tag)) block_is
          ∙ ap (brought key block) (ap (λ c. get_or c i blank.tag) told_of.tags_are ∙ get_or-set_same (tags (rows_of s)) i tag blank.tag (rw (length-map (rows_of s) (λ row. row.tag)) row_there))

      off_i : (n : ℕ) → Holds s n → n ≡ i → ⊥
      off_i n h e = granted_not class (class_at (layout s) n) (sym granted ∙ ap (λ m. get_or (homes_of s) m 0) (sym e) ∙ h)

      other_is : (n : ℕ) → Holds s n → record_at (layout s) (rows_of new) memory' n ≡ record_at (layout s) (rows_of s) memory n
      other_is n h =
          now_told n
          ∙ ap (λ x. brought x (data_of u memory' n) (get_or (tags (rows_of u)) n blank.tag)) (others n h).0
          ∙ ap (λ x. brought (key_of s memory n) x (get_or (tags (rows_of u)) n blank.tag)) (others n h).1
          ∙ ap (brought (key_of s memory n) (data_of s memory n)) (ap (λ c. get_or c n blank.tag) told_of.tags_are ∙ get_or-set_other (tags (rows_of s)) i n tag blank.tag (off_i n h))
          ∙ sym (record_told s memory n)

      on_holds : (c n : ℕ) → On n (sh.lists (held_of c)) → Holds s n
      on_holds c n o =
          let home = names_on s sh.lists sh.listed n (held_of c) (omega arith) o in
          home ∙ ap held_of (sym (class_is s t.sound n c Held home))

      -- the granted chunk is one that no record of the class takes
      room : length (model.class_at class ks).records < chunks setup class (model.class_at class ks).pages
      room =
          let few : class < 33 = subst (λ c. c < 33) was_of (owners_few s t.sound _) in
          let all = counts_whole s t.sound class few in
          let f = sh.listed.counted class Free few in
          let g = sh.listed.counted class Granted few in
          let h = sh.listed.counted class Held few in
          let one = present s.classes.all (rows_of s) sh.lists sh.listed i (granted_of class) (omega arith) granted in
          let some = some_long (sh.lists (granted_of class)) one in
          omega (arith, records_long setup s memory ks sh class num, chunks_all setup s memory ks sh class num)
        where
          some_long : (xs : List ℕ) → rows.count i xs ≡ 1 → 1 ≤ length xs
          some_long [] e = absurd (omega arith)
          some_long (x ∷ xs) e = omega arith

      pub put_shown : class_no setup (brought key block tag) ≡ class → tag.hash ≡ fnv key → model.first (has_key key) (flat_map model.records_of ks) ≡ None → ShowsRecords setup new memory' (model.with_records class (brought key block tag ∷ (model.class_at class ks).records) ks)
      put_shown home hash_is free =
          let r = brought key block tag in
          record {
            kept = subst (λ c. Numbered setup c → length (model.class_at c ks).records < chunks setup c (model.class_at c ks).pages → kept.Sound setup (model.with_records c (r ∷ (model.class_at c ks).records) ks)) home (λ n m. sound_insert setup ks sh.kept r n (first_none (has_key key) (flat_map model.records_of ks) free) m) num room;
            cut = subst (λ l. Cut setup l) (sym layout_is) sh.cut;
            classed = λ n h. ⊎_elim (λ e. subst (Numbered setup) (sym (ap (class_at (layout new)) e ∙ new_class i ∙ was_of)) num) (λ ne. subst (Numbered setup) (sym (new_class n)) (sh.classed n (held_before n ne h))) (cases_eq n i);
            lists = shift i (granted_of class) (held_of class) sh.lists;
            listed = subst (λ cs. Family cs (rows_of new) (shift i (granted_of class) (held_of class) sh.lists)) (ap (λ cs. cs.all) (sym classes_stay)) (family_same (rows_of u) (rows_of new) stays u.classes.all (shift i (granted_of class) (held_of class) sh.lists) (went.lists sh.lists sh.listed));
            shown = subst (λ l. ShowsClasses setup l (rows_of new) memory' (shift i (granted_of class) (held_of class) sh.lists) (model.with_records class (r ∷ (model.class_at class ks).records) ks)) (sym layout_is)
                (shows_linked setup ks sh.kept class num (layout s) (rows_of s) memory sh.lists (alone s sh.lists sh.listed) sh.shown i r (rows_of new) memory' here_is (λ c n o. other_is n (on_holds c n o)));
            hashed = hashed;
          }
        where
          new_hash : (n : ℕ) → get_or (map (λ row. row.tag.hash) (rows_of new)) n 0 ≡ get_or (set (map (λ row. row.tag.hash) (rows_of s)) i tag.hash) n 0
          new_hash n = ap (λ c. get_or c n 0) (column_of_rest unchained (λ row. row.tag.hash) (λ _. refl) (rows_of u) (rows_of new) stays ∙ hashes_set)

          by_new : (n : ℕ) → (record_at (layout s) (rows_of new) memory' n).key ≡ (record_at (layout new) (rows_of new) memory' n).key
          by_new n = ap (λ l. (record_at l (rows_of new) memory' n).key) (sym layout_is)

          hashed : (n : ℕ) → Holds new n → get_or (map (λ row. row.tag.hash) (rows_of new)) n 0 ≡ fnv (record_at (layout new) (rows_of new) memory' n).key
          hashed n h =
              ⊎_elim
              (λ e.
              subst (λ m. get_or (map (λ row. row.tag.hash) (rows_of new)) m 0 ≡ fnv (record_at (layout new) (rows_of new) memory' m).key) (sym e)
              (new_hash i ∙ get_or-set_same _ i tag.hash 0 (rw (length-map (rows_of s) (λ row. row.tag.hash)) row_there) ∙ hash_is ∙ ap fnv (sym (ap (λ r. r.key) here_is) ∙ by_new i)))
              (λ ne.
              let before = held_before n ne h in
              new_hash n ∙ get_or-set_other _ i n tag.hash 0 ne ∙ sh.hashed n before ∙ ap fnv (sym (ap (λ r. r.key) (other_is n before)) ∙ by_new n))
              (cases_eq n i)
