-- What is shown once a record left. Assumes nothing.
use Rattle.std.proofs.Common.{◌≡◌, ℕ, ◌<◌, eqb, List, map, length, get_or, set, filter, sym, refl, ap, ◌∙◌, subst, ⊎_elim, arith}
use Rattle.std.proofs.lemmas.List.{get_or-set_same, get_or-set_other}
use Rattle.std.proofs.lemmas.Bool.{cases_eq, eq-eqb, ne_eqb, cond-true, cond-false}
use Rattle.recency.proofs.Columns.{column_of_rest}
use Rattle.chained.specs.Fnv.{fnv}
use Rattle.slabs.specs.declared.slab.Slab.{Slab}
use Rattle.slabs.specs.Lists.{held_of, free_of, shift}
use Rattle.slabs.specs.Layouts.{class_at}
use Rattle.slabs.specs.Slabs.{Lists, Holds, rows_of, homes_of, layout}
use Rattle.model.specs.Setup.{Setup}
use Rattle.model.specs.Records.{Record, class_no, other_key}
use Rattle.model.specs.Store as model
use Rattle.model.specs.Store.{Class}
use Rattle.model.proofs.Held.{On, on_map, all_on}
use Rattle.model.proofs.Sound.{Numbered, Lives, sound_without}
use Rattle.records.specs.Reading.{record_at, without_record, ShowsClasses}
use Rattle.records.specs.Showing.{Cut, ShowsRecords}
use Rattle.records.proofs.Maps.{on_counted, counted_on}
use Rattle.records.proofs.Turns.{told, same_records, records_are, shows_removed}

-- ROWS AND LISTS

module _ (s : Slab) (lists : ℕ → List ℕ) (listed : Lists s lists) where
  -- a row is on the list that it names, and on no other
  pub on_named : (i h : ℕ) → 0 < h → get_or (homes_of s) i 0 ≡ h → On i (lists h)
  on_named i h pos e =
      on_counted i (lists h) (let n = listed.named h i pos ∙ cond-true (eqb (get_or (homes_of s) i 0) h) 1 0 (eq-eqb _ _ e) in omega arith)

  pub names_on : (i h : ℕ) → 0 < h → On i (lists h) → get_or (homes_of s) i 0 ≡ h
  names_on i h pos o =
      ⊎_elim (λ e. e)
      (λ ne. let n = listed.named h i pos ∙ cond-false (eqb (get_or (homes_of s) i 0) h) 1 0 (ne_eqb _ _ ne) in let c = counted_on o in absurd (omega arith))
      (cases_eq (get_or (homes_of s) i 0) h)

  pub alone : (c d k : ℕ) → On k (lists (held_of c)) → On k (lists (held_of d)) → c ≡ d
  alone c d k oc od =
      let a = names_on k (held_of c) (omega arith) oc in let b = names_on k (held_of d) (omega arith) od in omega arith

-- A RECORD THAT IS HELD

module _ (setup : Setup) (s : Slab) (memory : List ℕ) (ks : List Class) (sh : ShowsRecords setup s memory ks) (i : ℕ) (held : Holds s i) where
  abbrev pub class : ℕ
  class = class_at (layout s) i

  abbrev pub record_here : Record
  record_here = record_at (layout s) (rows_of s) memory i

  pub num : Numbered setup class
  num = sh.classed i held

  pub row_on : On i (sh.lists (held_of class))
  row_on = on_named s sh.lists sh.listed i (held_of class) (omega arith) held

  pub record_on : On record_here (model.class_at class ks).records
  record_on =
      subst (On record_here) (sym (records_are setup ks sh.kept class num (layout s) (rows_of s) memory sh.lists (alone s sh.lists sh.listed) sh.shown))
      (on_map (record_at (layout s) (rows_of s) memory) row_on)

  pub home : class_no setup record_here ≡ class
  home = all_on (λ r. class_no setup r ≡ class) (sh.kept.homes class num.low) record_on

  pub lives_here : Lives setup record_here ks
  lives_here = subst (λ c. (Numbered setup c → On record_here (model.class_at c ks).records → Lives setup record_here ks)) home (λ n o. record { numbered = n; on = o }) num record_on

  module _ (t : Slab) (homes_are : homes_of t ≡ set (homes_of s) i (free_of class)) (layout_is : layout t ≡ layout s) (lt : i < length (homes_of s)) where
    -- a record that is held afterwards is another one, and was held before
    pub held_before : (k : ℕ) → Holds t k → (k ≡ i → ⊥) × Holds s k
    held_before k h = (ne, home_before)
      where
        ne : k ≡ i → ⊥
        ne e =
            let free : get_or (homes_of t) k 0 ≡ free_of class = ap (λ x. get_or x k 0) homes_are ∙ ap (λ n. get_or (set (homes_of s) i (free_of class)) n 0) e ∙ get_or-set_same (homes_of s) i (free_of class) 0 lt in
            omega (arith, h)

        home_before : get_or (homes_of s) k 0 ≡ held_of (class_at (layout s) k)
        home_before =
            sym (ap (λ x. get_or x k 0) homes_are ∙ get_or-set_other (homes_of s) i k (free_of class) 0 ne) ∙ h ∙ ap (λ l. held_of (class_at l k)) layout_is

    pub shows_left : Lists t (shift i (held_of class) (free_of class) sh.lists) → map told (rows_of t) ≡ map told (rows_of s) → ShowsRecords setup t memory (without_record setup record_here ks)
    shows_left listed tells =
        let removed = shows_removed setup ks sh.kept class num (layout s) (rows_of s) memory sh.lists (alone s sh.lists sh.listed) sh.shown i row_on (rows_of t) tells in
        record {
          kept = sound_without setup ks sh.kept record_here lives_here;
          cut = subst (λ l. Cut setup l) (sym layout_is) sh.cut;
          classed = λ k h. subst (λ l. Numbered setup (class_at l k)) (sym layout_is) (sh.classed k (held_before k h).1);
          lists = shift i (held_of class) (free_of class) sh.lists;
          listed = listed;
          shown = subst (λ l. ShowsClasses setup l (rows_of t) memory (shift i (held_of class) (free_of class) sh.lists) (without_record setup record_here ks)) (sym layout_is)
              (subst (λ c. ShowsClasses setup (layout s) (rows_of t) memory (shift i (held_of class) (free_of class) sh.lists) (model.with_records c (filter (other_key record_here.key) (model.class_at c ks).records) ks)) (sym home) removed);
          hashed = λ k h.
              ap (λ c. get_or c k 0) (column_of_rest told (λ row. row.tag.hash) (λ _. refl) (rows_of s) (rows_of t) tells)
              ∙ sh.hashed k (held_before k h).1
              ∙ ap (λ r. fnv r.key) (sym (same_records (layout s) (rows_of s) (rows_of t) memory tells k) ∙ ap (λ l. record_at l (rows_of t) memory k) (sym layout_is));
        }
