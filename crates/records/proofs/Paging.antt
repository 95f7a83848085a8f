-- What is shown when a page is given to a class: the class has one page more. Assumes nothing.
use Rattle.std.proofs.Common.{◌≡◌, ℕ, ◌+◌, ◌*◌, ◌/◌, ◌%◌, ◌<◌, ◌≤◌, Bool, true, false, ◌&&◌, ltb, List, map, length, get_or, MatchBool, sym, refl, ap, ◌∙◌, subst, ⊎_elim, arith}
use mathlib.Core.HLevel.{⊥_prop}
use mathlib.Core.Logic.{∥∥₁_elim}
use lib.ListN.{length-map}
use Rattle.std.proofs.lemmas.List.{get_or-set_same, get_or-set_other}
use Rattle.std.proofs.lemmas.Bool.{cases_eq, cases_lt, ltb-true, lt-ltb, true≢false, and_parts}
use Rattle.recency.proofs.Columns.{column_of_rest}
use Rattle.chained.specs.Fnv.{fnv}
use Rattle.slabs.specs.declared.slab.Slab.{Slab}
use Rattle.slabs.specs.Rows.{blank, rest, rests}
use Rattle.slabs.specs.Lists.{held_of, granted_of, free_of, stocked}
use Rattle.slabs.specs.Layouts.{class_at}
use Rattle.slabs.specs.Slabs.{PageGiven, Holds, rows_of, homes_of, layout}
use Rattle.slabs.proofs.Pages.{classes_few, stock_within, stock_few}
use Rattle.slabs.proofs.Placing.{home_chunk}
use Rattle.slabs.proofs.Shifts.{stocked_off}
use Rattle.slabs.proofs.Stocking.{filled_below, filled_above, filled_there}
use Rattle.model.specs.Setup.{Setup}
use Rattle.model.specs.Store as model
use Rattle.model.specs.Store.{Class}
use Rattle.model.specs.Sound.{Numbered}
use Rattle.model.proofs.Sound.{at_same, at_other, in_range, sound_page}
use Rattle.records.specs.declared.records.Records.{Records}
use Rattle.records.specs.Kept.{GrantedTo}
use Rattle.records.specs.Reading.{record_of, record_at, shown_class, ShowsClasses}
use Rattle.records.specs.Showing.{Cut, HasChunks, ShowsRecords}
use Rattle.records.proofs.Indexing.{IndexesAs, reindexed_by}
use Rattle.records.proofs.Leaving.{names_on}
use Rattle.records.proofs.Maps.{map_same}
use Rattle.records.proofs.Turns.{told, same_records}

module _ (t : Records) (new : Slab) (class : ℕ) (given : PageGiven t.slab new class) (rests_are : rests (rows_of new) ≡ rests (rows_of t.slab)) (some : 0 < get_or (layout t.slab).chunks class 0) (free : t.slab.given < t.slab.pages) where
  abbrev s : Slab
  s = t.slab

  abbrev first : ℕ
  first = 85 * s.given

  abbrev n : ℕ
  n = get_or (layout s).chunks class 0

  few : class < 33
  few = ⊎_elim (λ lt. lt) (λ past. absurd (omega (arith, classes_few s t.sound class past))) (cases_lt class 33)

  -- a row that is in a list is of another page
  other_page : (k : ℕ) → 0 < get_or (homes_of s) k 0 → k / 85 ≡ s.given → ⊥
  other_page k listed at =
      ∥∥₁_elim t.sound ⊥_prop (λ z.
      let chunk = home_chunk (layout s) (homes_of s) z.placed k listed in
      let none : class_at (layout s) k ≡ 0 = ap (λ p. get_or s.owners p 0) at ∙ z.placed.unowned s.given (omega arith) in
      let empty = ap (λ c. get_or (layout s).chunks c 0) none ∙ z.placed.none in
      omega arith)

  home_other : (k : ℕ) → (k / 85 ≡ s.given → ⊥) → get_or (homes_of new) k 0 ≡ get_or (homes_of s) k 0
  home_other k ne =
      let small = stock_few s t.sound class few some free in
      ap (λ h. get_or h k 0) given.homes
      ∙ ⊎_elim (λ below. filled_below first n (free_of class) (homes_of s) k below) (λ above. filled_above first n (free_of class) (homes_of s) k (⊎_elim (λ (inside : k < first + 85). absurd (ne (omega arith))) (λ past. omega arith) (cases_lt k (first + 85)))) (cases_lt k first)

  class_other : (k : ℕ) → (k / 85 ≡ s.given → ⊥) → class_at (layout new) k ≡ class_at (layout s) k
  class_other k ne = ap (λ l. class_at l k) given.layout ∙ get_or-set_other s.owners s.given (k / 85) class 0 ne

  -- a row that is in a list, but for the free chunks of the class, was in it before, in another page
  kept_home : (k h : ℕ) → 0 < h → (h ≡ free_of class → ⊥) → get_or (homes_of new) k 0 ≡ h → (get_or (homes_of s) k 0 ≡ h) × (k / 85 ≡ s.given → ⊥)
  kept_home k h pos ne is =
      ⊎_elim
      (λ (at : k / 85 ≡ s.given).
      absurd
      (⊎_elim
      (λ (inside : k < first + n).
      let there = ap (λ x. get_or x k 0) given.homes ∙ filled_there first n (free_of class) (homes_of s) k (omega (arith, stock_within s t.sound class few some free, length-map (rows_of s) (λ row. row.home))) (omega arith) inside in
      ne (sym is ∙ there))
      (λ (above : first + n ≤ k).
      let there = ap (λ x. get_or x k 0) given.homes ∙ filled_above first n (free_of class) (homes_of s) k above in
      other_page k (omega (arith, there, is)) at)
      (cases_lt k (first + n))))
      (λ off. (sym (home_other k off) ∙ is, off))
      (cases_eq (k / 85) s.given)

  pub page_before : (k : ℕ) → Holds new k → Holds s k
  page_before k h =
      let kept = kept_home k (held_of (class_at (layout new) k)) (omega arith) (λ e. omega arith) h in
      kept.0 ∙ ap held_of (class_other k kept.1)

  page_after : (k : ℕ) → Holds s k → Holds new k
  page_after k h =
      let off = other_page k (rw h (omega arith)) in
      home_other k off ∙ h ∙ ap held_of (sym (class_other k off))

  pub page_indexed : IndexesAs t new
  page_indexed = reindexed_by t new rests_are page_before page_after

  pub page_granted : (i to : ℕ) → GrantedTo new i to → GrantedTo s i to
  page_granted i to h = (kept_home i (granted_of to) (omega arith) (λ e. omega arith) h).0

  module _ (setup : Setup) (memory : List ℕ) (ks : List Class) (sh : ShowsRecords setup s memory ks) (num : Numbered setup class) where
    tells : map told (rows_of new) ≡ map told (rows_of s)
    tells = column_of_rest rest told (λ _. refl) (rows_of s) (rows_of new) rests_are

    read_same : (k : ℕ) → (k / 85 ≡ s.given → ⊥) → record_at (layout new) (rows_of new) memory k ≡ record_at (layout s) (rows_of s) memory k
    read_same k off =
        ap (λ l. record_at l (rows_of new) memory k) given.layout
        ∙ ap (λ c. record_of (get_or (rows_of new) k blank) (k / 85 * 4096 + k % 85 * get_or (layout s).sizes c 0) memory) (get_or-set_other s.owners s.given (k / 85) class 0 off)
        ∙ same_records (layout s) (rows_of s) (rows_of new) memory tells k

    abbrev lists' : ℕ → List ℕ
    lists' = stocked first n (free_of class) sh.lists

    records_same : (d : ℕ) → map (record_at (layout new) (rows_of new) memory) (lists' (held_of d)) ≡ map (record_at (layout s) (rows_of s) memory) (sh.lists (held_of d))
    records_same d =
        ap (map (record_at (layout new) (rows_of new) memory)) (stocked_off first n (free_of class) sh.lists (held_of d) (λ e. omega arith))
        ∙ map_same _ _ (sh.lists (held_of d)) (λ k o. read_same k (other_page k (rw (names_on s sh.lists sh.listed k (held_of d) (omega arith) o) (omega arith))))

    shares_long : class < length (layout s).shares
    shares_long = ⊎_elim (λ lt. lt) (λ past. absurd (∥∥₁_elim t.sound ⊥_prop (λ z. let h = few in omega (arith, z.placed.classes.2)))) (cases_lt class (length (layout s).shares))

    shown_page : ShowsClasses setup (layout new) (rows_of new) memory lists' (model.with_page class ks)
    shown_page d low high =
        ⊎_elim
        (λ (same : d ≡ class).
        subst (λ c. model.class_at c (model.with_page class ks) ≡ shown_class (layout new) (rows_of new) memory lists' c) (sym same)
        (at_same ks _ class (in_range setup ks sh.kept class num)
        ∙ (λ i. record {
          pages = (ap (λ k. k.pages + 1) (sh.shown class num.low num.high) ∙ sym (get_or-set_same (layout s).shares class (get_or (layout s).shares class 0 + 1) 0 shares_long) ∙ ap (λ l. get_or l.shares class 0) (sym given.layout)) i;
          records = (ap (λ k. k.records) (sh.shown class num.low num.high) ∙ sym (records_same class)) i;
        })))
        (λ ne.
        at_other ks _ class d num.low low ne ∙ sh.shown d low high
        ∙ (λ i. record {
          pages = (sym (get_or-set_other (layout s).shares class d (get_or (layout s).shares class 0 + 1) 0 ne) ∙ ap (λ l. get_or l.shares d 0) (sym given.layout)) i;
          records = sym (records_same d) i;
        }))
        (cases_eq d class)

    pub page_shown : ShowsRecords setup new memory (model.with_page class ks)
    page_shown =
        record {
          kept = sound_page setup ks sh.kept class num;
          cut = subst (λ l. Cut setup l) (sym given.layout) (record { sizes = sh.cut.sizes; chunks = sh.cut.chunks; only = sh.cut.only });
          classed = λ k h. subst (Numbered setup) (sym (class_other k (other_page k (rw (page_before k h) (omega arith))))) (sh.classed k (page_before k h));
          lists = lists';
          listed = given.lists sh.lists sh.listed;
          shown = shown_page;
          hashed = λ k h.
              ap (λ c. get_or c k 0) (column_of_rest told (λ row. row.tag.hash) (λ _. refl) (rows_of s) (rows_of new) tells)
              ∙ sh.hashed k (page_before k h)
              ∙ ap (λ r. fnv r.key) (sym (read_same k (other_page k (rw (page_before k h) (omega arith)))));
        }

-- BY THE ANSWER

module _ (t : Records) (new : Slab) (class : ℕ) (rests_are : rests (rows_of new) ≡ rests (rows_of t.slab)) where
  abbrev Answer : Bool → Type 0
  Answer r = r ≡ (ltb t.slab.given t.slab.pages && ltb 0 (get_or (layout t.slab).chunks class 0))

  abbrev Gave : Bool → Type 0
  Gave r = MatchBool r (PageGiven t.slab new class) (new ≡ t.slab)

  a_page : Answer true → t.slab.given < t.slab.pages
  a_page e = ltb-true _ _ (and_parts _ _ (sym e)).0

  a_chunk : Answer true → 0 < get_or (layout t.slab).chunks class 0
  a_chunk e = ltb-true _ _ (and_parts _ _ (sym e)).1

  pub gave_indexed : (r : Bool) → Answer r → Gave r → IndexesAs t new
  gave_indexed true e g = page_indexed t new class g rests_are (a_chunk e) (a_page e)
  gave_indexed false e g = subst (IndexesAs t) (sym g) t.indexed

  pub gave_granted : (r : Bool) → Answer r → Gave r → (i to : ℕ) → GrantedTo new i to → GrantedTo t.slab i to
  gave_granted true e g i to h = page_granted t new class g rests_are (a_chunk e) (a_page e) i to h
  gave_granted false e g i to h = ap (λ s. get_or (homes_of s) i 0) (sym g) ∙ h

  pub gave_shown : (r : Bool) → Answer r → Gave r → (setup : Setup) (memory : List ℕ) (ks : List Class) → ShowsRecords setup t.slab memory ks → Numbered setup class → r ≡ true → ShowsRecords setup new memory (model.with_page class ks)
  gave_shown true e g setup memory ks sh num _ = page_shown t new class g rests_are (a_chunk e) (a_page e) setup memory ks sh num
  gave_shown false e g setup memory ks sh num is = absurd (true≢false (sym is))

  and_true : (a b : Bool) → b ≡ true → (a && b) ≡ a
  and_true true true e = refl
  and_true false true e = refl
  and_true a false e = absurd (true≢false (sym e))

  pub gave_answer : (r : Bool) → Answer r → (setup : Setup) (memory : List ℕ) (ks : List Class) → HasChunks setup → ShowsRecords setup t.slab memory ks → Numbered setup class → r ≡ ltb t.slab.given t.slab.pages
  gave_answer r e setup memory ks has sh num = e ∙ and_true (ltb t.slab.given t.slab.pages) _ (lt-ltb _ _ (rw (sh.cut.chunks class num) (has class num)))
