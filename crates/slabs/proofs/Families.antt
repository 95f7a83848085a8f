-- What the lists of all classes are after one row entered a list, left one, or went to the front of its own.
use Rattle.std.proofs.Common.{◌≡◌, ℕ, ◌+◌, ◌-◌, ◌*◌, ◌<◌, ◌≤◌, Bool, true, false, cond, eqb, List, [], ◌∷◌, map, length, get_or, set, sym, refl, ap, ◌∙◌, subst, ⊎_elim, arith}
use lib.ListN.{length-map}
use Rattle.std.proofs.lemmas.List.{get_or-set_same, get_or-set_other}
use Rattle.std.proofs.lemmas.Bool.{cases_eq, eqb-true, eqb-false, cond_both}
use Rattle.std.proofs.lemmas.Bool.Decides.{nat_tests}
use Rattle.recency.specs.declared.RecencyList.{RecencyList}
use Rattle.recency.specs.Numbers.{count, without, Apart}
use Rattle.recency.proofs.Counts.{count_without}
use Rattle.slabs.specs.declared.row.Row.{Row}
use Rattle.slabs.specs.declared.class.Class.{Class}
use Rattle.slabs.specs.declared.class.Stand.{Stand}
use Rattle.slabs.specs.declared.class.Stand.TheVariants.{Free, Granted, Held}
use Rattle.slabs.specs.Rows.{RowsRead, homes}
use Rattle.slabs.specs.Classes.{place, no_chunks, no_class, at_stand, list_at, count_at, with_share}
use Rattle.slabs.specs.Lists.{list_of, into, out_of, to_front, Family}
use Rattle.slabs.proofs.Reading.{place_few, reads_as}

pub list_num : (stand : Stand) (class : ℕ) → list_of stand class ≡ 3 * class + place stand + 1
list_num Free class = omega arith
list_num Granted class = omega arith
list_num Held class = omega arith

pub list_some : (stand : Stand) (class : ℕ) → 0 < list_of stand class
list_some stand class = let e = list_num stand class in omega arith

-- two classes' lists of one number are one
list_one : (s s' : Stand) (c c' : ℕ) → list_of s c ≡ list_of s' c' → (c ≡ c') × (place s ≡ place s')
list_one s s' c c' e =
    let a = list_num s c in
    let b = list_num s' c' in
    let p = place_few s in
    let q = place_few s' in
    (omega arith, omega arith)

list_same : (s s' : Stand) (c c' : ℕ) → c' ≡ c → place s' ≡ place s → list_of s' c' ≡ list_of s c
list_same s s' c c' e p = let a = list_num s c in let b = list_num s' c' in omega arith

-- one class was written, at one stand
module _ (classes : List Class) (c : ℕ) (cls : Class) (stand : Stand) (long : c < length classes) (kept : (k : ℕ) → (k ≡ place stand → ⊥) → get_or cls.lists k no_chunks ≡ get_or (get_or classes c no_class).lists k no_chunks) where
  part_here : (c' : ℕ) (s' : Stand) → list_of s' c' ≡ list_of stand c → at_stand (get_or (set classes c cls) c' no_class) s' ≡ at_stand cls stand
  part_here c' s' e =
      let one = list_one s' stand c' c e in
      ap (λ k. at_stand (get_or (set classes c cls) k no_class) s') one.0
      ∙ ap (λ k. get_or (get_or (set classes c cls) c no_class).lists k no_chunks) one.1
      ∙ ap (λ x. at_stand x stand) (get_or-set_same classes c cls no_class long)

  part_off : (c' : ℕ) (s' : Stand) → (list_of s' c' ≡ list_of stand c → ⊥) → at_stand (get_or (set classes c cls) c' no_class) s' ≡ at_stand (get_or classes c' no_class) s'
  part_off c' s' ne =
      ⊎_elim
      (λ (e : c' ≡ c).
      ap (λ k. at_stand (get_or (set classes c cls) k no_class) s') e
      ∙ ap (λ x. at_stand x s') (get_or-set_same classes c cls no_class long)
      ∙ kept (place s') (λ p. ne (list_same stand s' c c' e p))
      ∙ ap (λ k. at_stand (get_or classes k no_class) s') (sym e))
      (λ off. ap (λ x. at_stand x s') (get_or-set_other classes c c' cls no_class off))
      (cases_eq c' c)

-- how often a row stands in a list that another entered or left
count_into : (b : Bool) (j i : ℕ) (xs : List ℕ) → count j (cond b (i ∷ xs) xs) ≡ cond b (cond (eqb j i) 1 0) 0 + count j xs
count_into true j i xs = refl
count_into false j i xs = omega arith

count_out : (b : Bool) (j i : ℕ) (xs : List ℕ) → count j (cond b (without i xs) xs) ≡ cond b (cond (eqb j i) 0 (count j xs)) (count j xs)
count_out true j i xs = count_without j i xs
count_out false j i xs = refl

pub length_without : (i : ℕ) (xs : List ℕ) → length (without i xs) + count i xs ≡ length xs
length_without i [] = omega arith
length_without i (x ∷ xs) = go (eqb i x) (length_without i xs)
  where
    go : (b : Bool) → length (without i xs) + count i xs ≡ length xs → length (cond b (without i xs) (x ∷ without i xs)) + (cond b 1 0 + count i xs) ≡ length (x ∷ xs)
    go true h = omega arith
    go false h = omega arith

pub out_shorter : (b : Bool) (i : ℕ) (xs : List ℕ) → length (cond b (without i xs) xs) ≤ length xs
out_shorter true i xs = omega (arith, length_without i xs)
out_shorter false i xs = omega arith

-- what the lists are for a row that names another list, or none
module _ (classes : List Class) (rows : List Row) (ls : ℕ → List ℕ) (f : Family classes rows ls) where
  pub apart : (h g : ℕ) → 0 < h → 0 < g → (g ≡ h → ⊥) → Apart (ls h) (ls g)
  apart h g ph pg ne k = let a = f.named h k ph in let b = f.named g k pg in grind (arith, nat_tests)

  pub absent : (i h : ℕ) → 0 < h → (get_or (homes rows) i 0 ≡ h → ⊥) → count i (ls h) ≡ 0
  absent i h ph ne = let a = f.named h i ph in grind (arith, nat_tests)

  pub present : (i h : ℕ) → 0 < h → get_or (homes rows) i 0 ≡ h → count i (ls h) ≡ 1
  present i h ph e = let a = f.named h i ph in grind (arith, nat_tests)

  apart_entered : (i h g : ℕ) → 0 < h → 0 < g → get_or (homes rows) i 0 ≡ 0 → (g ≡ h → ⊥) → Apart (i ∷ ls h) (ls g)
  apart_entered i h g ph pg z ne k =
      let both = apart h g ph pg ne k in
      let a = absent i h ph (λ e. omega arith) in
      let b = absent i g pg (λ e. omega arith) in
      ⊎_elim
      (λ (e : k ≡ i). let a' = ap (λ x. count x (ls h)) e in let b' = ap (λ x. count x (ls g)) e in grind (arith, nat_tests))
      (λ off. grind (arith, nat_tests))
      (cases_eq k i)

-- one class, at one stand, was written, and the rows with it
module _ (classes : List Class) (rows rows' : List Row) (c : ℕ) (cls : Class) (stand : Stand) (i : ℕ)
    (few : c < 33) (long : length classes ≡ 33) (within : i < length rows)
    (kept : (k : ℕ) → (k ≡ place stand → ⊥) → get_or cls.lists k no_chunks ≡ get_or (get_or classes c no_class).lists k no_chunks)
    (ls : ℕ → List ℕ) (f : Family classes rows ls) where
  -- the lists of another number
  other_reads : (ls' : List ℕ → List ℕ) → ((other : RecencyList) (mine : List ℕ) → RowsRead other rows mine → Apart (ls' (ls (list_of stand c))) mine → RowsRead other rows' mine) → (c' : ℕ) (s' : Stand) → c' < 33 → (list_of s' c' ≡ list_of stand c → ⊥) → Apart (ls' (ls (list_of stand c))) (ls (list_of s' c')) → RowsRead (list_at (set classes c cls) c' s') rows' (ls (list_of s' c'))
  other_reads ls' others c' s' few' ne ap' =
      reads_as rows' rows' (ls (list_of s' c')) (ap (λ x. x.list) (part_off classes c cls stand (omega arith) kept c' s' ne)) refl refl
      (others (list_at classes c' s') (ls (list_of s' c')) (f.reads c' s' few') ap')

  -- the list of this number
  here_reads : (ids : List ℕ) → RowsRead (at_stand cls stand).list rows' ids → (c' : ℕ) (s' : Stand) → list_of s' c' ≡ list_of stand c → RowsRead (list_at (set classes c cls) c' s') rows' ids
  here_reads ids l c' s' e = reads_as rows' rows' ids (ap (λ x. x.list) (part_here classes c cls stand (omega arith) kept c' s' e)) refl refl l

  here_count : (c' : ℕ) (s' : Stand) → list_of s' c' ≡ list_of stand c → count_at (set classes c cls) c' s' ≡ (at_stand cls stand).count
  here_count c' s' e = ap (λ x. x.count) (part_here classes c cls stand (omega arith) kept c' s' e)

  other_count : (c' : ℕ) (s' : Stand) → (list_of s' c' ≡ list_of stand c → ⊥) → count_at (set classes c cls) c' s' ≡ count_at classes c' s'
  other_count c' s' ne = ap (λ x. x.count) (part_off classes c cls stand (omega arith) kept c' s' ne)

  -- the row names another list now
  home_at : (home : ℕ) → homes rows' ≡ set (homes rows) i home → (j : ℕ) → get_or (homes rows') j 0 ≡ cond (eqb j i) home (get_or (homes rows) j 0)
  home_at home e j =
      ap (λ hs. get_or hs j 0) e
      ∙ ⊎_elim
      (λ (same : j ≡ i). ap (λ k. get_or (set (homes rows) i home) k 0) same ∙ get_or-set_same (homes rows) i home 0 (simp length-map within) ∙ (grind (arith, nat_tests)))
      (λ off. get_or-set_other (homes rows) i j home 0 off ∙ (grind (arith, nat_tests)))
      (cases_eq j i)

  pub entered :
      get_or (homes rows) i 0 ≡ 0 →
      (at_stand cls stand).count ≡ count_at classes c stand + 1 →
      ((ids : List ℕ) → RowsRead (list_at classes c stand) rows ids → count i ids ≡ 0 → RowsRead (at_stand cls stand).list rows' (i ∷ ids)) →
      ((ids : List ℕ) → RowsRead (list_at classes c stand) rows ids → (other : RecencyList) (mine : List ℕ) → RowsRead other rows mine → Apart (i ∷ ids) mine → RowsRead other rows' mine) →
      homes rows' ≡ set (homes rows) i (list_of stand c) →
      Family (set classes c cls) rows' (into i (list_of stand c) ls)
  entered z counted listed others home =
      let h = list_of stand c in
      let ph = list_some stand c in
      record {
        named = λ g j pg.
            let into_is = count_into (eqb g h) j i (ls g) in
            let was = f.named g j pg in
            let now_is = home_at h home j in
            let zero_i = absent classes rows ls f i g pg (λ e. omega arith) in
            ⊎_elim
            (λ (e : j ≡ i). let a = ap (λ x. count x (ls g)) e in grind (arith, nat_tests))
            (λ off. grind (arith, nat_tests))
            (cases_eq j i);
        reads = λ c' s' few'.
            cond_both (eqb (list_of s' c') h) (i ∷ ls (list_of s' c')) (ls (list_of s' c')) (λ ids. RowsRead (list_at (set classes c cls) c' s') rows' ids)
            (λ t.
            let e = eqb-true _ _ t in
            here_reads (i ∷ ls (list_of s' c')) (subst (λ g. RowsRead (at_stand cls stand).list rows' (i ∷ ls g)) (sym e) (listed (ls h) (f.reads c stand few) (absent classes rows ls f i h ph (λ e'. omega arith)))) c' s' e)
            (λ t.
            let ne = eqb-false _ _ t in
            other_reads (λ ids. i ∷ ids) (others (ls h) (f.reads c stand few)) c' s' few' ne (apart_entered classes rows ls f i h (list_of s' c') ph (list_some s' c') z ne));
        counted = λ c' s' few'.
            cond_both (eqb (list_of s' c') h) (i ∷ ls (list_of s' c')) (ls (list_of s' c')) (λ ids. count_at (set classes c cls) c' s' ≡ length ids)
            (λ t.
            let e = eqb-true _ _ t in
            let n = here_count c' s' e in
            let m = f.counted c stand few in
            let l = ap (λ g. length (ls g)) e in
            omega arith)
            (λ t. other_count c' s' (eqb-false _ _ t) ∙ f.counted c' s' few');
      }

  pub left :
      get_or (homes rows) i 0 ≡ list_of stand c →
      (at_stand cls stand).count ≡ count_at classes c stand - 1 →
      ((ids : List ℕ) → RowsRead (list_at classes c stand) rows ids → count i ids ≡ 1 → RowsRead (at_stand cls stand).list rows' (without i ids)) →
      ((ids : List ℕ) → RowsRead (list_at classes c stand) rows ids → count i ids ≡ 1 → (other : RecencyList) (mine : List ℕ) → RowsRead other rows mine → Apart ids mine → RowsRead other rows' mine) →
      homes rows' ≡ set (homes rows) i 0 →
      Family (set classes c cls) rows' (out_of i (list_of stand c) ls)
  left here counted listed others home =
      let h = list_of stand c in
      let ph = list_some stand c in
      let one = present classes rows ls f i h ph here in
      record {
        named = λ g j pg.
            let out_is = count_out (eqb g h) j i (ls g) in
            let was = f.named g j pg in
            let now_is = home_at 0 home j in
            ⊎_elim
            (λ (e : j ≡ i). let a = ap (λ x. get_or (homes rows) x 0) e in grind (arith, nat_tests))
            (λ off. grind (arith, nat_tests))
            (cases_eq j i);
        reads = λ c' s' few'.
            cond_both (eqb (list_of s' c') h) (without i (ls (list_of s' c'))) (ls (list_of s' c')) (λ ids. RowsRead (list_at (set classes c cls) c' s') rows' ids)
            (λ t.
            let e = eqb-true _ _ t in
            here_reads (without i (ls (list_of s' c'))) (subst (λ g. RowsRead (at_stand cls stand).list rows' (without i (ls g))) (sym e) (listed (ls h) (f.reads c stand few) one)) c' s' e)
            (λ t.
            let ne = eqb-false _ _ t in
            other_reads (λ ids. ids) (others (ls h) (f.reads c stand few) one) c' s' few' ne (apart classes rows ls f h (list_of s' c') ph (list_some s' c') ne));
        counted = λ c' s' few'.
            cond_both (eqb (list_of s' c') h) (without i (ls (list_of s' c'))) (ls (list_of s' c')) (λ ids. count_at (set classes c cls) c' s' ≡ length ids)
            (λ t.
            let e = eqb-true _ _ t in
            let n = here_count c' s' e in
            let m = f.counted c stand few in
            let l = ap (λ g. length (without i (ls g))) e in
            let k = length_without i (ls h) in
            omega arith)
            (λ t. other_count c' s' (eqb-false _ _ t) ∙ f.counted c' s' few');
      }

  pub refreshed :
      get_or (homes rows) i 0 ≡ list_of stand c →
      (at_stand cls stand).count ≡ count_at classes c stand →
      ((ids : List ℕ) → RowsRead (list_at classes c stand) rows ids → count i ids ≡ 1 → RowsRead (at_stand cls stand).list rows' (i ∷ without i ids)) →
      ((ids : List ℕ) → RowsRead (list_at classes c stand) rows ids → count i ids ≡ 1 → (other : RecencyList) (mine : List ℕ) → RowsRead other rows mine → Apart ids mine → RowsRead other rows' mine) →
      homes rows' ≡ homes rows →
      Family (set classes c cls) rows' (to_front i (list_of stand c) ls)
  refreshed here counted listed others home =
      let h = list_of stand c in
      let ph = list_some stand c in
      let one = present classes rows ls f i h ph here in
      record {
        named = λ g j pg.
            let was = f.named g j pg in
            let now_is = ap (λ hs. get_or hs j 0) home in
            cond_both (eqb g h) (i ∷ without i (ls g)) (ls g) (λ ids. count j ids ≡ cond (eqb (get_or (homes rows') j 0) g) 1 0)
            (λ t.
            let e = eqb-true _ _ t in
            let w = count_without j i (ls g) in
            let o = present classes rows ls f i g pg (here ∙ sym e) in
            ⊎_elim
            (λ (same : j ≡ i). let a = ap (λ x. count x (ls g)) same in grind (arith, nat_tests))
            (λ off. grind (arith, nat_tests))
            (cases_eq j i))
            (λ t. was ∙ ap (λ x. cond (eqb x g) 1 0) (sym now_is));
        reads = λ c' s' few'.
            cond_both (eqb (list_of s' c') h) (i ∷ without i (ls (list_of s' c'))) (ls (list_of s' c')) (λ ids. RowsRead (list_at (set classes c cls) c' s') rows' ids)
            (λ t.
            let e = eqb-true _ _ t in
            here_reads (i ∷ without i (ls (list_of s' c'))) (subst (λ g. RowsRead (at_stand cls stand).list rows' (i ∷ without i (ls g))) (sym e) (listed (ls h) (f.reads c stand few) one)) c' s' e)
            (λ t.
            let ne = eqb-false _ _ t in
            other_reads (λ ids. ids) (others (ls h) (f.reads c stand few) one) c' s' few' ne (apart classes rows ls f h (list_of s' c') ph (list_some s' c') ne));
        counted = λ c' s' few'.
            cond_both (eqb (list_of s' c') h) (i ∷ without i (ls (list_of s' c'))) (ls (list_of s' c')) (λ ids. count_at (set classes c cls) c' s' ≡ length ids)
            (λ t.
            let e = eqb-true _ _ t in
            let n = here_count c' s' e in
            let m = f.counted c stand few in
            let l = ap (λ g. length (without i (ls g))) e in
            let k = length_without i (ls h) in
            omega arith)
            (λ t. other_count c' s' (eqb-false _ _ t) ∙ f.counted c' s' few');
      }

-- rows with the same links in the same lists
pub family_as : (classes : List Class) (rows rows' : List Row) (ls : ℕ → List ℕ) → map (λ r. r.next) rows' ≡ map (λ r. r.next) rows → map (λ r. r.prev) rows' ≡ map (λ r. r.prev) rows → homes rows' ≡ homes rows → Family classes rows ls → Family classes rows' ls
family_as classes rows rows' ls n p h f =
    record {
      named = λ g i pg. f.named g i pg ∙ ap (λ hs. cond (eqb (get_or hs i 0) g) 1 0) (sym h);
      reads = λ c stand few. reads_as rows rows' (ls (list_of stand c)) refl n p (f.reads c stand few);
      counted = f.counted;
    }

-- a class that has another number of pages
module _ (classes : List Class) (class pages : ℕ) (lt : class < length classes) where
  share_part : {X : Type 0} (g : Class → X) → g (with_share (get_or classes class no_class) pages) ≡ g (get_or classes class no_class) → (c : ℕ) → g (get_or (set classes class (with_share (get_or classes class no_class) pages)) c no_class) ≡ g (get_or classes c no_class)
  share_part g same c =
      ⊎_elim
      (λ (e : c ≡ class).
      ap (λ k. g (get_or (set classes class (with_share (get_or classes class no_class) pages)) k no_class)) e
      ∙ ap g (get_or-set_same classes class (with_share (get_or classes class no_class) pages) no_class lt)
      ∙ same
      ∙ ap (λ k. g (get_or classes k no_class)) (sym e))
      (λ off. ap g (get_or-set_other classes class c (with_share (get_or classes class no_class) pages) no_class off))
      (cases_eq c class)

  pub family_share : (rows : List Row) (ls : ℕ → List ℕ) → Family classes rows ls → Family (set classes class (with_share (get_or classes class no_class) pages)) rows ls
  family_share rows ls f =
      record {
        named = f.named;
        reads = λ c stand few. reads_as rows rows (ls (list_of stand c)) (share_part (λ x. (at_stand x stand).list) refl c) refl refl (f.reads c stand few);
        counted = λ c stand few. share_part (λ x. (at_stand x stand).count) refl c ∙ f.counted c stand few;
      }
