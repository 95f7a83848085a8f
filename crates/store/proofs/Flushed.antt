-- A flush, record by record: the first of all records is the front one of the first class that is not empty. Assumes nothing.
use Rattle.std.proofs.Common.{◌≡◌, ℕ, zero, suc, ◌+◌, ◌-◌, ◌<◌, true, List, [], ◌∷◌, ◌++◌, length, get_or, set, Some, None, sym, refl, ap, ◌∙◌, subst, ⊎_elim, arith}
use Rattle.std.specs.List.{flat_map, sum}
use Rattle.std.proofs.lemmas.List.Sums.{sum_by-set}
use Rattle.std.proofs.lemmas.Bool.{cases_eq}
use Rattle.slabs.specs.Lists.{free_of}
use Rattle.slabs.specs.Layouts as slab
use Rattle.slabs.specs.Slabs.{Holds, homes_of, layout}
use Rattle.slabs.specs.declared.slab.Slab.{Slab}
use Rattle.model.specs.Setup.{Setup}
use Rattle.model.specs.Records.{Record, class_no}
use Rattle.model.specs.Store.{Class, Store, Flushed, bare, class_at, records_of, everything, first, remove, remove_all}
use Rattle.model.proofs.Held.{On, here}
use Rattle.model.proofs.Sound.{Sound, Numbered, Lives, at_other, in_range}
use Rattle.model.proofs.Turns.{becomes_without}
use Rattle.model.proofs.Flushes.{rest_is}
use Rattle.model.proofs.Changes.{class_lives, class_home}
use Rattle.records.proofs.Chaining.{within}
use Rattle.store.specs.declared.store.RecordStore.{RecordStore}
use Rattle.store.specs.Showing.{Shows}
use Rattle.store.specs.Flushing.{Emptied, Flushing}

-- where the classes before one are empty, its records come first
comes_first : (ks : List Class) (i : ℕ) → ((j : ℕ) → j < i → (get_or ks j bare).records ≡ []) → i < length ks → (ys : List Record) × (flat_map records_of ks ≡ (get_or ks i bare).records ++ ys)
comes_first [] i none lt = absurd (omega arith)
comes_first (k ∷ ks) zero none lt = (flat_map records_of ks, refl)
comes_first (k ∷ ks) (suc i) none lt =
    let rest = comes_first ks i (λ j l. none (suc j) (omega arith)) (omega arith) in
    (rest.0, ap (λ xs. xs ++ flat_map records_of ks) (none 0 (omega arith)) ∙ rest.1)

-- where all classes are empty, nothing is held
none_held : (ks : List Class) → ((j : ℕ) → j < length ks → (get_or ks j bare).records ≡ []) → flat_map records_of ks ≡ []
none_held [] none = refl
none_held (k ∷ ks) none = ap (λ xs. xs ++ flat_map records_of ks) (none 0 (omega arith)) ∙ none_held ks (λ j l. none (suc j) (omega arith))

pub front_none : (xs : List Record) → first (λ _. true) xs ≡ None → xs ≡ []
front_none [] e = refl
front_none (x ∷ xs) e = let z : ◌≡◌ {A = ℕ} 0 1 = cc in absurd (omega arith)

front_some : (xs : List Record) (r : Record) → first (λ _. true) xs ≡ Some r → (rest : List Record) × (xs ≡ r ∷ rest)
front_some [] r e = let z : ◌≡◌ {A = ℕ} 0 1 = cc in absurd (omega arith)
front_some (x ∷ xs) r e = let same : x ≡ r = cc in (xs, ap (λ y. y ∷ xs) same)

below : (s : Store) (class : ℕ) → Emptied class s → (j : ℕ) → j < class - 1 → (get_or s.classes j bare).records ≡ []
below s class emptied j lt = let back : j + 1 - 1 ≡ j = omega arith in subst (λ n. (get_or s.classes n bare).records ≡ []) back (emptied (j + 1) (omega arith) (omega arith))

-- no class holds a record
pub flushed : {setup : Setup} {n : ℕ} {t : RecordStore} {memory : List ℕ} (at : ℕ) (s : Store) (class : ℕ) → length setup.sizes < class → Flushing setup n t memory at s class → Shows setup n t memory None (remove_all setup at Flushed (everything s) s)
flushed {setup} {n} {t} {memory} at s class past f =
    let left = f.left in
    let none : everything left ≡ [] = none_held left.classes (λ j lt. below left class f.emptied j (omega (arith, f.shown.records.kept.size))) in
    subst (Shows setup n t memory None) (ap (λ xs. remove_all setup at Flushed xs left) (sym none) ∙ f.same) f.shown

-- one more class holds no record
pub one_emptied : {setup : Setup} {n : ℕ} {t : RecordStore} {memory : List ℕ} {at : ℕ} {s : Store} {class : ℕ} (f : Flushing setup n t memory at s class) → (class_at class f.left.classes).records ≡ [] → Flushing setup n t memory at s (class + 1)
one_emptied {class = class} f none =
    record {
      left = f.left;
      same = f.same;
      emptied = λ d low lt. ⊎_elim (λ e. subst (λ n. (class_at n f.left.classes).records ≡ []) (sym e) none) (λ ne. f.emptied d low (omega arith)) (cases_eq d class);
      shown = f.shown;
    }

-- the front record of the class leaves
module _ {setup : Setup} {n : ℕ} {t : RecordStore} {memory : List ℕ} {at : ℕ} {s : Store} {class : ℕ} (f : Flushing setup n t memory at s class) (num : Numbered setup class) (r : Record) (front : first (λ _. true) (class_at class f.left.classes).records ≡ Some r) where
  abbrev left : Store
  left = f.left

  abbrev after : Store
  after = remove setup at Flushed r left

  sound : Sound setup left.classes
  sound = f.shown.records.kept

  split : (rest : List Record) × ((class_at class left.classes).records ≡ r ∷ rest)
  split = front_some (class_at class left.classes).records r front

  on : On r (class_at class left.classes).records
  on = subst (On r) (sym split.1) here

  live : Lives setup r left.classes
  live = class_lives setup left sound class num.low r on

  home : class_no setup r ≡ class
  home = class_home setup left sound class num.low r on

  comes : (rs : List Record) × (r ∷ rs ≡ everything left)
  comes =
      let all = comes_first left.classes (class - 1) (below left class f.emptied) (in_range setup left.classes sound class num) in
      (split.0 ++ all.0, sym (all.1 ∙ ap (λ xs. xs ++ all.0) split.1))

  same : remove_all setup at Flushed (everything after) after ≡ remove_all setup at Flushed (everything s) s
  same =
      let rest = rest_is setup at r comes.0 left sound comes.1 (becomes_without setup left.classes sound r live) in
      ap (λ xs. remove_all setup at Flushed xs after) (sym rest) ∙ ap (λ xs. remove_all setup at Flushed xs left) comes.1 ∙ f.same

  pub flushed_one : (t' : RecordStore) → Shows setup n t' memory None after → Flushing setup n t' memory at s class
  flushed_one t' shown =
      record {
        left = after;
        same = same;
        emptied = λ d low lt.
            ap (λ k. k.records) (at_other left.classes _ (class_no setup r) d live.numbered.low low (λ e. omega (arith, e, home))) ∙ f.emptied d low lt;
        shown = shown;
      }

-- a row that leaves goes to a list of a smaller number
pub lists_lower : (s t : Slab) (i : ℕ) → Holds s i → homes_of t ≡ set (homes_of s) i (free_of (slab.class_at (layout s) i)) → sum (homes_of t) < sum (homes_of s)
lists_lower s t i held freed =
    let lt = within (homes_of s) i (rw held (omega arith)) in
    let all = sum_by-set (λ h. h) (homes_of s) i (free_of (slab.class_at (layout s) i)) 0 lt in
    omega (arith, held, ap sum freed)

-- a flush that goes on from where another came to
pub flushed_on : {setup : Setup} {n : ℕ} {t t' : RecordStore} {memory : List ℕ} {at : ℕ} {s : Store} {class d : ℕ} (f : Flushing setup n t memory at s class) → Flushing setup n t' memory at f.left d → Flushing setup n t' memory at s d
flushed_on f g = record { left = g.left; same = g.same ∙ f.same; emptied = g.emptied; shown = g.shown }
