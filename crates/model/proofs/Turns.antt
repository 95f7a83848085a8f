-- What becomes of one table's classes when a record leaves or gets another expiry: every class may be said to change,
-- since no class but the record's own has its key. Assumes nothing.
use Rattle.std.proofs.Common.{◌≡◌, ℕ, zero, suc, ◌-◌, ◌≤◌, Bool, List, [], ◌∷◌, map, length, get_or, set, Some, None, filter, Option, sym, refl, ap, ◌∙◌, subst, ⊎_elim, arith, length-append, get_or-set_other, get_or-set_same}
use Rattle.std.specs.List.{flat_map}
use Rattle.std.proofs.lemmas.List.Elements.{filter-append}
use Rattle.std.proofs.lemmas.Bool.{cases_eq}
use Rattle.model.specs.Setup.{Setup}
use Rattle.model.specs.Records.{Key, Record, has_key, other_key, class_no}
use Rattle.model.specs.Store.{Class, Store, Why, bare, class_at, with_records, everything, records_of, held, aged, remove, remove_any}
use Rattle.model.proofs.Held.{count, count_cons, first_on, first_none, key_is}
use Rattle.model.proofs.Sound.{Sound, Lives, in_range, lives, own_key, count_set, sound_without, sound_aged}
use Rattle.model.proofs.Same.{without_none}

-- every class was turned by f
abbrev pub Turned : (Class → Class) → List Class → List Class → Type 0
Turned f ks ks' = (i : ℕ) → get_or ks' i bare ≡ f (get_or ks i bare)

-- a class without the records of a key; with another expiry for them; without any record
abbrev pub without : Key → Class → Class
without key k = record { pages = k.pages; records = filter (other_key key) k.records }

abbrev pub aging : Key → Option ℕ → Class → Class
aging key expiry k = record { pages = k.pages; records = map (aged key expiry) k.records }

abbrev pub emptied : Class → Class
emptied k = record { pages = k.pages; records = [] }

-- every class was turned by f, and the table is still sound
pub record Becomes (setup : Setup) (f : Class → Class) (ks ks' : List Class) : Type 0 where
  pub sound : Sound setup ks'
  pub turned : Turned f ks ks'

-- a class has no more that pass than the table
pub class_count : (p : Record → Bool) (ks : List Class) (i : ℕ) → count p (get_or ks i bare).records ≤ count p (flat_map records_of ks)
class_count p [] i = omega arith
class_count p (k ∷ ks) zero = omega (arith, ap length (filter-append p k.records (flat_map records_of ks)), length-append (filter p k.records) (filter p (flat_map records_of ks)))
class_count p (k ∷ ks) (suc i) = omega (arith, class_count p ks i, ap length (filter-append p k.records (flat_map records_of ks)), length-append (filter p k.records) (filter p (flat_map records_of ks)))

-- a change that leaves a class without that key as it is
abbrev pub Local : Key → (Class → Class) → Type 0
Local key f = (k : Class) → count (has_key key) k.records ≡ 0 → f k ≡ k

pub without_local : (key : Key) → Local key (without key)
without_local key k h = λ i. record { pages = k.pages; records = without_none key k.records h i }

aged_none : (key : Key) (expiry : Option ℕ) (xs : List Record) → count (has_key key) xs ≡ 0 → map (aged key expiry) xs ≡ xs
aged_none key expiry [] h = refl
aged_none key expiry (x ∷ xs) h = let rec = aged_none key expiry xs in let c = count_cons (has_key key) x xs in grind arith

pub aging_local : (key : Key) (expiry : Option ℕ) → Local key (aging key expiry)
aging_local key expiry k h = λ i. record { pages = k.pages; records = aged_none key expiry k.records h i }

-- a key that is not held
pub turned_absent : (key : Key) (f : Class → Class) → Local key f → (ks : List Class) → count (has_key key) (flat_map records_of ks) ≡ 0 → Turned f ks ks
turned_absent key f loc ks none i = let h = class_count (has_key key) ks i in sym (loc (get_or ks i bare) (omega arith))

module _ (setup : Setup) (ks : List Class) (sound : Sound setup ks) where
  pub becomes_absent : (key : Key) (f : Class → Class) → Local key f → count (has_key key) (flat_map records_of ks) ≡ 0 → Becomes setup f ks ks
  becomes_absent key f loc none = record { sound = sound; turned = turned_absent key f loc ks none }

  -- where a record lives, no other class has its key
  elsewhere : (r : Record) → Lives setup r ks → (j : ℕ) → (j ≡ class_no setup r - 1 → ⊥) → count (has_key r.key) (get_or ks j bare).records ≡ 0
  elsewhere r live j ne =
      let own = own_key setup ks sound r live in
      let all = sound.once r.key in
      let left = count_set setup ks sound (class_no setup r) live.numbered bare r.key in
      let part = class_count (has_key r.key) (set ks (class_no setup r - 1) bare) j in
      let same = ap (λ k. count (has_key r.key) k.records) (get_or-set_other ks (class_no setup r - 1) j bare bare ne) in
      omega arith

  turned_local : (r : Record) → Lives setup r ks → (f : Class → Class) → Local r.key f → Turned f ks (set ks (class_no setup r - 1) (f (get_or ks (class_no setup r - 1) bare)))
  turned_local r live f loc i =
      ⊎_elim
      (λ e. subst (λ n. get_or (set ks (class_no setup r - 1) (f (get_or ks (class_no setup r - 1) bare))) n bare ≡ f (get_or ks n bare)) (sym e)
      (get_or-set_same ks (class_no setup r - 1) _ bare (in_range setup ks sound (class_no setup r) live.numbered)))
      (λ ne. get_or-set_other ks (class_no setup r - 1) i _ bare ne ∙ sym (loc (get_or ks i bare) (elsewhere r live i ne)))
      (cases_eq i (class_no setup r - 1))

  pub becomes_without : (r : Record) → Lives setup r ks → Becomes setup (without r.key) ks (with_records (class_no setup r) (filter (other_key r.key) (class_at (class_no setup r) ks).records) ks)
  becomes_without r live = record { sound = sound_without setup ks sound r live; turned = turned_local r live (without r.key) (without_local r.key) }

  pub becomes_aging : (r : Record) (expiry : Option ℕ) → Lives setup r ks → Becomes setup (aging r.key expiry) ks (with_records (class_no setup r) (map (aged r.key expiry) (class_at (class_no setup r) ks).records) ks)
  becomes_aging r expiry live = record { sound = sound_aged setup ks sound r expiry live; turned = turned_local r live (aging r.key expiry) (aging_local r.key expiry) }

-- the record that is held under a key leaves, if there is one
pub becomes_any : (setup : Setup) (s : Store) → Sound setup s.classes → (now : ℕ) (why : Why) (key : Key) (o : Option Record) → held key s ≡ o → Becomes setup (without key) s.classes (remove_any setup now why o s).classes
becomes_any setup s sound now why key None e = becomes_absent setup s.classes sound key (without key) (without_local key) (first_none (has_key key) (everything s) e)
becomes_any setup s sound now why key (Some r) e =
    let at = first_on (has_key key) (everything s) e in
    subst (λ k. Becomes setup (without k) s.classes (remove setup now why r s).classes) (sym (key_is key r.key at.1))
    (becomes_without setup s.classes sound r (lives setup s.classes sound r at.0))
