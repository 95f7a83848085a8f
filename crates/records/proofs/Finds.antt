-- A search by key over rows finds what the reference table holds under the key. Assumes nothing.
use Rattle.std.proofs.Common.{◌≡◌, ℕ, List, [], ◌∷◌, map, Some, None, Option, sym, refl, ap, ◌∙◌, subst}
use Rattle.std.specs.List.{flat_map}
use Rattle.slabs.specs.declared.row.Row.{Row}
use Rattle.slabs.specs.Lists.{held_of}
use Rattle.slabs.specs.Layouts.{Layout}
use Rattle.model.specs.Setup.{Setup}
use Rattle.model.specs.Records.{Key, Record, has_key, class_no}
use Rattle.model.specs.Store.{Class, records_of, first}
use Rattle.model.proofs.Held.{On, here, there, first_on, on_map, key_is}
use Rattle.model.proofs.Sound.{Sound, Numbered, lives, on_class, found}
use Rattle.records.specs.Reading.{record_at, ShowsClasses}

-- a record of a list that is read off rows is that of one of the rows
pub record Read {A B : Type 0} (f : A → B) (xs : List A) (y : B) : Type 0 where
  pub from : A
  pub on : On from xs
  pub is : f from ≡ y

read_later : {A B : Type 0} (f : A → B) (x : A) (xs : List A) (y : B) → Read f xs y → Read f (x ∷ xs) y
read_later f x xs y h = record { from = h.from; on = there h.on; is = h.is }

pub map_on : {A B : Type 0} (f : A → B) (xs : List A) {y : B} → On y (map f xs) → Read f xs y
map_on f [] o = elim o [ ]
map_on f (x ∷ xs) here = record { from = x; on = here; is = refl }
map_on f (x ∷ xs) {y} (there o) = read_later f x xs y (map_on f xs o)

module _ (setup : Setup) (ks : List Class) (sound : Sound setup ks) (l : Layout) (rs : List Row) (pages : List ℕ) (lists : ℕ → List ℕ) (shown : ShowsClasses setup l rs pages lists ks) where
  -- the row of a class holds the record
  pub row_held : (class : ℕ) → Numbered setup class → (i : ℕ) → On i (lists (held_of class)) → On (record_at l rs pages i) (flat_map records_of ks)
  row_held class num i o =
      on_class setup ks sound (record_at l rs pages i) class num.low
      (subst (On (record_at l rs pages i)) (sym (ap (λ k. k.records) (shown class num.low num.high))) (on_map (record_at l rs pages) o))

  pub found_held : (class : ℕ) → Numbered setup class → (i : ℕ) → On i (lists (held_of class)) → first (has_key (record_at l rs pages i).key) (flat_map records_of ks) ≡ Some (record_at l rs pages i)
  found_held class num i o = found setup ks sound (record_at l rs pages i) (row_held class num i o)

  -- and a key that no row has is not held
  pub found_none : (key : Key) → ((class i : ℕ) → Numbered setup class → On i (lists (held_of class)) → (record_at l rs pages i).key ≡ key → ⊥) → first (has_key key) (flat_map records_of ks) ≡ None
  found_none key none = by (first (has_key key) (flat_map records_of ks)) refl
    where
      by : (o : Option Record) → first (has_key key) (flat_map records_of ks) ≡ o → o ≡ None
      by None e = refl
      by (Some r) e =
          let at = first_on (has_key key) (flat_map records_of ks) e in
          let live = lives setup ks sound r at.0 in
          let num = live.numbered in
          let on = subst (On r) (ap (λ k. k.records) (shown (class_no setup r) num.low num.high)) live.on in
          let row = map_on (record_at l rs pages) (lists (held_of (class_no setup r))) on in
          absurd (none (class_no setup r) row.from num row.on (ap (λ x. x.key) row.is ∙ sym (key_is key r.key at.1)))
