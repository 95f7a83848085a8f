-- flush_all empties every class. Assumes nothing.
use Rattle.std.proofs.Common.{◌≡◌, ℕ, suc, ◌≤◌, true, List, [], ◌∷◌, ◌++◌, length, get_or, filter, sym, refl, ap, ◌∙◌, subst, subst₂, arith}
use Rattle.std.specs.List.{flat_map}
use Rattle.std.proofs.lemmas.List.Elements.{filter-append}
use Rattle.std.proofs.lemmas.Bool.{false≢true}
use Rattle.model.specs.Setup.{Setup}
use Rattle.model.specs.Records.{Key, Record, has_key, other_key}
use Rattle.model.specs.Store.{Class, Store, Flushed, bare, everything, records_of, remove, remove_all}
use Rattle.model.specs.Commands.{flush_command}
use Rattle.model.proofs.Held.{On, here, count, count_cons, same_key}
use Rattle.model.proofs.Sound.{Sound, lives}
use Rattle.model.proofs.Same.{without_none}
use Rattle.model.proofs.Turns.{Turned, Becomes, without, emptied, class_count, becomes_without}
use Rattle.model.proofs.Pairs.{Above, Rel, keeps_emptied, rel_becomes}
use Rattle.model.proofs.Keyed.{Covered}

pub no_records : (xs : List Record) → count (λ _. true) xs ≡ 0 → xs ≡ []
no_records [] h = refl
no_records (x ∷ xs) h = absurd (omega arith)

-- a table that holds nothing is as if it had been emptied
nothing_held : (ks : List Class) → flat_map records_of ks ≡ [] → Turned emptied ks ks
nothing_held ks e i =
    let few = class_count (λ _. true) ks i in
    let none = ap (λ xs. count (λ _. true) xs) e in
    λ j. record { pages = (get_or ks i bare).pages; records = no_records (get_or ks i bare).records (omega arith) j }

-- the records of all classes without a key
joined_without : (key : Key) (ks ks' : List Class) → length ks ≡ length ks' → Turned (without key) ks ks' → flat_map records_of ks' ≡ filter (other_key key) (flat_map records_of ks)
joined_without key [] [] long t = refl
joined_without key [] (k ∷ ks) long t = absurd (omega arith)
joined_without key (k ∷ ks) [] long t = absurd (omega arith)
joined_without key (k ∷ ks) (l ∷ ls) long t =
    ap (λ c. records_of c ++ flat_map records_of ls) (t 0)
    ∙ ap (λ xs. filter (other_key key) k.records ++ xs) (joined_without key ks ls (omega arith) (λ i. t (suc i)))
    ∙ sym (filter-append (other_key key) k.records (flat_map records_of ks))

module _ (setup : Setup) (now : ℕ) where
  -- what is left when the first of all records left
  pub rest_is : (r : Record) (rs : List Record) (s : Store) → Sound setup s.classes → r ∷ rs ≡ everything s → Becomes setup (without r.key) s.classes (remove setup now Flushed r s).classes → rs ≡ everything (remove setup now Flushed r s)
  rest_is r rs s sound all d =
      let long = sound.size in
      let longer = d.sound.size in
      let once : count (has_key r.key) (r ∷ rs) ≤ 1 = subst (λ xs. count (has_key r.key) xs ≤ 1) (sym all) (sound.once r.key) in
      let c = count_cons (has_key r.key) r rs in
      let mine = same_key r.key in
      let other : filter (other_key r.key) (r ∷ rs) ≡ rs = let h = without_none r.key rs in grind arith in
      sym other ∙ ap (filter (other_key r.key)) all ∙ sym (joined_without r.key s.classes (remove setup now Flushed r s).classes (omega arith) d.turned)

  becomes_all : (rs : List Record) (s : Store) → Sound setup s.classes → rs ≡ everything s → Becomes setup emptied s.classes (remove_all setup now Flushed rs s).classes
  becomes_all [] s sound all = record { sound = sound; turned = nothing_held s.classes (sym all) }
  becomes_all (r ∷ rs) s sound all =
      let live = lives setup s.classes sound r (subst (On r) all here) in
      let d = becomes_without setup s.classes sound r live in
      let rest = becomes_all rs (remove setup now Flushed r s) d.sound (rest_is r rs s sound all d) in
      record { sound = rest.sound; turned = λ i. rest.turned i ∙ ap emptied (d.turned i) }

  free_all : (rs : List Record) (s : Store) → s.free ≡ (remove_all setup now Flushed rs s).free
  free_all [] s = refl
  free_all (r ∷ rs) s = free_all rs (remove setup now Flushed r s)

  pub covered_flush : (s t : Store) → Above setup s t → Covered setup (flush_command setup now s) (flush_command setup now t)
  covered_flush s t rel =
      record {
        stores = subst₂ (λ m n. Rel setup m n (remove_all setup now Flushed (everything s) s).classes (remove_all setup now Flushed (everything t) t).classes) (free_all (everything s) s) (free_all (everything t) t)
            (rel_becomes rel emptied keeps_emptied (becomes_all (everything s) s rel.small refl) (becomes_all (everything t) t rel.large refl));
        replies = λ h. absurd (false≢true h);
      }
