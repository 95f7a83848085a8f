-- What a find comes to, by what is held under the key. Assumes nothing.
use Rattle.std.proofs.Common.{◌≡◌, ℕ, true, false, Some, None, Option, sym, ap, ◌∙◌, subst}
use Rattle.std.proofs.lemmas.Bool.{cond-true, cond-false}
use Rattle.model.specs.Setup.{Setup}
use Rattle.model.specs.Records.{Key, Record, dead, has_key}
use Rattle.model.specs.Store.{Store, Why, Expired, everything, held, find, if_dead, remove, remove_any}
use Rattle.model.proofs.Held.{first_on, key_is}
use Rattle.model.proofs.Sound.{Sound}
use Rattle.model.proofs.Changes.{held_lives, gone}

-- nothing is held under the key of a record that left
pub none_left : (setup : Setup) (s : Store) → Sound setup s.classes → (now : ℕ) (why : Why) (key : Key) (r : Record) → held key s ≡ Some r → held key (remove setup now why r s) ≡ None
none_left setup s sound now why key r e =
    let is : key ≡ r.key = key_is key r.key (first_on (has_key key) (everything s) e).1 in
    subst (λ k. held k (remove setup now why r s) ≡ None) (sym is) (gone setup s sound now why r (held_lives setup s sound key r e))

module _ (setup : Setup) (now : ℕ) (key : Key) (s : Store) where
  by_held : (o : Option Record) → held key s ≡ o → find setup now key s ≡ remove_any setup now Expired (if_dead now o) s
  by_held o e = ap (λ x. remove_any setup now Expired (if_dead now x) s) e

  pub find_none : held key s ≡ None → find setup now key s ≡ s
  find_none e = by_held None e

  pub find_dead : (r : Record) → held key s ≡ Some r → dead now r ≡ true → find setup now key s ≡ remove setup now Expired r s
  find_dead r e is = by_held (Some r) e ∙ ap (λ o. remove_any setup now Expired o s) (cond-true (dead now r) (Some r) None is)

  pub find_alive : (r : Record) → held key s ≡ Some r → dead now r ≡ false → find setup now key s ≡ s
  find_alive r e is = by_held (Some r) e ∙ ap (λ o. remove_any setup now Expired o s) (cond-false (dead now r) (Some r) None is)
