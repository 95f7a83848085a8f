-- get, delete and touch keep the larger table above the smaller, and answer as is promised. Assumes nothing.
use Rattle.std.proofs.Common.{◌≡◌, ℕ, Bool, List, [], ◌∷◌, ℤ, Some, None, Option, refl, subst}
use Rattle.std.proofs.lemmas.Bool.{false≢true}
use Rattle.policy.specs.Meaning.{Meaning}
use Rattle.replies.specs.Reply.{Shown}
use Rattle.model.specs.Setup.{Setup}
use Rattle.model.specs.Records.{Key, Record, has_key, expiry_of, expiring}
use Rattle.model.specs.Store.{Store, Deleted, everything, held, find, set_expiry}
use Rattle.model.specs.Commands.{Told, Asked, hit_or_miss, ask, ask_all, more_found, get_command, delete_found, delete_command, touch_found, touch_command}
use Rattle.model.specs.Calls.{Replied}
use Rattle.model.specs.Promises.{Planned, Alike, Within, done, both, over, CoversReply}
use Rattle.model.proofs.Held.{count, first_on, first_none, key_is}
use Rattle.model.proofs.Changes.{held_lives}
use Rattle.model.proofs.Chains.{aged_lives}
use Rattle.model.proofs.Within.{Met}
use Rattle.model.proofs.Same.{Same, same_shown, same_expiring}
use Rattle.model.proofs.Turns.{Becomes, aging, aging_local, becomes_absent, becomes_aging}
use Rattle.model.proofs.Pairs.{Above, keeps_aging, rel_becomes, met}
use Rattle.model.proofs.Uses.{above_without, above_find, use_both, use_more}

-- a command in the smaller table and in the larger
pub record Covered (setup : Setup) (a b : Told) : Type 0 where
  pub stores : Above setup a.store b.store
  pub replies : CoversReply a.reply (Replied b.reply)

-- a key that is not held is not the key of a record that is held
not_held : (key : Key) (s t : Store) (y : Record) → held key s ≡ None → held key t ≡ Some y → count (has_key y.key) (everything s) ≡ 0
not_held key s t y e f = subst (λ k. count (has_key k) (everything s) ≡ 0) (key_is key y.key (first_on (has_key key) (everything t) f).1) (first_none (has_key key) (everything s) e)

-- GET

-- one or more keys asked for in both
record Asks (setup : Setup) (a b : Asked) : Type 0 where
  stores : Above setup a.store b.store
  found : Within Alike a.found b.found

asks_more : {setup : Setup} (a b : Asked) {xs ys : List Shown} → Within Alike xs ys → Asks setup a b → Asks setup (more_found xs a) (more_found ys b)
asks_more a b done h = h
asks_more a b (both r w) h = record { stores = h.stores; found = both r (asks_more a b w h).found }
asks_more a b (over {xs = []} w) h = record { stores = h.stores; found = over (asks_more a b w h).found }
asks_more a b (over {xs = x ∷ xs} w) h = record { stores = h.stores; found = over (asks_more a b w h).found }

module _ (setup : Setup) (policy : Meaning) (now : ℕ) where
  asked_by : (key : Key) (s t : Store) → Above setup s t → (o q : Option Record) → held key s ≡ o → held key t ≡ q → Met Same o q → Asks setup (hit_or_miss setup policy now o s) (hit_or_miss setup policy now q t)
  asked_by key s t rel None None e f m = record { stores = rel; found = done }
  asked_by key s t rel None (Some y) e f m =
      record {
        stores = use_more setup now s t rel policy y (not_held key s t y e f) (held_lives setup t rel.large key y f);
        found = over done;
      }
  asked_by key s t rel (Some x) None e f m = absurd m
  asked_by key s t rel (Some x) (Some y) e f m =
      record {
        stores = use_both setup now s t rel policy x y m (held_lives setup s rel.small key x e) (held_lives setup t rel.large key y f);
        found = both (same_shown m) done;
      }

  asked : (key : Key) (s t : Store) → Above setup s t → Asks setup (ask setup policy now key s) (ask setup policy now key t)
  asked key s t rel =
      let f = find setup now key s in
      let g = find setup now key t in
      let found = above_find setup now key s t rel in
      asked_by key f g found (held key f) (held key g) refl refl (met f g found key)

  asked_all : (keys : List Key) (s t : Store) → Above setup s t → Asks setup (ask_all setup policy now keys s) (ask_all setup policy now keys t)
  asked_all [] s t rel = record { stores = rel; found = done }
  asked_all (key ∷ keys) s t rel =
      let here = asked key s t rel in
      asks_more _ _ here.found (asked_all keys _ _ here.stores)

  pub covered_get : (numbered : Bool) (keys : List Key) (s t : Store) → Above setup s t → Covered setup (get_command setup policy now numbered keys s) (get_command setup policy now numbered keys t)
  covered_get numbered keys s t rel =
      let all = asked_all keys s t rel in
      record { stores = all.stores; replies = ((ask_all setup policy now keys t).found, refl, all.found) }

-- DELETE

module _ (setup : Setup) (now : ℕ) (key : Key) where
  deleted_by : (s t : Store) → Above setup s t → (o q : Option Record) → held key s ≡ o → held key t ≡ q → Met Same o q → Covered setup (delete_found setup now o s) (delete_found setup now q t)
  deleted_by s t rel None None e f m = record { stores = rel; replies = λ h. absurd (false≢true h) }
  deleted_by s t rel None (Some y) e f m = record { stores = above_without setup now key s t rel Deleted Deleted None (Some y) e f; replies = λ h. absurd (false≢true h) }
  deleted_by s t rel (Some x) None e f m = absurd m
  deleted_by s t rel (Some x) (Some y) e f m = record { stores = above_without setup now key s t rel Deleted Deleted (Some x) (Some y) e f; replies = λ h. refl }

  pub covered_delete : (s t : Store) → Above setup s t → Covered setup (delete_command setup now key s) (delete_command setup now key t)
  covered_delete s t rel =
      let f = find setup now key s in
      let g = find setup now key t in
      let found = above_find setup now key s t rel in
      deleted_by f g found (held key f) (held key g) refl refl (met f g found key)

-- TOUCH

module _ (setup : Setup) (plan : Planned setup) (policy : Meaning) (now : ℕ) (key : Key) (expiry : Option ℕ) (s t : Store) (rel : Above setup s t) where
  -- the larger sets the expiry of a record that the smaller does not hold
  aged_more : (y : Record) → count (has_key y.key) (everything s) ≡ 0 → held key t ≡ Some y → Above setup s (set_expiry setup expiry y t)
  aged_more y none f =
      rel_becomes rel (aging y.key expiry) (keeps_aging y.key expiry)
      (becomes_absent setup s.classes rel.small y.key (aging y.key expiry) (aging_local y.key expiry) none)
      (becomes_aging setup t.classes rel.large y expiry (held_lives setup t rel.large key y f))

  aged_both : (x y : Record) → Same x y → held key s ≡ Some x → held key t ≡ Some y → Above setup (set_expiry setup expiry x s) (set_expiry setup expiry y t)
  aged_both x y same e f =
      rel_becomes rel (aging y.key expiry) (keeps_aging y.key expiry)
      (subst (λ k. Becomes setup (aging k expiry) s.classes (set_expiry setup expiry x s).classes) same.key (becomes_aging setup s.classes rel.small x expiry (held_lives setup s rel.small key x e)))
      (becomes_aging setup t.classes rel.large y expiry (held_lives setup t rel.large key y f))

  touched_by : (o q : Option Record) → held key s ≡ o → held key t ≡ q → Met Same o q → Covered setup (touch_found setup policy now expiry o s) (touch_found setup policy now expiry q t)
  touched_by None None e f m = record { stores = rel; replies = λ h. absurd (false≢true h) }
  touched_by None (Some y) e f m =
      let none = not_held key s t y e f in
      record {
        stores = use_more setup now s (set_expiry setup expiry y t) (aged_more y none f) policy (expiring expiry y) none
            (aged_lives setup plan policy now expiry y t rel.large (held_lives setup t rel.large key y f));
        replies = λ h. absurd (false≢true h);
      }
  touched_by (Some x) None e f m = absurd m
  touched_by (Some x) (Some y) e f m =
      record {
        stores = use_both setup now (set_expiry setup expiry x s) (set_expiry setup expiry y t) (aged_both x y m e f) policy (expiring expiry x) (expiring expiry y) (same_expiring expiry m)
            (aged_lives setup plan policy now expiry x s rel.small (held_lives setup s rel.small key x e))
            (aged_lives setup plan policy now expiry y t rel.large (held_lives setup t rel.large key y f));
        replies = λ h. refl;
      }

pub covered_touch : (setup : Setup) → Planned setup → (policy : Meaning) (now : ℕ) (key : Key) (exptime : ℤ) (s t : Store) → Above setup s t → Covered setup (touch_command setup policy now key exptime s) (touch_command setup policy now key exptime t)
covered_touch setup plan policy now key exptime s t rel =
    let f = find setup now key s in
    let g = find setup now key t in
    let found = above_find setup now key s t rel in
    touched_by setup plan policy now key (expiry_of now exptime) f g found (held key f) (held key g) refl refl (met f g found key)
