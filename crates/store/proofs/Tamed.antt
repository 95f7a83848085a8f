-- Counts and numbers stay small, and every record is accounted for. Assumes nothing.
use Rattle.std.proofs.Common.{◌≡◌, ℕ, ◌≤◌, List, length, Option, refl, ap, arith}
use Rattle.model.specs.Setup.{Setup}
use Rattle.model.specs.Records.{Record, class_no}
use Rattle.model.specs.Store.{Store, Counts, Why, Replaced, Deleted, Flushed, Expired, Evicted, Dropped, count_left, remove, to_front, give_page, set_expiry}
use Rattle.model.proofs.Held.{On, here, there}
use Rattle.model.proofs.Sound.{Sound, Numbered, Lives, on_class}
use Rattle.model.proofs.Accounts.{one_more, even_removed, even_fronted, even_given, even_touched}
use Rattle.model.proofs.Accounts as accounts
use Rattle.store.specs.declared.counts.Counts as own
use Rattle.store.specs.Counting.{Leaves, counts_shown}
use Rattle.store.specs.Showing.{Tame}

-- a record that leaves is no key that was asked for
same_asked : (why : Why) (c : Counts) → ((count_left why c).hits ≡ c.hits) × ((count_left why c).misses ≡ c.misses)
same_asked Replaced c = (refl, refl)
same_asked Deleted c = (refl, refl)
same_asked Flushed c = (refl, refl)
same_asked Expired c = (refl, refl)
same_asked Evicted c = (refl, refl)
same_asked Dropped c = (refl, refl)

on_some : {A : Type 0} {x : A} {xs : List A} → On x xs → 1 ≤ length xs
on_some here = omega arith
on_some (there o) = omega arith

module _ (setup : Setup) (n : ℕ) (s : Store) (sound : Sound setup s.classes) (tame : Tame n s) where
  pub tame_removed : (now : ℕ) (why : Why) (r : Record) → Lives setup r s.classes → Tame n (remove setup now why r s)
  tame_removed now why r live =
      let same = same_asked why s.counts in
      let more = one_more why s.counts in
      record {
        linked = omega (arith, more.1, tame.linked);
        numbered = tame.numbered;
        asked = omega (arith, same.0, same.1, tame.asked);
        balance = even_removed setup s sound tame.balance now why r live;
      }

  pub tame_fronted : (now : ℕ) (r : Record) → Lives setup r s.classes → Tame n (to_front setup now r s)
  tame_fronted now r live =
      record { linked = tame.linked; numbered = tame.numbered; asked = tame.asked; balance = even_fronted setup s sound tame.balance now r live }

  pub tame_given : (class : ℕ) → Numbered setup class → Tame n (give_page class s)
  tame_given class num =
      record { linked = tame.linked; numbered = tame.numbered; asked = tame.asked; balance = even_given setup s sound tame.balance class num }

  pub tame_touched : (expiry : Option ℕ) (r : Record) → Lives setup r s.classes → Tame n (set_expiry setup expiry r s)
  tame_touched expiry r live =
      record { linked = tame.linked; numbered = tame.numbered; asked = tame.asked; balance = even_touched setup s sound tame.balance expiry r live }

  -- where a record is held, fewer left than were linked
  pub leaves : (c : own.Counts) → counts_shown c ≡ s.counts → (r : Record) → Lives setup r s.classes → Leaves c
  leaves c shown r live =
      let some = on_some (on_class setup s.classes sound r (class_no setup r) live.numbered.low live.on) in
      omega (arith, ap accounts.gone shown, ap (λ x. x.linked) shown, tame.balance)

pub tame_more : {n m : ℕ} {s : Store} → n ≤ m → Tame n s → Tame m s
tame_more le tame =
    record {
      linked = omega (arith, tame.linked);
      numbered = omega (arith, tame.numbered);
      asked = omega (arith, tame.asked);
      balance = tame.balance;
    }
