-- Records that are the same but for their cas numbers: every test and every change of the table treats them alike. Assumes nothing.
use Rattle.std.proofs.Common.{◌≡◌, ℕ, ◌≤◌, Bool, true, false, cond, not, List, [], ◌∷◌, is_some, Some, None, filter, Option, refl, ap, ◌∙◌, arith}
use Rattle.std.specs.Str.{bytes_eq}
use Rattle.model.specs.Setup.{Setup}
use Rattle.model.specs.Records.{Key, Record, dead, dead_at, has_key, other_key, class_no, class_for, number_or_0, moved_at, expiring}
use Rattle.model.specs.Store.{last, or_else, aged, numbered}
use Rattle.model.specs.Commands.{shown}
use Rattle.model.specs.Promises.{Alike}
use Rattle.model.proofs.Held.{count, count_cons, count_some, last_on, same_key}
use Rattle.model.proofs.Within.{shorn}

-- equal but for the cas number
pub record Same (x y : Record) : Type 0 where
  pub key : x.key ≡ y.key
  pub flags : x.flags ≡ y.flags
  pub expiry : x.expiry ≡ y.expiry
  pub block : x.block ≡ y.block
  pub moved : x.moved ≡ y.moved

pub same_class : (setup : Setup) {x y : Record} → Same x y → class_no setup x ≡ class_no setup y
same_class setup s = λ i. number_or_0 (class_for setup (s.key i) (s.block i))

pub same_has : (key : Key) (x y : Record) → Same x y → has_key key x ≡ has_key key y
same_has key x y s = ap (bytes_eq key) s.key

pub same_other : (key : Key) (x y : Record) → Same x y → other_key key x ≡ other_key key y
same_other key x y s = ap not (same_has key x y s)

pub same_dead : (now : ℕ) (x y : Record) → Same x y → dead now x ≡ dead now y
same_dead now x y s = ap (dead_at now) s.expiry

-- the test that everything passes
pub same_any : (x y : Record) → Same x y → true ≡ true
same_any x y s = refl

pub same_moved : (now : ℕ) {x y : Record} → Same x y → Same (moved_at now x) (moved_at now y)
same_moved now s = record { key = s.key; flags = s.flags; expiry = s.expiry; block = s.block; moved = refl }

pub same_expiring : (expiry : Option ℕ) {x y : Record} → Same x y → Same (expiring expiry x) (expiring expiry y)
same_expiring expiry s = record { key = s.key; flags = s.flags; expiry = refl; block = s.block; moved = s.moved }

pub same_numbered : (m n : ℕ) (r : Record) → Same (numbered m r) (numbered n r)
same_numbered m n r = record { key = refl; flags = refl; expiry = refl; block = refl; moved = refl }

aged_at : (b : Bool) (expiry : Option ℕ) {x y : Record} → Same x y → Same (cond b (expiring expiry x) x) (cond b (expiring expiry y) y)
aged_at true expiry s = same_expiring expiry s
aged_at false expiry s = s

pub same_aged : (key : Key) (expiry : Option ℕ) (x y : Record) → Same x y → Same (aged key expiry x) (aged key expiry y)
same_aged key expiry x y s = rw (same_has key x y s) (aged_at (has_key key y) expiry s)

pub same_shown : {x y : Record} → Same x y → Alike (shown x) (shown y)
same_shown s = record { key = s.key; flags = s.flags; block = s.block }

-- without a key that is not there
pub without_none : (key : Key) (xs : List Record) → count (has_key key) xs ≡ 0 → filter (other_key key) xs ≡ xs
without_none key [] h = refl
without_none key (x ∷ xs) h = let rec = without_none key xs in let c = count_cons (has_key key) x xs in grind arith

-- without the last that passes, where its key is there once
shorn_at : (p : Record → Bool) (x : Record) (xs : List Record) (o : Option Record) (b : Bool) (r : Record) → last p xs ≡ o → p x ≡ b
    → (o ≡ Some r → count (has_key r.key) xs ≤ 1 → filter (other_key r.key) xs ≡ shorn p xs)
    → or_else o (cond b (Some x) None) ≡ Some r → count (has_key r.key) (x ∷ xs) ≤ 1
    → filter (other_key r.key) (x ∷ xs) ≡ cond (is_some o) (x ∷ shorn p xs) (cond b xs (x ∷ xs))
shorn_at p x xs (Some z) b r e f rec is few =
    let c = count_cons (has_key r.key) x xs in
    let some = count_some (has_key r.key) (last_on p xs (e ∙ is)).0 (same_key r.key) in
    let h = rec is (omega arith) in
    grind arith
shorn_at p x xs None true r e f rec is few =
    let c = count_cons (has_key r.key) x xs in
    let same : x ≡ r = cc in
    let has : has_key r.key x ≡ true = ap (λ y. has_key r.key y) same ∙ same_key r.key in
    let h = without_none r.key xs in
    grind arith
shorn_at p x xs None false r e f rec is few = let z : ◌≡◌ {A = ℕ} 0 1 = cc in absurd (omega arith)

pub shorn_is : (p : Record → Bool) (r : Record) (xs : List Record) → last p xs ≡ Some r → count (has_key r.key) xs ≤ 1 → filter (other_key r.key) xs ≡ shorn p xs
shorn_is p r [] is few = refl
shorn_is p r (x ∷ xs) is few = shorn_at p x xs (last p xs) (p x) r refl refl (shorn_is p r xs) is few
