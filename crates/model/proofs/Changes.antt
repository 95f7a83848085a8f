-- Every command is a chain of a few small changes, each made only where it may be. Assumes nothing.
use Rattle.std.proofs.Common.{◌≡◌, ℕ, ◌+◌, ◌-◌, ◌<◌, ◌≤◌, Bool, true, false, cond, ltb, length, Some, None, filter, Option, sym, refl, ap, subst, ⊎_elim, add-mul, arith}
use Rattle.std.proofs.lemmas.Bool.{ltb-true, ltb-false, lt-ltb, cases_eq}
use Rattle.policy.specs.Meaning.{Meaning}
use Rattle.model.specs.Setup.{Setup}
use Rattle.model.specs.Records.{Key, Record, dead, has_key, other_key, class_no, moved_at}
use Rattle.model.specs.Store.{Store, Why, Replaced, Deleted, Flushed, Expired, Evicted, Dropped, class_at, everything, held, first, has_room, rear, rear_dead, remove, remove_any, if_dead, find, to_front, use_record, give_page, insert, set_expiry, counted, with_growth, numbered, link, grant, rid, or_else}
use Rattle.model.specs.Promises.{Planned}
use Rattle.model.proofs.Held.{On, length_other, count_other, none_first, key_is, all_on, first_on, first_none, last_on}
use Rattle.plan.specs.Classes.{size_at, chunks_of}
use Rattle.model.proofs.Sound.{Sound, Numbered, Lives, at_same, at_other, count_set, own_key, lives, on_class, sound_page, sound_without, sound_front, sound_aged, sound_insert}
use Rattle.model.proofs.Plans.{chunk_each}

-- why a record may be removed: an expired one is dead, an evicted one is the rearmost of a full class of a table without a free page
abbrev pub Reason : Setup → ℕ → Why → Record → Store → Type 0
Reason setup now Replaced r s = Unit {0}
Reason setup now Deleted r s = Unit {0}
Reason setup now Flushed r s = Unit {0}
Reason setup now Expired r s = dead now r ≡ true
Reason setup now Evicted r s = (has_room setup (class_no setup r) s ≡ false) × (s.free ≡ 0) × (rear (class_no setup r) s ≡ Some r)
Reason setup now Dropped r s = Unit {0}

pub data Change (setup : Setup) : Store → Store → Type 0 where
  asked : {s : Store} (hit : Bool) → Change setup s (counted hit s)
  regrown : {s : Store} (g : ℕ × ℕ) → Change setup s (with_growth g s)
  removed : {s : Store} (now : ℕ) (why : Why) (r : Record) → Lives setup r s.classes → Reason setup now why r s → Change setup s (remove setup now why r s)
  fronted : {s : Store} (now : ℕ) (r : Record) → Lives setup r s.classes → Change setup s (to_front setup now r s)
  gave : {s : Store} (class : ℕ) → Numbered setup class → 0 < s.free → Change setup s (give_page class s)
  stored : {s : Store} (r : Record) → Numbered setup (class_no setup r) → held r.key s ≡ None → has_room setup (class_no setup r) s ≡ true → r.cas ≡ s.cas + 1 → Change setup s (insert setup r s)
  touched : {s : Store} (expiry : Option ℕ) (r : Record) → Lives setup r s.classes → Change setup s (set_expiry setup expiry r s)

pub data Changes (setup : Setup) : Store → Store → Type 0 where
  none : {s : Store} → Changes setup s s
  then : {s t u : Store} → Change setup s t → Changes setup t u → Changes setup s u

pub one : {setup : Setup} {s t : Store} → Change setup s t → Changes setup s t
one c = then c none

pub join : {setup : Setup} {s t u : Store} → Changes setup s t → Changes setup t u → Changes setup s u
join none d = d
join (then c more) d = then c (join more d)

-- SOUNDNESS IS KEPT

pub sound_change : {setup : Setup} {s t : Store} → Sound setup s.classes → Change setup s t → Sound setup t.classes
sound_change sound (asked hit) = sound
sound_change sound (regrown g) = sound
sound_change {setup} {s} sound (removed now why r live reason) = sound_without setup s.classes sound r live
sound_change {setup} {s} sound (fronted now r live) = sound_front setup s.classes sound r (moved_at now r) live refl refl
sound_change {setup} {s} sound (gave class num free) = sound_page setup s.classes sound class num
sound_change {setup} {s} sound (stored r num new room next) =
    sound_insert setup s.classes sound r num (first_none (has_key r.key) (everything s) new) (ltb-true _ _ room)
sound_change {setup} {s} sound (touched expiry r live) = sound_aged setup s.classes sound r expiry live

pub sound_changes : {setup : Setup} {s t : Store} → Sound setup s.classes → Changes setup s t → Sound setup t.classes
sound_changes sound none = sound
sound_changes sound (then c more) = sound_changes (sound_change sound c) more

-- a chain of changes whose next part needs soundness
pub and_then : {setup : Setup} {s t u : Store} → Sound setup s.classes → Changes setup s t → (Sound setup t.classes → Changes setup t u) → Changes setup s u
and_then sound first rest = join first (rest (sound_changes sound first))

-- THE PARTS OF COMMANDS

module _ (setup : Setup) (s : Store) (sound : Sound setup s.classes) where
  -- what is held under a key lives in its class
  pub held_lives : (key : Key) (r : Record) → held key s ≡ Some r → Lives setup r s.classes
  held_lives key r e = lives setup s.classes sound r (first_on (has_key key) (everything s) e).0

  -- a record of a class lives there
  pub class_lives : (class : ℕ) → 1 ≤ class → (r : Record) → On r (class_at class s.classes).records → Lives setup r s.classes
  class_lives class low r o = lives setup s.classes sound r (on_class setup s.classes sound r class low o)

  pub class_home : (class : ℕ) → 1 ≤ class → (r : Record) → On r (class_at class s.classes).records → class_no setup r ≡ class
  class_home class low r o = all_on (λ r. class_no setup r ≡ class) (sound.homes class low) o

  pub find_changes : (now : ℕ) (key : Key) → Changes setup s (find setup now key s)
  find_changes now key = by (held key s) refl
    where
      if : (r : Record) → Lives setup r s.classes → (b : Bool) → dead now r ≡ b → Changes setup s (remove_any setup now Expired (cond b (Some r) None) s)
      if r live true e = one (removed now Expired r live e)
      if r live false e = none

      by : (o : Option Record) → held key s ≡ o → Changes setup s (remove_any setup now Expired (if_dead now o) s)
      by None e = none
      by (Some r) e = if r (held_lives key r e) (dead now r) refl

  pub use_changes : (policy : Meaning) (now : ℕ) (r : Record) → Lives setup r s.classes → Changes setup s (use_record setup policy now r s)
  use_changes policy now r live = by (policy.moving now r.moved)
    where
      by : (b : Bool) → Changes setup s (cond b (to_front setup now r s) s)
      by true = one (fronted now r live)
      by false = none

  -- a record that leaves by request, if there is one
  pub asked_changes : (now : ℕ) (why : Why) → ((r : Record) → Reason setup now why r s) → (key : Key) (o : Option Record) → held key s ≡ o → Changes setup s (remove_any setup now why o s)
  asked_changes now why reason key None e = none
  asked_changes now why reason key (Some r) e = one (removed now why r (held_lives key r e) (reason r))

  -- GRANT

  -- the class has room once one of its records left
  pub room_removed : (now : ℕ) (why : Why) (r : Record) → Lives setup r s.classes → has_room setup (class_no setup r) (remove setup now why r s) ≡ true
  room_removed now why r live =
      let c = class_no setup r in
      let xs = (class_at c s.classes).records in
      let own = own_key setup s.classes sound r live in
      let lost = length_other r.key xs in
      let fit = sound.fits c live.numbered.low in
      let lt : c - 1 < length s.classes = omega (arith, sound.size, live.numbered.low, live.numbered.high) in
      rw (at_same s.classes (record { pages = (class_at c s.classes).pages; records = filter (other_key r.key) xs }) c lt)
      (lt-ltb _ _ (omega arith))

  -- or one page more
  pub room_given : Planned setup → (class : ℕ) → Numbered setup class → has_room setup class (give_page class s) ≡ true
  room_given plan class num =
      let each = chunk_each setup plan class num in
      let fit = sound.fits class num.low in
      let lt : class - 1 < length s.classes = omega (arith, sound.size, num.low, num.high) in
      let more = add-mul (class_at class s.classes).pages 1 (chunks_of (size_at setup.sizes class)) in
      rw (at_same s.classes (record { pages = (class_at class s.classes).pages + 1; records = (class_at class s.classes).records }) class lt)
      (lt-ltb _ _ (omega arith))

  -- what a grant that succeeds leaves
  pub record Granted (class : ℕ) (t : Store) : Type 0 where
    pub changes : Changes setup s t
    pub room : has_room setup class t ≡ true

  abbrev pub Grants : ℕ → Option Store → Type 0
  Grants class None = Unit {0}
  Grants class (Some t) = Granted class t

  grants_else : (class : ℕ) (x y : Option Store) → Grants class x → Grants class y → Grants class (or_else x y)
  grants_else class None y gx gy = gy
  grants_else class (Some t) y gx gy = gx

  grants_rid : (now : ℕ) (why : Why) (class : ℕ) → 1 ≤ class → (o : Option Record) → ((r : Record) → o ≡ Some r → On r (class_at class s.classes).records × Reason setup now why r s) → Grants class (rid setup now why o s)
  grants_rid now why class low None fact = tt
  grants_rid now why class low (Some r) fact =
      let f = fact r refl in
      let live = class_lives class low r f.0 in
      record {
        changes = one (removed now why r live f.1);
        room = subst (λ c. has_room setup c (remove setup now why r s) ≡ true) (class_home class low r f.0) (room_removed now why r live);
      }

  pub granted : Planned setup → (policy : Meaning) (now class : ℕ) → Numbered setup class → Grants class (grant setup policy now class s)
  granted plan policy now class num = by_room (has_room setup class s) refl
    where
      evicted : has_room setup class s ≡ false → s.free ≡ 0 → (r : Record) → rear class s ≡ Some r → On r (class_at class s.classes).records × Reason setup now Evicted r s
      evicted full no_page r e =
          let o = (last_on (λ _. true) (class_at class s.classes).records e).0 in
          let home = class_home class num.low r o in
          (o, (rw home full, no_page, rw home e))

      by_policy : has_room setup class s ≡ false → s.free ≡ 0 → (b : Bool) → Grants class (cond b (rid setup now Evicted (rear class s) s) None)
      by_policy full no_page true = grants_rid now Evicted class num.low (rear class s) (evicted full no_page)
      by_policy full no_page false = tt

      by_page : has_room setup class s ≡ false → (b : Bool) → ltb 0 s.free ≡ b → Grants class (cond b (Some (give_page class s)) (or_else (rid setup now Expired (rear_dead now class s) s) (cond policy.evicting (rid setup now Evicted (rear class s) s) None)))
      by_page full true e = record { changes = one (gave class num (ltb-true _ _ e)); room = room_given plan class num }
      by_page full false e =
          let no_page = ltb-false _ _ e in
          grants_else class (rid setup now Expired (rear_dead now class s) s) _
          (grants_rid now Expired class num.low (rear_dead now class s) (λ r found. last_on (dead now) (class_at class s.classes).records found))
          (by_policy full (omega arith) policy.evicting)

      by_room : (b : Bool) → has_room setup class s ≡ b → Grants class (cond b (Some s) (cond (ltb 0 s.free) (Some (give_page class s)) (or_else (rid setup now Expired (rear_dead now class s) s) (cond policy.evicting (rid setup now Evicted (rear class s) s) None))))
      by_room true e = record { changes = none; room = e }
      by_room false e = by_page e (ltb 0 s.free) refl

  -- LINK

  -- nothing is held under the key of a record that left
  pub gone : (now : ℕ) (why : Why) (r : Record) → Lives setup r s.classes → held r.key (remove setup now why r s) ≡ None
  gone now why r live =
      let c = class_no setup r in
      let xs = (class_at c s.classes).records in
      let left = count_set setup s.classes sound c live.numbered (record { pages = (class_at c s.classes).pages; records = filter (other_key r.key) xs }) r.key in
      let rest = count_other r.key xs in
      let own = own_key setup s.classes sound r live in
      let all = sound.once r.key in
      none_first (has_key r.key) (everything (remove setup now why r s)) (omega arith)

  -- a class that has room keeps it when a record leaves
  room_kept : (now : ℕ) (why : Why) (r : Record) → Lives setup r s.classes → (class : ℕ) → 1 ≤ class → has_room setup class s ≡ true → has_room setup class (remove setup now why r s) ≡ true
  room_kept now why r live class low room =
      ⊎_elim
      (λ same. subst (λ c. has_room setup c (remove setup now why r s) ≡ true) (sym same) (room_removed now why r live))
      (λ ne. rw (at_other s.classes (record { pages = (class_at (class_no setup r) s.classes).pages; records = filter (other_key r.key) (class_at (class_no setup r) s.classes).records }) (class_no setup r) class live.numbered.low low ne) room)
      (cases_eq class (class_no setup r))

  -- the store in which the key of a new record is free
  pub record Cleared (key : Key) (class : ℕ) (t : Store) : Type 0 where
    pub changes : Changes setup s t
    pub free_key : held key t ≡ None
    pub same_cas : s.cas ≡ t.cas
    pub room : has_room setup class t ≡ true

  pub cleared : (now : ℕ) (key : Key) (class : ℕ) → 1 ≤ class → has_room setup class s ≡ true → (o : Option Record) → held key s ≡ o → Cleared key class (remove_any setup now Replaced o s)
  cleared now key class low room None e = record { changes = none; free_key = e; same_cas = refl; room = room }
  cleared now key class low room (Some r) e =
      let live = held_lives key r e in
      let is : key ≡ r.key = key_is key r.key (first_on (has_key key) (everything s) e).1 in
      record {
        changes = one (removed now Replaced r live tt);
        free_key = subst (λ k. held k (remove setup now Replaced r s) ≡ None) (sym is) (gone now Replaced r live);
        same_cas = refl;
        room = room_kept now Replaced r live class low room;
      }

  pub link_changes : (now : ℕ) (r : Record) → Numbered setup (class_no setup r) → has_room setup (class_no setup r) s ≡ true → Changes setup s (link setup now r s)
  link_changes now r num room =
      let c = cleared now r.key (class_no setup r) num.low room (held r.key s) refl in
      join c.changes (then (stored (numbered (s.cas + 1) r) num c.free_key c.room (ap (λ n. n + 1) c.same_cas)) (one (regrown _)))
