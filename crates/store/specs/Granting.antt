-- What a grant comes to.
use Rattle.std.specs.Prelude.{◌≡◌, ℕ, Bool, true, cond, List, Some, None, Ok, Err, MatchBool, Option, Result, nat_lt}
use Rattle.policy.specs.Meaning.{Meaning}
use Rattle.slabs.specs.declared.grant.Grant.{Grant}
use Rattle.model.specs.Setup.{Setup}
use Rattle.model.specs.Store as model
use Rattle.model.specs.Store.{Store, Expired, Evicted, has_room, give_page, rid, rear_dead, rear, or_else}
use Rattle.store.specs.declared.store.RecordStore.{RecordStore}
use Rattle.store.specs.declared.store.granting.NoRoom.{NoRoom}
use Rattle.store.specs.declared.store.granting.NoRoom.TheVariants.{TooLarge, Full}
use Rattle.store.specs.Showing.{Shows}

-- the store in which a full class got room, none where it stays full: a page more, or a record less
abbrev pub with_room : Setup → Bool → ℕ → ℕ → Store → Option Store
with_room setup evicting now class s =
    cond (nat_lt 0 s.free) (Some (give_page class s))
    (or_else (rid setup now Expired (rear_dead now class s) s)
    (cond evicting (rid setup now Evicted (rear class s) s) None))

-- the store in which the class has a chunk for one more record; none where the grant fails
abbrev pub granting : Setup → Bool → ℕ → ℕ → Store → Option Store
granting setup evicting now class s = cond (has_room setup class s) (Some s) (with_room setup evicting now class s)

-- a way to make room was gone, and left this store, in which the class has a free chunk; or nothing was done
abbrev pub Made : Setup → ℕ → ℕ → RecordStore → List ℕ → Store → Option Store → Bool → Type 0
Made setup class n t memory s way made =
    MatchBool made ((s' : Store) × (way ≡ Some s') × (has_room setup class s' ≡ true) × Shows setup n t memory None s') ((way ≡ None) × Shows setup n t memory None s)

-- what a grant comes to, by the class that the record belongs to, where `given` is the store that is left
abbrev pub Comes : Setup → (ℕ → Option Store) → Option ℕ → ℕ → RecordStore → List ℕ → Store → Result Grant NoRoom → Type 0
Comes setup given class n t memory s (Ok grant) =
    (class ≡ Some grant.class) × ((s' : Store) × (given grant.class ≡ Some s') × Shows setup n t memory (Some grant) s')
Comes setup given class n t memory s (Err TooLarge) = (class ≡ None) × Shows setup n t memory None s
Comes setup given class n t memory s (Err Full) = ((c : ℕ) × (class ≡ Some c) × (given c ≡ None)) × Shows setup n t memory None s

abbrev pub Granting : Setup → Meaning → ℕ → Option ℕ → ℕ → RecordStore → List ℕ → Store → Result Grant NoRoom → Type 0
Granting setup policy now class n t memory s r = Comes setup (λ c. model.grant setup policy now c s) class n t memory s r
