-- A record, and when it is dead.
use Rattle.std.specs.Prelude.{ℕ, ◌+◌, Bool, false, cond, not, List, length, ℤ, pos, negsuc, Some, None, Option, ◌==◌, nat_le}
use Rattle.std.specs.Str.{bytes_eq}
use Rattle.plan.specs.Need.{need_of}
use Rattle.plan.specs.Classes.{class_of}
use Rattle.model.specs.Setup.{Setup}

abbrev pub Key : Type 0
Key = List ℕ

pub record Record : Type 0 where
  pub key : Key
  pub flags : ℕ
  -- the second at which it is dead; none: never
  pub expiry : Option ℕ
  pub cas : ℕ
  pub block : List ℕ
  -- the second at which it was last stored or moved to the front
  pub moved : ℕ

-- the second at which a record that was stored at `now` with this exptime is dead
abbrev pub expiry_of : ℕ → ℤ → Option ℕ
expiry_of now (pos n) = cond (n == 0) None (cond (nat_le n 2592000) (Some (now + n)) (Some n))
expiry_of now (negsuc n) = Some 0

-- dead: it has an expiry second, and that is not later than now
abbrev pub dead_at : ℕ → Option ℕ → Bool
dead_at now None = false
dead_at now (Some second) = nat_le second now

abbrev pub dead : ℕ → Record → Bool
dead now r = dead_at now r.expiry

abbrev pub has_key : Key → Record → Bool
has_key key r = bytes_eq key r.key

abbrev pub other_key : Key → Record → Bool
other_key key r = not (has_key key r)

-- the number of a class, 0 where there is none
abbrev pub number_or_0 : Option ℕ → ℕ
number_or_0 None = 0
number_or_0 (Some class) = class

-- the class that a record belongs to
abbrev pub class_for : Setup → Key → List ℕ → Option ℕ
class_for setup key block = class_of (need_of (length key) (length block)) setup.sizes

abbrev pub class_no : Setup → Record → ℕ
class_no setup r = number_or_0 (class_for setup r.key r.block)

-- the record with its moved second set
abbrev pub moved_at : ℕ → Record → Record
moved_at now r =
    record { key = r.key; flags = r.flags; expiry = r.expiry; cas = r.cas; block = r.block; moved = now }

-- the record with its expiry set
abbrev pub expiring : Option ℕ → Record → Record
expiring expiry r =
    record { key = r.key; flags = r.flags; expiry = expiry; cas = r.cas; block = r.block; moved = r.moved }
