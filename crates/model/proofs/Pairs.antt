-- Two tables side by side, a smaller and a larger: what ties them, and the changes of their classes that keep it. Assumes nothing.
use Rattle.std.proofs.Common.{◌≡◌, ℕ, suc, ◌+◌, ◌*◌, ◌<◌, ◌≤◌, List, [], ◌∷◌, length, get_or, set, Option, sym, subst, subst₂, ⊎_elim, arith, get_or-set_other, get_or-set_same}
use Rattle.std.specs.List.{flat_map}
use Rattle.std.proofs.lemmas.List.{length-map}
use Rattle.std.proofs.lemmas.Bool.{cases_eq}
use Rattle.plan.specs.Classes.{chunks_of}
use Rattle.model.specs.Setup.{Setup}
use Rattle.model.specs.Records.{Key, Record, has_key, other_key}
use Rattle.model.specs.Store.{Class, Store, bare, records_of, held, aged}
use Rattle.model.specs.Promises.{Within, done, both, over}
use Rattle.model.proofs.Sound.{Sound}
use Rattle.model.proofs.Within.{Met, none_within, within_length, within_append, within_map, within_kept, within_lost, within_first}
use Rattle.model.proofs.Same.{Same, same_has, same_other, same_aged}
use Rattle.model.proofs.Turns.{Becomes, without, aging, emptied}

-- A class of the smaller table and the same class of the larger: the records of the first are within those of the second,
-- the larger has no more records beyond those than it has chunks beyond the other's, and as long as the smaller has a free page,
-- the larger has no chunk more.
pub record Pair (free per : ℕ) (k l : Class) : Type 0 where
  pub within : Within Same k.records l.records
  pub extras : length l.records + k.pages * per ≤ length k.records + l.pages * per
  pub alike : 0 < free → l.pages * per ≤ k.pages * per

-- every class of two tables
abbrev pub Pairs : Setup → ℕ → List Class → List Class → Type 0
Pairs setup free ks ls = (i : ℕ) → Pair free (chunks_of (get_or setup.sizes i 0)) (get_or ks i bare) (get_or ls i bare)

-- The smaller table and the larger one, by their free pages and their classes.
pub record Rel (setup : Setup) (m n : ℕ) (ks ls : List Class) : Type 0 where
  pub free : m ≤ n
  pub pairs : Pairs setup m ks ls
  pub small : Sound setup ks
  pub large : Sound setup ls

-- the store t is above the store s: it holds all that s holds
abbrev pub Above : Setup → Store → Store → Type 0
Above setup s t = Rel setup s.free t.free s.classes t.classes

-- ONE PAIR

-- a class with one more record in front
abbrev pub in_front : Record → Class → Class
in_front r k = record { pages = k.pages; records = r ∷ k.records }

-- a class with one more page
abbrev pub paged : Class → Class
paged k = record { pages = k.pages + 1; records = k.records }

-- a change of both classes that keeps a pair a pair
abbrev pub Keeps : (Class → Class) → Type 0
Keeps f = (free per : ℕ) (k l : Class) → Pair free per k l → Pair free per (f k) (f l)

pub keeps_without : (key : Key) → Keeps (without key)
keeps_without key free per k l pair =
    let lost = within_lost (other_key key) (same_other key) pair.within in
    let extras = pair.extras in
    record { within = within_kept (other_key key) (same_other key) pair.within; extras = omega arith; alike = pair.alike }

pub keeps_emptied : Keeps emptied
keeps_emptied free per k l pair =
    let extras = pair.extras in
    let longer = within_length pair.within in
    record { within = done; extras = omega arith; alike = pair.alike }

pub keeps_aging : (key : Key) (expiry : Option ℕ) → Keeps (aging key expiry)
keeps_aging key expiry free per k l pair =
    let extras = pair.extras in
    let long = length-map k.records (aged key expiry) in
    let longer = length-map l.records (aged key expiry) in
    record { within = within_map (aged key expiry) (same_aged key expiry) pair.within; extras = omega arith; alike = pair.alike }

module _ {free per : ℕ} {k l : Class} (pair : Pair free per k l) where
  -- a record comes to the front of both
  pub pair_front : {x y : Record} → Same x y → Pair free per (in_front x k) (in_front y l)
  pair_front same =
      let extras = pair.extras in
      record { within = both same pair.within; extras = omega arith; alike = pair.alike }

  -- a record comes to the front of the larger only
  pub pair_more : (y : Record) → length l.records + 1 + k.pages * per ≤ length k.records + l.pages * per → Pair free per k (in_front y l)
  pair_more y slack = record { within = over pair.within; extras = omega arith; alike = pair.alike }

  -- both classes are given a page, the smaller table's last perhaps
  pub pair_page : (fewer : ℕ) → fewer ≤ free → Pair fewer per (paged k) (paged l)
  pair_page fewer le =
      let extras = pair.extras in
      record { within = pair.within; extras = omega arith; alike = λ some. let h = pair.alike (omega arith) in omega arith }

  -- the larger's class is given a page when the smaller table has none
  pub pair_page_more : free ≡ 0 → Pair free per k (paged l)
  pair_page_more none = let extras = pair.extras in record { within = pair.within; extras = omega arith; alike = λ some. absurd (omega arith) }

  -- fewer free pages ask less
  pub pair_fewer : (fewer : ℕ) → fewer ≤ free → Pair fewer per k l
  pair_fewer fewer le = record { within = pair.within; extras = pair.extras; alike = λ some. pair.alike (omega arith) }

-- ALL PAIRS

-- one class changes in both tables, or in the larger only
module _ (P : ℕ → Class → Class → Type 0) (ks ls : List Class) (i : ℕ) (all : (j : ℕ) → P j (get_or ks j bare) (get_or ls j bare)) (in_large : i < length ls) (l : Class) where
  pub pairs_large : P i (get_or ks i bare) l → (j : ℕ) → P j (get_or ks j bare) (get_or (set ls i l) j bare)
  pairs_large new j =
      ⊎_elim
      (λ e. subst (λ n. P n (get_or ks n bare) (get_or (set ls i l) n bare)) (sym e) (subst (P i (get_or ks i bare)) (sym (get_or-set_same ls i l bare in_large)) new))
      (λ ne. subst (P j (get_or ks j bare)) (sym (get_or-set_other ls i j l bare ne)) (all j))
      (cases_eq j i)

  pub pairs_both : i < length ks → (k : Class) → P i k l → (j : ℕ) → P j (get_or (set ks i k) j bare) (get_or (set ls i l) j bare)
  pairs_both in_small k new j =
      ⊎_elim
      (λ e. subst (λ n. P n (get_or (set ks i k) n bare) (get_or (set ls i l) n bare)) (sym e)
      (subst₂ (P i) (sym (get_or-set_same ks i k bare in_small)) (sym (get_or-set_same ls i l bare in_large)) new))
      (λ ne. subst₂ (P j) (sym (get_or-set_other ks i j k bare ne)) (sym (get_or-set_other ls i j l bare ne)) (all j))
      (cases_eq j i)

-- one class changes in the smaller only
pub pairs_small : (P : ℕ → Class → Class → Type 0) (ks ls : List Class) (i : ℕ) → ((j : ℕ) → P j (get_or ks j bare) (get_or ls j bare)) → i < length ks → (k : Class) → P i k (get_or ls i bare) → (j : ℕ) → P j (get_or (set ks i k) j bare) (get_or ls j bare)
pairs_small P ks ls i all in_small k new = pairs_large (λ j l k. P j k l) ls ks i all in_small k new

module _ {setup : Setup} {m n : ℕ} {ks ls : List Class} (rel : Rel setup m n ks ls) where
  -- every class is turned in the same way in both tables
  pub rel_becomes : (f : Class → Class) → Keeps f → {ks' ls' : List Class} → Becomes setup f ks ks' → Becomes setup f ls ls' → Rel setup m n ks' ls'
  rel_becomes f keeps d e =
      record {
        free = rel.free;
        pairs = λ i. subst₂ (Pair m (chunks_of (get_or setup.sizes i 0))) (sym (d.turned i)) (sym (e.turned i)) (keeps m _ _ _ (rel.pairs i));
        small = d.sound;
        large = e.sound;
      }

-- what the smaller table holds, the larger holds
within_all : (ks ls : List Class) → length ks ≡ length ls → ((i : ℕ) → Within Same (get_or ks i bare).records (get_or ls i bare).records) → Within Same (flat_map records_of ks) (flat_map records_of ls)
within_all [] ls long h = none_within (flat_map records_of ls)
within_all (k ∷ ks) [] long h = absurd (omega arith)
within_all (k ∷ ks) (l ∷ ls) long h = within_append (h 0) (within_all ks ls (omega arith) (λ i. h (suc i)))

-- a search by key finds in the larger what it finds in the smaller
pub met : {setup : Setup} (s t : Store) → Above setup s t → (key : Key) → Met Same (held key s) (held key t)
met s t rel key =
    let long = rel.small.size in
    let longer = rel.large.size in
    within_first (has_key key) (same_has key) (within_all s.classes t.classes (omega arith) (λ i. (rel.pairs i).within)) (rel.large.once key)
