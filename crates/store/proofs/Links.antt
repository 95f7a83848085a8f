-- What is shown once a record was stored. Assumes nothing.
use Rattle.std.proofs.Common.{◌≡◌, ℕ, ◌+◌, ◌-◌, ◌*◌, ◌^◌, ◌<◌, ◌≤◌, min, Bool, true, false, cond, ◌&&◌, eqb, ltb, leb, List, ◌∷◌, length, Some, None, vec_len, Option, sym, refl, ap, ◌∙◌, subst, arith}
use mathlib.Core.Logic.{∥∥₁_elim}
use native.Mathlib.Bridge.{le_prop}
use Rattle.std.proofs.lemmas.Bool.{ltb-true, ltb-false, lt-ltb, le-ltb, leb-true, and_right}
use Rattle.plan.specs.Classes.{class_of, size_at}
use Rattle.plan.specs.Plans.{plan_sizes}
use Rattle.plan.proofs.Facts.{fair}
use Rattle.chained.specs.Chains.{size}
use Rattle.chained.specs.Growth.{doubles, grow_after}
use Rattle.slabs.specs.declared.grant.Grant.{Grant}
use Rattle.slabs.specs.Slabs.{layout}
use Rattle.model.specs.Setup.{Setup}
use Rattle.model.specs.Records.{Key, Record, class_no, class_for, number_or_0}
use Rattle.model.specs.Store.{Store, Why, class_at, with_records, everything, held, remove_any, numbered, insert, grow, count_linked}
use Rattle.model.proofs.Sound.{Sound, Numbered}
use Rattle.model.proofs.Plans.{numbered_class}
use Rattle.model.proofs.Accounts.{even_stored}
use Rattle.records.specs.Reading.{brought}
use Rattle.records.specs.Showing.{ShowsRecords}
use Rattle.records.specs.Kept.{Kept, GrantedTo}
use Rattle.store.specs.declared.store.RecordStore.{RecordStore}
use Rattle.store.specs.declared.store.linking.Fresh.{Fresh}
use Rattle.store.specs.Counting.{gone}
use Rattle.store.specs.Showing.{Shows, Tame, Outstanding, noting, room_of, new_record, counts_shown}
use Rattle.store.proofs.Soon.{Soon, noted, noted_later, soon_noted, soon_set}
use Rattle.store.proofs.Shown.{Beside, held_are, shown_as, settled}
use Rattle.store.proofs.Grants.{none_outstanding}
use Rattle.store.proofs.Finds.{none_left}

-- THE OLD RECORD

-- nothing is held under the key once the old record left
pub cleared : (setup : Setup) (s : Store) → Sound setup s.classes → (now : ℕ) (why : Why) (key : Key) (o : Option Record) → held key s ≡ o → held key (remove_any setup now why o s) ≡ None
cleared setup s sound now why key None e = e
cleared setup s sound now why key (Some r) e = none_left setup s sound now why key r e

pub same_cas : (setup : Setup) (now : ℕ) (why : Why) (o : Option Record) (s : Store) → (remove_any setup now why o s).cas ≡ s.cas
same_cas setup now why None s = refl
same_cas setup now why (Some r) s = refl

-- THE NEW RECORD

module _ {setup : Setup} {n : ℕ} {memory : List ℕ} (t : RecordStore) (s : Store) (grant : Grant) (sh : Shows setup n t memory (Some grant) s) (few : n < 2 ^ 63) (key block : List ℕ) (fresh : Fresh) (of : class_for setup key block ≡ Some grant.class) where
  pub num : Numbered setup grant.class
  num = numbered_class setup key block grant.class of

  -- the class of the grant is the plan's
  high : grant.class ≤ length (plan_sizes t.plan)
  high = let h = num.high in omega (arith, ap length sh.sizes)

  -- the need of a record that fits is the sum of its lengths
  exact : length key + length block ≤ room_of t grant → (need : ℕ) → need ≡ min (length key + length block) (2 ^ 64 - 1) → need ≡ length key + length block
  exact fits need is =
      let small = (fair t.plan grant.class num.low high).small in
      let room = sh.records.cut.sizes grant.class num in
      let same = ap (λ sizes. size_at sizes grant.class) sh.sizes in
      omega (arith, small, room, same)

  -- the expiry is noted for the class of the grant
  pub noted_for : length key + length block ≤ room_of t grant → (need : ℕ) → need ≡ min (length key + length block) (2 ^ 64 - 1) → noting (class_of need (plan_sizes t.plan)) fresh.expiry t.soonest.seconds ≡ noted t.soonest.seconds grant.class fresh.expiry
  noted_for fits need is =
      ap (λ c. noting c fresh.expiry t.soonest.seconds)
      (ap (λ x. class_of x (plan_sizes t.plan)) (exact fits need is) ∙ ap (class_of (length key + length block)) sh.sizes ∙ of)

  abbrev new : Record
  new = numbered (s.cas + 1) (new_record key block fresh)

  home : class_no setup new ≡ grant.class
  home = ap number_or_0 of

  next_cas : (cas : ℕ) → cas ≡ min (t.cas + 1) (2 ^ 64 - 1) → cas ≡ s.cas + 1
  next_cas cas is = let c = sh.cas in let m = sh.tame.numbered in omega arith

  -- what is put is the new record
  pub brought_new : (cas : ℕ) → cas ≡ min (t.cas + 1) (2 ^ 64 - 1) → (hash : ℕ) → brought key block (record { hash = hash; flags = fresh.flags; expiry = fresh.expiry; cas = cas; moved = fresh.second }) ≡ new
  brought_new cas is hash = ap (λ c. numbered c (new_record key block fresh)) (next_cas cas is)

  module _ (t' : RecordStore) (memory' : List ℕ) (kept : Kept t.records t'.records) (spent : (class : ℕ) → GrantedTo t'.records.slab grant.row class → ⊥) (plan : t'.plan ≡ t.plan) (cas : t'.cas ≡ min (t.cas + 1) (2 ^ 64 - 1)) (counts : t.counts.linked + 1 < 2 ^ 64 → counts_shown t'.counts ≡ count_linked (counts_shown t.counts)) (long : length t.soonest.seconds ≡ 33) (soonest : t'.soonest.seconds ≡ noted t.soonest.seconds grant.class fresh.expiry) where
    soon : Soon setup (noted t.soonest.seconds grant.class fresh.expiry) (with_records grant.class (new ∷ (class_at grant.class s.classes).records) s.classes)
    soon =
        let h = high in
        let small = (fair t.plan grant.class num.low high).few in
        let lt : grant.class < length t.soonest.seconds = omega arith in
        let old = soon_noted t.soonest.seconds grant.class fresh.expiry lt setup s.classes sh.soon in
        soon_set setup s.classes sh.records.kept (noted t.soonest.seconds grant.class fresh.expiry) old grant.class num _
        (noted_later t.soonest.seconds grant.class fresh.expiry lt, old grant.class num)

    tame : Tame (n + 1) (insert setup new s)
    tame =
        let m = sh.tame.numbered in
        let l = sh.tame.linked in
        let a = sh.tame.asked in
        record {
          linked = omega arith;
          numbered = omega arith;
          asked = omega arith;
          balance = even_stored setup s sh.records.kept sh.tame.balance new (subst (Numbered setup) (sym home) num);
        }

    pub shown_inserted : ShowsRecords setup t'.records.slab memory' (with_records grant.class (new ∷ (class_at grant.class s.classes).records) s.classes) → Shows setup (n + 1) t' memory' None (insert setup new s)
    shown_inserted records =
        let linked = ap (λ c. c.linked) sh.counts in
        let l = sh.tame.linked in
        settled None t t' s (insert setup new s) sh plan kept.layout kept.slots refl
        (subst (λ c. ShowsRecords setup t'.records.slab memory' (with_records c (new ∷ (class_at c s.classes).records) s.classes)) (sym home) records)
        (none_outstanding t.records.slab t'.records.slab grant sh.granted kept.granted spent)
        (ap size kept.table ∙ sh.growth) (next_cas t'.cas cas) (counts (omega arith) ∙ ap count_linked sh.counts)
        (subst (λ c. Soon setup t'.soonest.seconds (with_records c (new ∷ (class_at c s.classes).records) s.classes)) (sym home)
        (subst (λ x. Soon setup x (with_records grant.class (new ∷ (class_at grant.class s.classes).records) s.classes)) (sym soonest) soon))
        tame

-- THE HASH TABLE GROWS

-- a table has so few slots that 32 bits tell enough of its entries
doubles_few : (entries limit : ℕ) (g : ℕ × ℕ) → limit ≤ 16384 → doubles (min entries (2 ^ 32 - 1)) limit g ≡ doubles entries limit g
doubles_few entries limit g few = by (leb (2 * g.0) limit) refl
  where
    full : 2 * g.0 ≤ limit → ltb (3 * g.0) (2 * min entries (2 ^ 32 - 1)) ≡ ltb (3 * g.0) (2 * entries)
    full le = at (ltb (3 * g.0) (2 * entries)) refl
      where
        at : (b : Bool) → ltb (3 * g.0) (2 * entries) ≡ b → ltb (3 * g.0) (2 * min entries (2 ^ 32 - 1)) ≡ b
        at true e = let lt = ltb-true _ _ e in lt-ltb _ _ (omega arith)
        at false e = let ge = ltb-false _ _ e in le-ltb _ _ (omega arith)

    by : (b : Bool) → leb (2 * g.0) limit ≡ b → doubles (min entries (2 ^ 32 - 1)) limit g ≡ doubles entries limit g
    by true e = ap (λ x. x && (eqb g.1 0 && leb (2 * g.0) limit)) (full (leb-true _ _ e))
    by false e =
        and_right (ltb (3 * g.0) (2 * min entries (2 ^ 32 - 1))) _ (and_right (eqb g.1 0) _ e)
        ∙ sym (and_right (ltb (3 * g.0) (2 * entries)) _ (and_right (eqb g.1 0) _ e))

few_slots : (t : RecordStore) → vec_len t.records.heads ≤ 16384
few_slots t = ∥∥₁_elim t.records.indexed le_prop (λ ix. omega (arith, ix.kept.limit, t.records.heads.ok.0))

pub shown_grown : {setup : Setup} {n : ℕ} {memory : List ℕ} {out : Option Grant} (t t' : RecordStore) (s : Store) → Shows setup n t memory out s → t'.records.slab ≡ t.records.slab → vec_len t'.records.heads ≡ vec_len t.records.heads → Beside t t'
    → (entries : ℕ) → entries ≡ min (t.counts.linked - gone t.counts) (2 ^ 32 - 1) → size t'.records.table ≡ grow_after entries (vec_len t.records.heads) (size t.records.table) → Shows setup n t' memory out (grow setup s)
shown_grown {setup} {n} {memory} {out} t t' s sh slab slots beside entries is grown =
    let held = length (everything s) in
    let entries_are : entries ≡ min held (2 ^ 32 - 1) = is ∙ ap (λ x. min x (2 ^ 32 - 1)) (held_are t s sh) in
    let g = size t.records.table in
    let limit = vec_len t.records.heads in
    let doubled : doubles entries limit g ≡ doubles held limit g = ap (λ x. doubles x limit g) entries_are ∙ doubles_few held limit g (few_slots t) in
    shown_as out t t' s (grow_after held setup.limit s.growth) sh beside (ap layout slab) slots
    (subst (λ x. ShowsRecords setup x memory s.classes) (sym slab) sh.records) (subst (Outstanding out) (sym slab) sh.granted)
    (grown ∙ ap (λ b. cond b (2 * g.0, g.0) g) doubled ∙ ap (λ l. grow_after held l g) sh.limit ∙ ap (grow_after held setup.limit) sh.growth)
