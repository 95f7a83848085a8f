-- What is shown after each change of the records. Assumes nothing.
use Rattle.std.proofs.Common.{◌≡◌, ℕ, ◌-◌, ◌<◌, ◌≤◌, List, length, get_or, Some, None, vec_len, Option, sym, refl, ap, ◌∙◌, subst, arith}
use Rattle.plan.specs.Plans.{plan_sizes}
use Rattle.chained.specs.Chains.{size}
use Rattle.slabs.specs.declared.grant.Grant.{Grant}
use Rattle.slabs.specs.declared.slab.Slab.{Slab}
use Rattle.slabs.specs.Layouts.{class_at}
use Rattle.slabs.specs.Slabs.{Holds, layout, rows_of}
use Rattle.model.specs.Setup.{Setup}
use Rattle.model.specs.Records.{Record, class_no}
use Rattle.model.specs.Store.{Store, Why, Happening, count_left, everything, with_growth, remove, to_front, set_expiry}
use Rattle.model.proofs.Sound.{Lives}
use Rattle.model.proofs.Accounts as accounts
use Rattle.records.specs.Reading.{record_at, without_record, with_front, with_expiry}
use Rattle.records.specs.Showing.{ShowsRecords}
use Rattle.records.specs.Kept.{Kept, GrantedTo}
use Rattle.records.proofs.Leaving.{lives_here, home}
use Rattle.store.specs.declared.store.RecordStore.{RecordStore}
use Rattle.store.specs.Counting.{Leaves, gone}
use Rattle.store.specs.Showing.{Shows, Tame, Outstanding, Later, counts_shown}
use Rattle.store.proofs.Soon.{Soon, soon_without, soon_front, noted, noted_later, soon_noted, soon_aged}
use Rattle.store.proofs.Tamed.{leaves, tame_more, tame_removed, tame_fronted, tame_touched}

-- what is beside the records is as it was
pub record Beside (t t' : RecordStore) : Type 0 where
  pub plan : t'.plan ≡ t.plan
  pub cas : t'.cas ≡ t.cas
  pub counts : t'.counts ≡ t.counts
  pub soonest : t'.soonest.seconds ≡ t.soonest.seconds

-- WHAT IS SHOWN

-- where the plan, the slots and how pages are cut are as they were
pub settled : {setup : Setup} {n m : ℕ} {memory memory' : List ℕ} {out : Option Grant} (out' : Option Grant) (t t' : RecordStore) (s s' : Store) → Shows setup n t memory out s → t'.plan ≡ t.plan → layout t'.records.slab ≡ layout t.records.slab → vec_len t'.records.heads ≡ vec_len t.records.heads → s'.free ≡ s.free
    → ShowsRecords setup t'.records.slab memory' s'.classes → Outstanding out' t'.records.slab → size t'.records.table ≡ s'.growth → t'.cas ≡ s'.cas → counts_shown t'.counts ≡ s'.counts → Soon setup t'.soonest.seconds s'.classes → Tame m s'
    → Shows setup m t' memory' out' s'
settled out' t t' s s' sh plan lay slots free records granted growth cas counts soon tame =
    let given : t'.records.slab.given ≡ t.records.slab.given = ap (λ l. l.given) lay in
    let before = sh.free in
    record {
      records = records;
      granted = granted;
      pages = ap (λ l. l.pages) lay ∙ sh.pages;
      free = omega arith;
      growth = growth;
      limit = slots ∙ sh.limit;
      sizes = ap plan_sizes plan ∙ sh.sizes;
      cas = cas;
      counts = counts;
      soon = soon;
      tame = tame;
    }

-- larger numbers are fine too
pub more : {setup : Setup} {n m : ℕ} {t : RecordStore} {memory : List ℕ} {out : Option Grant} {s : Store} → n ≤ m → Shows setup n t memory out s → Shows setup m t memory out s
more {t = t} {out = out} {s = s} le sh = settled out t t s s sh refl refl refl refl sh.records sh.granted sh.growth sh.cas sh.counts sh.soon (tame_more le sh.tame)

-- the store with another story
abbrev pub telling : List Happening → Store → Store
telling story s =
    record { cas = s.cas; counts = s.counts; free = s.free; growth = s.growth; classes = s.classes; story = story }

-- no number of a store is in its story or in the size of its hash table
same_tame : {n : ℕ} (s : Store) → Tame n s → (g : ℕ × ℕ) (story : List Happening) → Tame n (telling story (with_growth g s))
same_tame s tame g story = record { linked = tame.linked; numbered = tame.numbered; asked = tame.asked; balance = tame.balance }

-- nothing of the story is shown
pub retold : {setup : Setup} {n : ℕ} {t : RecordStore} {memory : List ℕ} {out : Option Grant} {s : Store} → Shows setup n t memory out s → (story : List Happening) → Shows setup n t memory out (telling story s)
retold {t = t} {out = out} {s = s} sh story =
    settled out t t s (telling story s) sh refl refl refl refl sh.records sh.granted sh.growth sh.cas sh.counts sh.soon (same_tame s sh.tame s.growth story)

-- the same records, of which nothing is counted
pub shown_as : {setup : Setup} {n : ℕ} {memory : List ℕ} {out : Option Grant} (out' : Option Grant) (t t' : RecordStore) (s : Store) (g : ℕ × ℕ) → Shows setup n t memory out s → Beside t t' → layout t'.records.slab ≡ layout t.records.slab → vec_len t'.records.heads ≡ vec_len t.records.heads
    → ShowsRecords setup t'.records.slab memory s.classes → Outstanding out' t'.records.slab → size t'.records.table ≡ g → Shows setup n t' memory out' (with_growth g s)
shown_as {setup} out' t t' s g sh beside lay slots records granted growth =
    settled out' t t' s (with_growth g s) sh beside.plan lay slots refl records granted growth (beside.cas ∙ sh.cas) (ap counts_shown beside.counts ∙ sh.counts)
    (subst (λ x. Soon setup x s.classes) (sym beside.soonest) sh.soon) (same_tame s sh.tame g s.story)

-- other seconds are kept for the classes
pub reseconded : {setup : Setup} {n : ℕ} {memory : List ℕ} {out : Option Grant} (t t' : RecordStore) (s : Store) → Shows setup n t memory out s → t'.plan ≡ t.plan → t'.records ≡ t.records → t'.cas ≡ t.cas → t'.counts ≡ t.counts → Soon setup t'.soonest.seconds s.classes → Shows setup n t' memory out s
reseconded {setup} {n} {memory} {out} t t' s sh plan records cas counts soon =
    settled out t t' s s sh plan (ap (λ r. layout r.slab) records) (ap (λ r. vec_len r.heads) records) refl
    (subst (λ r. ShowsRecords setup r.slab memory s.classes) (sym records) sh.records)
    (subst (λ r. Outstanding out r.slab) (sym records) sh.granted)
    (ap (λ r. size r.table) records ∙ sh.growth) (cas ∙ sh.cas) (ap counts_shown counts ∙ sh.counts) soon sh.tame

pub outstanding_kept : (out : Option Grant) (s t : Slab) → ((i class : ℕ) → GrantedTo t i class → GrantedTo s i class) → Outstanding out s → Outstanding out t
outstanding_kept None s t kept o = λ i class g. o i class (kept i class g)
outstanding_kept (Some grant) s t kept o = λ i class g. o i class (kept i class g)

-- the records linked that did not leave are those held
pub held_are : {setup : Setup} {n : ℕ} {memory : List ℕ} {out : Option Grant} (t : RecordStore) (s : Store) → Shows setup n t memory out s → t.counts.linked - gone t.counts ≡ length (everything s)
held_are t s sh = omega (arith, ap accounts.gone sh.counts, ap (λ c. c.linked) sh.counts, sh.tame.balance)

-- a change of records that leaves alone pages, the hash table and the grants
pub carried : {setup : Setup} {n : ℕ} {memory : List ℕ} {out : Option Grant} (t t' : RecordStore) (s s' : Store) → Shows setup n t memory out s → Kept t.records t'.records
    → t'.plan ≡ t.plan → s'.free ≡ s.free → s'.growth ≡ s.growth
    → ShowsRecords setup t'.records.slab memory s'.classes → t'.cas ≡ s'.cas → counts_shown t'.counts ≡ s'.counts → Soon setup t'.soonest.seconds s'.classes → Tame n s'
    → Shows setup n t' memory out s'
carried {out = out} t t' s s' sh kept plan free growth records =
    settled out t t' s s' sh plan kept.layout kept.slots free records (outstanding_kept out t.records.slab t'.records.slab kept.granted sh.granted) (ap size kept.table ∙ sh.growth ∙ sym growth)

module _ {setup : Setup} {n : ℕ} {memory : List ℕ} {out : Option Grant} (t t' : RecordStore) (s : Store) (sh : Shows setup n t memory out s) (i : ℕ) (held : Holds t.records.slab i) (kept : Kept t.records t'.records) (plan : t'.plan ≡ t.plan) (cas : t'.cas ≡ t.cas) where
  abbrev here : Record
  here = record_at (layout t.records.slab) (rows_of t.records.slab) memory i

  live : Lives setup here s.classes
  live = lives_here setup t.records.slab memory s.classes sh.records i held

  -- a record left, and was counted
  pub shown_removed : t'.soonest.seconds ≡ t.soonest.seconds → (at : ℕ) (why : Why) → ShowsRecords setup t'.records.slab memory (without_record setup here s.classes) → (Leaves t.counts → counts_shown t'.counts ≡ count_left why (counts_shown t.counts)) → Shows setup n t' memory out (remove setup at why here s)
  shown_removed soonest at why records counted =
      let sound = sh.records.kept in
      carried t t' s (remove setup at why here s) sh kept plan refl refl records (cas ∙ sh.cas)
      (counted (leaves setup n s sound sh.tame t.counts sh.counts here live) ∙ ap (count_left why) sh.counts)
      (subst (λ x. Soon setup x (without_record setup here s.classes)) (sym soonest) (soon_without setup s.classes sound t.soonest.seconds sh.soon here live))
      (tame_removed setup n s sound sh.tame at why here live)

  -- a record went to the front of its class
  pub shown_fronted : t'.soonest.seconds ≡ t.soonest.seconds → (second : ℕ) → ShowsRecords setup t'.records.slab memory (with_front setup second here s.classes) → t'.counts ≡ t.counts → Shows setup n t' memory out (to_front setup second here s)
  shown_fronted soonest second records counts =
      let sound = sh.records.kept in
      carried t t' s (to_front setup second here s) sh kept plan refl refl records (cas ∙ sh.cas) (ap counts_shown counts ∙ sh.counts)
      (subst (λ x. Soon setup x (with_front setup second here s.classes)) (sym soonest) (soon_front setup s.classes sound t.soonest.seconds sh.soon here live second))
      (tame_fronted setup n s sound sh.tame second here live)

  -- a record got another expiry, which was noted for its class
  pub shown_touched : (class : ℕ) → class ≡ class_at (layout t.records.slab) i → class < length t.soonest.seconds → (expiry : Option ℕ) → t'.soonest.seconds ≡ noted t.soonest.seconds class expiry → ShowsRecords setup t'.records.slab memory (with_expiry setup expiry here s.classes) → t'.counts ≡ t.counts → Shows setup n t' memory out (set_expiry setup expiry here s)
  shown_touched class is lt expiry soonest records counts =
      let sound = sh.records.kept in
      let mine : class ≡ class_no setup here = is ∙ sym (home setup t.records.slab memory s.classes sh.records i held) in
      let seconds = noted t.soonest.seconds class expiry in
      carried t t' s (set_expiry setup expiry here s) sh kept plan refl refl records (cas ∙ sh.cas) (ap counts_shown counts ∙ sh.counts)
      (subst (λ x. Soon setup x (with_expiry setup expiry here s.classes)) (sym soonest)
      (soon_aged setup s.classes sound seconds (soon_noted t.soonest.seconds class expiry lt setup s.classes sh.soon) here live expiry
      (subst (λ c. Later (get_or seconds c 0) expiry) mine (noted_later t.soonest.seconds class expiry lt))))
      (tame_touched setup n s sound sh.tame expiry here live)
