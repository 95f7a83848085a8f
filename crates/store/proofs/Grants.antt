-- The ways to a free chunk, one by one. Assumes nothing.
use Rattle.std.proofs.Common.{◌≡◌, ℕ, ◌+◌, ◌<◌, ◌≤◌, Bool, true, false, cond, ltb, List, IfSome, is_some, Some, None, Ok, vec_len, Option, sym, refl, ap, ◌∙◌, subst, arith, MatchOption}
use Rattle.std.proofs.lemmas.Bool.{ltb-true, ltb-false, lt-ltb, le-ltb, false≢true, cond-true, cond-false}
use Rattle.std.specs.Option.{ok_or}
use Rattle.plan.specs.declared.plan.Plan.{Plan}
use Rattle.plan.specs.Plans.{plan_sizes}
use Rattle.plan.specs.Classes.{Smallest, class_of, size_at}
use Rattle.slabs.specs.declared.grant.Grant.{Grant}
use Rattle.slabs.specs.declared.slab.Slab.{Slab}
use Rattle.chained.specs.Chains.{size}
use Rattle.model.specs.Setup.{Setup}
use Rattle.model.specs.Records.{Record}
use Rattle.model.specs.Promises.{Planned}
use Rattle.model.specs.Store.{Store, Why, Expired, Evicted, class_at, last, or_else, has_room, give_page, with_page, remove, rid, rear_dead, rear}
use Rattle.model.proofs.Held.{last_on}
use Rattle.model.proofs.Sound.{Sound, Numbered}
use Rattle.model.proofs.Changes.{class_lives, class_home, room_removed, room_given}
use Rattle.records.specs.declared.records.Records.{Records}
use Rattle.records.specs.Showing.{ShowsRecords}
use Rattle.records.specs.Kept.{GrantedTo, NoGrant, OnlyGrant}
use Rattle.store.specs.declared.store.RecordStore.{RecordStore}
use Rattle.store.specs.declared.store.granting.NoRoom.TheVariants.{TooLarge, Full}
use Rattle.store.specs.Showing.{Shows, Outstanding, counts_shown}
use Rattle.store.specs.Granting.{Made, Comes, with_room, granting}
use Rattle.store.proofs.Soon.{Soon, soon_page}
use Rattle.store.proofs.Tamed.{tame_given}
use Rattle.store.proofs.Shown.{Beside, reseconded}

-- A FREE CHUNK IS GRANTED

-- what is outstanding once a chunk was asked for
pub outstanding : (r : Option Grant) (old new : Records) (P : Grant → Type 0) → MatchOption r (new ≡ old) P → IfSome r (λ grant. OnlyGrant new.slab grant) → NoGrant old.slab → Outstanding r new.slab
outstanding None old new P same only none = subst (λ x. NoGrant x.slab) (sym same) none
outstanding (Some grant) old new P same only none = only

-- the only grant was spent or returned
pub none_outstanding : (old new : Slab) (grant : Grant) → OnlyGrant old grant → ((i class : ℕ) → GrantedTo new i class → GrantedTo old i class) → ((class : ℕ) → GrantedTo new grant.row class → ⊥) → NoGrant new
none_outstanding old new grant only kept spent i class g = spent class (subst (λ k. GrantedTo new k class) (only i class (kept i class g)).0 g)

-- nothing was done
shown_same : {setup : Setup} {n : ℕ} {memory : List ℕ} {out : Option Grant} (t t' : RecordStore) (s : Store) → Shows setup n t memory out s → t'.records ≡ t.records → Beside t t' → Shows setup n t' memory out s
shown_same {setup} t t' s sh same beside =
    reseconded t t' s sh beside.plan same beside.cas beside.counts (subst (λ x. Soon setup x s.classes) (sym beside.soonest) sh.soon)

-- A PAGE IS GIVEN

-- the plan of a store that is shown is the setup's
planned : {setup : Setup} (plan : Plan) → plan_sizes plan ≡ setup.sizes → Planned setup
planned plan is = record { begin = plan.first; percent = plan.percent; lawfully = plan.fair; sizes = sym is ∙ plan.made }

module _ {setup : Setup} {n : ℕ} {memory : List ℕ} (t t' : RecordStore) (s : Store) (sh : Shows setup n t memory None s) (class : ℕ) (num : Numbered setup class) where
  abbrev old : Slab
  old = t.records.slab

  abbrev new : Slab
  new = t'.records.slab

  free_more : ltb old.given old.pages ≡ ltb 0 s.free
  free_more = let p = sh.pages in let f = sh.free in by (ltb old.given old.pages) refl
    where
      by : (b : Bool) → ltb old.given old.pages ≡ b → b ≡ ltb 0 s.free
      by true e = let p = sh.pages in let f = sh.free in let lt = ltb-true _ _ e in sym (lt-ltb 0 s.free (omega arith))
      by false e = let p = sh.pages in let f = sh.free in let ge = ltb-false _ _ e in sym (le-ltb 0 s.free (omega arith))

  shown_given : Beside t t'
      → 0 < s.free → new.pages ≡ old.pages → new.given ≡ old.given + 1 → t'.records.table ≡ t.records.table → vec_len t'.records.heads ≡ vec_len t.records.heads
      → ((i class : ℕ) → GrantedTo new i class → GrantedTo old i class) → ShowsRecords setup new memory (with_page class s.classes) → Shows setup n t' memory None (give_page class s)
  shown_given beside some pages given table slots granted records =
      let before = sh.free in
      record {
        records = records;
        granted = λ i class g. sh.granted i class (granted i class g);
        pages = pages ∙ sh.pages;
        free = omega arith;
        growth = ap size table ∙ sh.growth;
        limit = slots ∙ sh.limit;
        sizes = ap plan_sizes beside.plan ∙ sh.sizes;
        cas = beside.cas ∙ sh.cas;
        counts = ap counts_shown beside.counts ∙ sh.counts;
        soon = subst (λ x. Soon setup x (with_page class s.classes)) (sym beside.soonest) (soon_page setup s.classes sh.records.kept t.soonest.seconds sh.soon class num);
        tame = tame_given setup n s sh.records.kept sh.tame class num;
      }

  pub made_given : Beside t t' → (r : Bool)
      → r ≡ ltb old.given old.pages → new.pages ≡ old.pages → new.given ≡ cond r (old.given + 1) old.given → (r ≡ false → t'.records ≡ t.records) → t'.records.table ≡ t.records.table → vec_len t'.records.heads ≡ vec_len t.records.heads
      → ((i class : ℕ) → GrantedTo new i class → GrantedTo old i class) → (r ≡ true → ShowsRecords setup new memory (with_page class s.classes))
      → Made setup class n t' memory s (cond (ltb 0 s.free) (Some (give_page class s)) None) r
  made_given beside true answer pages given same table slots granted shown = (
    give_page class s,
    cond-true (ltb 0 s.free) (Some (give_page class s)) None (sym free_more ∙ sym answer),
    room_given setup s sh.records.kept (planned t.plan sh.sizes) class num,
    shown_given beside (ltb-true _ _ (sym free_more ∙ sym answer)) pages given table slots granted (shown refl),
  )
  made_given beside false answer pages given same table slots granted shown = (
    cond-false (ltb 0 s.free) (Some (give_page class s)) None (sym free_more ∙ sym answer),
    shown_same t t' s sh (same refl) beside,
  )

-- A RECORD IS REMOVED

-- the last record of a class that passes a test leaves
pub made_rid : {setup : Setup} {n : ℕ} {memory : List ℕ} (s : Store) (class : ℕ) → Sound setup s.classes → Numbered setup class → (now : ℕ) (why : Why) (p : Record → Bool) (r : Record) → last p (class_at class s.classes).records ≡ Some r → (t' : RecordStore) → Shows setup n t' memory None (remove setup now why r s)
    → Made setup class n t' memory s (rid setup now why (last p (class_at class s.classes).records) s) true
made_rid {setup} s class sound num now why p r is t' shown =
    let on = (last_on p (class_at class s.classes).records is).0 in
    let live = class_lives setup s sound class num.low r on in (
      remove setup now why r s,
      ap (λ o. rid setup now why o s) is,
      subst (λ c. has_room setup c (remove setup now why r s) ≡ true) (class_home setup s sound class num.low r on) (room_removed setup s sound now why r live),
      shown,
    )

-- THE WAYS IN ORDER

chosen : {A : Type 0} (b : Bool) (x : A) (rest : Option A) → cond b (Some x) rest ≡ or_else (cond b (Some x) None) rest
chosen true x rest = refl
chosen false x rest = refl

-- a way that led somewhere is the one gone
pub way_gone : {A : Type 0} (b : Bool) (x : A) (rest : Option A) {y : A} → cond b (Some x) None ≡ Some y → cond b (Some x) rest ≡ Some y
way_gone b x rest e = chosen b x rest ∙ ap (λ o. or_else o rest) e

-- a way that led nowhere leaves the rest
pub way_left : {A : Type 0} (b : Bool) (x : A) (rest : Option A) → cond b (Some x) None ≡ None → cond b (Some x) rest ≡ rest
way_left b x rest e = chosen b x rest ∙ ap (λ o. or_else o rest) e

-- the ways to make room, by those that led nowhere
module _ (setup : Setup) (evicting : Bool) (now class : ℕ) (s : Store) where
  abbrev dead_way : Option Store
  dead_way = rid setup now Expired (rear_dead now class s) s

  abbrev rear_way : Option Store
  rear_way = rid setup now Evicted (rear class s) s

  pub no_page : cond (ltb 0 s.free) (Some (give_page class s)) None ≡ None → with_room setup evicting now class s ≡ or_else dead_way (cond evicting rear_way None)
  no_page e = way_left (ltb 0 s.free) (give_page class s) (or_else dead_way (cond evicting rear_way None)) e

  pub no_dead : cond (ltb 0 s.free) (Some (give_page class s)) None ≡ None → dead_way ≡ None → with_room setup evicting now class s ≡ cond evicting rear_way None
  no_dead e none = no_page e ∙ ap (λ o. or_else o (cond evicting rear_way None)) none

  pub no_dead_made : cond (ltb 0 s.free) (Some (give_page class s)) None ≡ None → {s' : Store} → dead_way ≡ Some s' → with_room setup evicting now class s ≡ Some s'
  no_dead_made e some = no_page e ∙ ap (λ o. or_else o (cond evicting rear_way None)) some

-- THE GRANT

-- the class of a need
pub record Classed (setup : Setup) (need class : ℕ) : Type 0 where
  pub is : class_of need setup.sizes ≡ Some class
  pub num : Numbered setup class
  pub fits : need ≤ size_at setup.sizes class

pub classed : (setup : Setup) (sizes : List ℕ) → sizes ≡ setup.sizes → (need class : ℕ) (r : Option ℕ) → r ≡ class_of need sizes → MatchOption r (4096 < need) (λ c. Smallest need sizes c) → ok_or r TooLarge ≡ Ok class → Classed setup need class
classed setup sizes same need class None is small e = let z : ◌≡◌ {A = ℕ} 0 1 = cc in absurd (omega arith)
classed setup sizes same need class (Some c) is small e =
    let here : Smallest need setup.sizes c = subst (λ x. Smallest need x c) same small in
    let of : c ≡ class = cc in
    subst (Classed setup need) of (record {
      is = sym (subst (λ x. Some c ≡ class_of need x) same is);
      num = record { low = here.numbered.0; high = here.numbered.1 };
      fits = here.fits;
    })

module _ {setup : Setup} {need class : ℕ} (of : Classed setup need class) (evicting : Bool) (now : ℕ) (s : Store) where
  -- a chunk of the class was granted
  pub comes_granted : {n : ℕ} {memory : List ℕ} (t : RecordStore) (grant : Grant) → grant.class ≡ class → (s' : Store) → granting setup evicting now class s ≡ Some s' → Shows setup n t memory (Some grant) s' → Comes setup (λ c. granting setup evicting now c s) (class_of need setup.sizes) n t memory s (Ok grant)
  comes_granted {n} {memory} t grant same s' left sh =
      subst (λ c. (class_of need setup.sizes ≡ Some c) × ((x : Store) × (granting setup evicting now c s ≡ Some x) × Shows setup n t memory (Some grant) x)) (sym same) (of.is, (s', left, sh))

  pub granted_at_once : true ≡ has_room setup class s → granting setup evicting now class s ≡ Some s
  granted_at_once room = cond-true (has_room setup class s) (Some s) (with_room setup evicting now class s) (sym room)

  pub granted_later : false ≡ has_room setup class s → granting setup evicting now class s ≡ with_room setup evicting now class s
  granted_later full = cond-false (has_room setup class s) (Some s) (with_room setup evicting now class s) (sym full)

  -- a chunk was taken, of a store in which there is one
  pub comes_taken : {n : ℕ} {memory : List ℕ} (t : RecordStore) (P : Grant → Type 0) → ((grant : Grant) → P grant → grant.class ≡ class) → (r : Option Grant) → IfSome r P → (s' : Store) → is_some r ≡ true → granting setup evicting now class s ≡ Some s' → Shows setup n t memory r s' → Comes setup (λ c. granting setup evicting now c s) (class_of need setup.sizes) n t memory s (ok_or r Full)
  comes_taken t P of_class None got s' some left sh = absurd (false≢true some)
  comes_taken t P of_class (Some grant) got s' some left sh = comes_granted t grant (of_class grant got) s' left sh
