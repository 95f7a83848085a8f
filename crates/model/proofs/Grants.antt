-- A grant in the smaller table and in the larger: the larger grants where the smaller does, and stays above it. Assumes nothing.
use Rattle.std.proofs.Common.{◌≡◌, ℕ, ◌+◌, ◌-◌, ◌<◌, ◌≤◌, Bool, true, false, cond, ltb, List, length, get_or, set, is_some, Some, None, filter, Option, sym, refl, ap, ◌∙◌, subst, subst₂, arith}
use Rattle.std.proofs.lemmas.Bool.{ltb-true, ltb-false, lt-ltb, le-ltb, true≢false}
use Rattle.policy.specs.Meaning.{Meaning}
use Rattle.plan.specs.Classes.{chunks_of, size_at}
use Rattle.model.specs.Setup.{Setup}
use Rattle.model.specs.Records.{Key, Record, dead, has_key, other_key, class_no}
use Rattle.model.specs.Store.{Store, Why, Expired, Evicted, class_at, has_room, give_page, rear_dead, rear, rid, grant, last, or_else, remove}
use Rattle.model.specs.Promises.{Planned, Within}
use Rattle.model.proofs.Held.{On, count, last_on, length_other}
use Rattle.model.proofs.Sound.{Sound, Numbered, Lives, in_range, own_key, sound_page, sound_without}
use Rattle.model.proofs.Changes.{class_lives, class_home, room_removed, room_given}
use Rattle.model.proofs.Within.{shorn, shorn_none, last_later, within_length, within_fewer, within_shorn}
use Rattle.model.proofs.Same.{Same, same_dead, same_any, shorn_is}
use Rattle.model.proofs.Turns.{without, class_count}
use Rattle.model.proofs.Pairs.{Pair, Pairs, Above, paged, pair_page, pair_page_more, pair_fewer, pairs_small, pairs_large, pairs_both}

-- What the two tables' grants have to do with one another. The larger grants where the smaller does; where only the larger does,
-- the smaller has no free chunk.
abbrev pub GrantPair : Setup → ℕ → Store → Option Store → Option Store → Type 0
GrantPair setup class s None None = Unit {0}
GrantPair setup class s None (Some t) = Above setup s t × (has_room setup class s ≡ false) × (has_room setup class t ≡ true)
GrantPair setup class s (Some u) None = ⊥
GrantPair setup class s (Some u) (Some t) = Above setup u t × (has_room setup class u ≡ true) × (has_room setup class t ≡ true)

-- A class without a record, where there is one.
abbrev pruned : Option Record → List Record → List Record
pruned None xs = xs
pruned (Some r) xs = filter (other_key r.key) xs

pruned_is : (p : Record → Bool) (xs : List Record) → ((key : Key) → count (has_key key) xs ≤ 1) → (o : Option Record) → last p xs ≡ o → shorn p xs ≡ pruned o xs
pruned_is p xs once None e = shorn_none p xs (ap is_some e)
pruned_is p xs once (Some r) e = sym (shorn_is p r xs e (once r.key))

-- What a table does that has neither a chunk nor a page: nothing, or a record of the class leaves.
data Loses (setup : Setup) (class : ℕ) (s : Store) : Option Store → Type 0 where
  nothing : Loses setup class s None
  loses : (now : ℕ) (why : Why) (r : Record) → On r (class_at class s.classes).records → Loses setup class s (Some (remove setup now why r s))

module _ (setup : Setup) (class : ℕ) (s : Store) where
  loses_rid : (now : ℕ) (why : Why) (p : Record → Bool) (o : Option Record) → last p (class_at class s.classes).records ≡ o → Loses setup class s (rid setup now why o s)
  loses_rid now why p None e = nothing
  loses_rid now why p (Some r) e = loses now why r (last_on p (class_at class s.classes).records e).0

  loses_else : {x y : Option Store} → Loses setup class s x → Loses setup class s y → Loses setup class s (or_else x y)
  loses_else nothing l = l
  loses_else (loses now why r o) l = loses now why r o

  loses_if : (b : Bool) (x : Option Store) → Loses setup class s x → Loses setup class s (cond b x None)
  loses_if true x l = l
  loses_if false x l = nothing

-- ONE TABLE

module _ (setup : Setup) (class : ℕ) (num : Numbered setup class) (s : Store) (sound : Sound setup s.classes) where
  once_here : (key : Key) → count (has_key key) (class_at class s.classes).records ≤ 1
  once_here key = let all = sound.once key in let part = class_count (has_key key) s.classes (class - 1) in omega arith

  module _ (now : ℕ) (why : Why) (r : Record) (on : On r (class_at class s.classes).records) where
    live : Lives setup r s.classes
    live = class_lives setup s sound class num.low r on

    home : class_no setup r ≡ class
    home = class_home setup s sound class num.low r on

    -- the class loses just that record
    left_is : (remove setup now why r s).classes ≡ set s.classes (class - 1) (without r.key (class_at class s.classes))
    left_is = ap (λ c. set s.classes (c - 1) (without r.key (class_at c s.classes))) home

    left_length : length (filter (other_key r.key) (class_at class s.classes).records) + 1 ≡ length (class_at class s.classes).records
    left_length =
        let lost = length_other r.key (class_at class s.classes).records in
        let own = subst (λ c. count (has_key r.key) (class_at c s.classes).records ≡ 1) home (own_key setup s.classes sound r live) in
        omega arith

    left_room : has_room setup class (remove setup now why r s) ≡ true
    left_room = subst (λ c. has_room setup c (remove setup now why r s) ≡ true) home (room_removed setup s sound now why r live)

    left_sound : Sound setup (remove setup now why r s).classes
    left_sound = sound_without setup s.classes sound r live

-- BOTH TABLES

module _ (setup : Setup) (class : ℕ) (num : Numbered setup class) (s : Store) (full : has_room setup class s ≡ false) where
  -- the larger table has room, whatever the smaller does
  room_for : (t : Store) → Above setup s t → has_room setup class t ≡ true → {o : Option Store} → Loses setup class s o → GrantPair setup class s o (Some t)
  room_for t rel room nothing = (rel, full, room)
  room_for t rel room (loses now why r on) =
      let ks = s.classes in
      let k = class_at class ks in
      let pair = rel.pairs (class - 1) in
      let crowd = ltb-false _ _ full in
      let space = ltb-true _ _ room in
      let shorter = left_length setup class num s rel.small now why r on in
      let new : Pair s.free (chunks_of (size_at setup.sizes class)) (without r.key k) (class_at class t.classes) =
      record { within = within_fewer (other_key r.key) pair.within; extras = omega arith; alike = pair.alike } in
      let pairs = pairs_small (λ i. Pair s.free (chunks_of (get_or setup.sizes i 0))) ks t.classes (class - 1) rel.pairs (in_range setup s.classes rel.small class num) (without r.key k) new in (
        record {
          free = rel.free;
          pairs = subst (λ us. Pairs setup s.free us t.classes) (sym (left_is setup class num s rel.small now why r on)) pairs;
          small = left_sound setup class num s rel.small now why r on;
          large = rel.large;
        },
        left_room setup class num s rel.small now why r on,
        room,
      )

  module _ (t : Store) (rel : Above setup s t) where
    -- without the last that passes a test, in both tables
    fewer_within : (p : Record → Bool) → ((x y : Record) → Same x y → p x ≡ p y) → (o q : Option Record) → last p (class_at class s.classes).records ≡ o → last p (class_at class t.classes).records ≡ q → Within Same (pruned o (class_at class s.classes).records) (pruned q (class_at class t.classes).records)
    fewer_within p alike o q e f =
        subst₂ (Within Same)
        (pruned_is p (class_at class s.classes).records (once_here setup class num s rel.small) o e)
        (pruned_is p (class_at class t.classes).records (once_here setup class num t rel.large) q f)
        (within_shorn p alike (rel.pairs (class - 1)).within)

    -- only the larger table loses a record
    lost_large : (now : ℕ) (why : Why) (y : Record) → On y (class_at class t.classes).records → Within Same (class_at class s.classes).records (filter (other_key y.key) (class_at class t.classes).records) → Above setup s (remove setup now why y t)
    lost_large now why y on within =
        let l = class_at class t.classes in
        let pair = rel.pairs (class - 1) in
        let extras = pair.extras in
        let shorter = left_length setup class num t rel.large now why y on in
        let new : Pair s.free (chunks_of (size_at setup.sizes class)) (class_at class s.classes) (without y.key l) =
        record { within = within; extras = omega arith; alike = pair.alike } in
        let pairs = pairs_large (λ i. Pair s.free (chunks_of (get_or setup.sizes i 0))) s.classes t.classes (class - 1) rel.pairs (in_range setup t.classes rel.large class num) (without y.key l) new in
        record {
          free = rel.free;
          pairs = subst (Pairs setup s.free s.classes) (sym (left_is setup class num t rel.large now why y on)) pairs;
          small = rel.small;
          large = left_sound setup class num t rel.large now why y on;
        }

    -- both tables lose a record
    lost_both : (now : ℕ) (why : Why) (x y : Record) → On x (class_at class s.classes).records → On y (class_at class t.classes).records → Within Same (filter (other_key x.key) (class_at class s.classes).records) (filter (other_key y.key) (class_at class t.classes).records) → Above setup (remove setup now why x s) (remove setup now why y t)
    lost_both now why x y on_x on_y within =
        let k = class_at class s.classes in
        let l = class_at class t.classes in
        let pair = rel.pairs (class - 1) in
        let extras = pair.extras in
        let shorter_x = left_length setup class num s rel.small now why x on_x in
        let shorter_y = left_length setup class num t rel.large now why y on_y in
        let new : Pair s.free (chunks_of (size_at setup.sizes class)) (without x.key k) (without y.key l) =
        record { within = within; extras = omega arith; alike = pair.alike } in
        let pairs = pairs_both (λ i. Pair s.free (chunks_of (get_or setup.sizes i 0))) s.classes t.classes (class - 1) rel.pairs (in_range setup t.classes rel.large class num) (without y.key l) (in_range setup s.classes rel.small class num) (without x.key k) new in
        record {
          free = rel.free;
          pairs = subst₂ (Pairs setup s.free) (sym (left_is setup class num s rel.small now why x on_x)) (sym (left_is setup class num t rel.large now why y on_y)) pairs;
          small = left_sound setup class num s rel.small now why x on_x;
          large = left_sound setup class num t rel.large now why y on_y;
        }

    -- one way to lose a record, with the ways that are tried after it
    rid_both : (p : Record → Bool) → ((x y : Record) → Same x y → p x ≡ p y) → (now : ℕ) (why : Why) (o q : Option Record) → last p (class_at class s.classes).records ≡ o → last p (class_at class t.classes).records ≡ q
        → {x : Option Store} (y : Option Store) → Loses setup class s x → GrantPair setup class s x y → GrantPair setup class s (or_else (rid setup now why o s) x) (or_else (rid setup now why q t) y)
    rid_both p alike now why None None e f y l g = g
    rid_both p alike now why None (Some b) e f y l g =
        let on_b = (last_on p (class_at class t.classes).records f).0 in
        room_for (remove setup now why b t) (lost_large now why b on_b (fewer_within p alike None (Some b) e f)) (left_room setup class num t rel.large now why b on_b) l
    rid_both p alike now why (Some a) None e f y l g =
        let later : is_some (last p (class_at class t.classes).records) ≡ true = last_later p alike (rel.pairs (class - 1)).within (ap is_some e) in
        let z : ◌≡◌ {A = ℕ} 0 1 = cc in
        absurd (omega arith)
    rid_both p alike now why (Some a) (Some b) e f y l g =
        let on_a = (last_on p (class_at class s.classes).records e).0 in
        let on_b = (last_on p (class_at class t.classes).records f).0 in
        (lost_both now why a b on_a on_b (fewer_within p alike (Some a) (Some b) e f), left_room setup class num s rel.small now why a on_a, left_room setup class num t rel.large now why b on_b)

    or_none : (o : Option Store) → or_else o None ≡ o
    or_none None = refl
    or_none (Some u) = refl

    -- neither has a chunk or a page
    lose_both : (policy : Meaning) (now : ℕ)
        → GrantPair setup class s
        (or_else (rid setup now Expired (rear_dead now class s) s) (cond policy.evicting (rid setup now Evicted (rear class s) s) None))
        (or_else (rid setup now Expired (rear_dead now class t) t) (cond policy.evicting (rid setup now Evicted (rear class t) t) None))
    lose_both policy now =
        rid_both (dead now) (same_dead now) now Expired (rear_dead now class s) (rear_dead now class t) refl refl _
        (loses_if setup class s policy.evicting _ (loses_rid setup class s now Evicted (λ _. true) (rear class s) refl))
        (by policy.evicting)
      where
        by : (b : Bool) → GrantPair setup class s (cond b (rid setup now Evicted (rear class s) s) None) (cond b (rid setup now Evicted (rear class t) t) None)
        by true =
            subst₂ (GrantPair setup class s) (or_none (rid setup now Evicted (rear class s) s)) (or_none (rid setup now Evicted (rear class t) t))
            (rid_both (λ _. true) same_any now Evicted (rear class s) (rear class t) refl refl None nothing tt)
        by false = tt

-- THE GRANT

module _ (setup : Setup) (plan : Planned setup) (class : ℕ) (num : Numbered setup class) (s t : Store) (rel : Above setup s t) where
  -- both tables give the class a page
  page_both : 0 < s.free → Above setup (give_page class s) (give_page class t)
  page_both some =
      let fewer = rel.free in
      let pairs : Pairs setup (s.free - 1) s.classes t.classes = λ i. pair_fewer (rel.pairs i) (s.free - 1) (omega arith) in
      record {
        free = omega arith;
        pairs = pairs_both (λ i. Pair (s.free - 1) (chunks_of (get_or setup.sizes i 0))) s.classes t.classes (class - 1) pairs (in_range setup t.classes rel.large class num) (paged (class_at class t.classes)) (in_range setup s.classes rel.small class num) (paged (class_at class s.classes))
            (pair_page (rel.pairs (class - 1)) (s.free - 1) (omega arith));
        small = sound_page setup s.classes rel.small class num;
        large = sound_page setup t.classes rel.large class num;
      }

  -- only the larger has one
  page_large : s.free ≡ 0 → Above setup s (give_page class t)
  page_large none =
      record {
        free = omega arith;
        pairs = pairs_large (λ i. Pair s.free (chunks_of (get_or setup.sizes i 0))) s.classes t.classes (class - 1) rel.pairs (in_range setup t.classes rel.large class num) (paged (class_at class t.classes)) (pair_page_more (rel.pairs (class - 1)) none);
        small = rel.small;
        large = sound_page setup t.classes rel.large class num;
      }

  -- a class of the smaller with a free chunk has one in the larger
  room_stays : has_room setup class s ≡ true → has_room setup class t ≡ true
  room_stays room =
      let space = ltb-true _ _ room in
      let extras = (rel.pairs (class - 1)).extras in
      lt-ltb _ _ (omega arith)

  -- while the smaller has a free page, a class without a free chunk has none in the larger
  full_stays : has_room setup class s ≡ false → 0 < s.free → has_room setup class t ≡ false
  full_stays full some =
      let crowd = ltb-false _ _ full in
      let alike = (rel.pairs (class - 1)).alike some in
      let longer = within_length (rel.pairs (class - 1)).within in
      le-ltb _ _ (omega arith)

  pub granted_both : (policy : Meaning) (now : ℕ) → GrantPair setup class s (grant setup policy now class s) (grant setup policy now class t)
  granted_both policy now = by (has_room setup class s) (has_room setup class t) (ltb 0 s.free) (ltb 0 t.free) refl refl refl refl
    where
      last_way : Store → Option Store
      last_way u = or_else (rid setup now Expired (rear_dead now class u) u) (cond policy.evicting (rid setup now Evicted (rear class u) u) None)

      loses_last : Loses setup class s (last_way s)
      loses_last =
          loses_else setup class s (loses_rid setup class s now Expired (dead now) (rear_dead now class s) refl)
          (loses_if setup class s policy.evicting _ (loses_rid setup class s now Evicted (λ _. true) (rear class s) refl))

      absurdly : {A : Type 0} → true ≡ false → A
      absurdly e = absurd (true≢false e)

      by : (a b f g : Bool) → has_room setup class s ≡ a → has_room setup class t ≡ b → ltb 0 s.free ≡ f → ltb 0 t.free ≡ g
          → GrantPair setup class s (cond a (Some s) (cond f (Some (give_page class s)) (last_way s))) (cond b (Some t) (cond g (Some (give_page class t)) (last_way t)))
      by true true f g ea eb ef eg = (rel, ea, eb)
      by true false f g ea eb ef eg = absurdly (sym (room_stays ea) ∙ eb)
      by false true true g ea eb ef eg = absurdly (sym eb ∙ full_stays ea (ltb-true _ _ ef))
      by false true false g ea eb ef eg = room_for setup class num s ea t rel eb loses_last
      by false false true true ea eb ef eg =
          (page_both (ltb-true _ _ ef), room_given setup s rel.small plan class num, room_given setup t rel.large plan class num)
      by false false true false ea eb ef eg =
          let some = ltb-true _ _ ef in let none = ltb-false _ _ eg in let le = rel.free in absurd (omega arith)
      by false false false true ea eb ef eg =
          let none = ltb-false _ _ ef in
          room_for setup class num s ea (give_page class t) (page_large (omega arith)) (room_given setup t rel.large plan class num) loses_last
      by false false false false ea eb ef eg = lose_both setup class num s ea t rel policy now
