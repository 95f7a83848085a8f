-- What every store of a run keeps: each record is in its own class, no key is held twice, and no class is overfull. Assumes nothing.
use Rattle.std.proofs.Common.{◌≡◌, ℕ, ◌+◌, ◌-◌, ◌<◌, ◌≤◌, Bool, true, false, cond, List, [], ◌∷◌, map, length, get_or, set, Some, None, filter, Option, sym, refl, ap, ◌∙◌, subst, ⊎_elim, add-mul, arith, length-set, get_or-set_other, get_or-set_same}
use lib.ListN.{length-map}
use Rattle.std.specs.List.{flat_map, AllByRecursion}
use Rattle.std.specs.Str.{bytes_eq}
use Rattle.std.proofs.ByRecursion.{all_kept_by, All-map, All-weaker}
use Rattle.std.proofs.lemmas.List.{get_or_past}
use Rattle.std.proofs.lemmas.List.Sums.{sum_by-set, get_or-le-sum_by}
use Rattle.std.proofs.lemmas.Bool.{cases_eq, cases_lt, cond_both}
use Rattle.plan.specs.Classes.{size_at, chunks_of}
pub use Rattle.model.specs.Sound.{Sound, Numbered}
use Rattle.model.specs.Setup.{Setup, chunks}
use Rattle.model.specs.Records.{Key, Record, has_key, other_key, class_no, expiring}
use Rattle.model.specs.Store.{Class, bare, class_at, with_records, with_page, records_of, first, aged}
use Rattle.model.proofs.Held.{On, count, count_cons, count_some, count_kept, count_joined, length_joined, first_on, first_none, only_one, on_joined, joined_on, all_on, same_key, key_is, count_other, length_other}

-- CHANGING ONE CLASS

-- at another class, nothing changes
pub at_other : (ks : List Class) (k : Class) (class d : ℕ) → 1 ≤ class → 1 ≤ d → (d ≡ class → ⊥) → class_at d (set ks (class - 1) k) ≡ class_at d ks
at_other ks k class d low high ne = get_or-set_other ks (class - 1) (d - 1) k bare (λ e. ne (omega arith))

pub at_same : (ks : List Class) (k : Class) (class : ℕ) → class - 1 < length ks → class_at class (set ks (class - 1) k) ≡ k
at_same ks k class lt = get_or-set_same ks (class - 1) k bare lt

-- what holds of the changed class, and of every other as before, holds of all
pub at_each : (P : ℕ → Class → Type 0) (ks : List Class) (k : Class) (class : ℕ) → 1 ≤ class → class - 1 < length ks → P class k → ((d : ℕ) → 1 ≤ d → P d (class_at d ks)) → (d : ℕ) → 1 ≤ d → P d (class_at d (set ks (class - 1) k))
at_each P ks k class low lt new old d high =
    ⊎_elim
    (λ e. subst (λ n. P n (class_at n (set ks (class - 1) k))) (sym e) (subst (P class) (sym (at_same ks k class lt)) new))
    (λ ne. subst (P d) (sym (at_other ks k class d low high ne)) (old d high))
    (cases_eq d class)

module _ (setup : Setup) (ks : List Class) (sound : Sound setup ks) (class : ℕ) (num : Numbered setup class) where
  pub in_range : class - 1 < length ks
  in_range = omega (arith, sound.size, num.low, num.high)

  -- how a count over all classes changes with one class
  pub count_set_by : (p : Record → Bool) (k : Class) → count p (flat_map records_of (set ks (class - 1) k)) + count p (class_at class ks).records ≡ count p (flat_map records_of ks) + count p k.records
  count_set_by p k =
      rw (count_joined p records_of (set ks (class - 1) k), count_joined p records_of ks)
      (sum_by-set (λ k. count p (records_of k)) ks (class - 1) k bare in_range)

  pub count_set : (k : Class) (key : Key) → count (has_key key) (flat_map records_of (set ks (class - 1) k)) + count (has_key key) (class_at class ks).records ≡ count (has_key key) (flat_map records_of ks) + count (has_key key) k.records
  count_set k key = count_set_by (has_key key) k

  pub length_set_class : (k : Class) → length (flat_map records_of (set ks (class - 1) k)) + length (class_at class ks).records ≡ length (flat_map records_of ks) + length k.records
  length_set_class k =
      rw (length_joined records_of (set ks (class - 1) k), length_joined records_of ks)
      (sum_by-set (λ k. length (records_of k)) ks (class - 1) k bare in_range)

  -- a class may be changed to one whose records belong there, add no key that is held, and have their chunks
  pub sound_set : (k : Class) → AllByRecursion (λ r. class_no setup r ≡ class) k.records → ((key : Key) → count (has_key key) (flat_map records_of ks) + count (has_key key) k.records ≤ 1 + count (has_key key) (class_at class ks).records) → length k.records ≤ chunks setup class k.pages → Sound setup (set ks (class - 1) k)
  sound_set k own keys fit =
      let low = num.low in
      record {
        size = length-set ks (class - 1) k ∙ sound.size;
        homes = at_each (λ d x. AllByRecursion (λ r. class_no setup r ≡ d) x.records) ks k class low in_range own sound.homes;
        once = λ key. let c = count_set k key in let h = keys key in omega arith;
        fits = at_each (λ d x. length x.records ≤ chunks setup d x.pages) ks k class low in_range fit sound.fits;
      }

-- WHERE A RECORD IS

pub nothing_on : {A : Type 0} {x : A} → On x [] → ⊥
nothing_on o = elim o [ ]

-- a record that is held, and where
pub record Lives (setup : Setup) (r : Record) (ks : List Class) : Type 0 where
  pub numbered : Numbered setup (class_no setup r)
  pub on : On r (class_at (class_no setup r) ks).records

module _ (setup : Setup) (ks : List Class) (sound : Sound setup ks) where
  pub lives : (r : Record) → On r (flat_map records_of ks) → Lives setup r ks
  lives r o = place (joined_on records_of ks bare o)
    where
      place : ((i : ℕ) × (i < length ks) × On r (records_of (get_or ks i bare))) → Lives setup r ks
      place h =
          let i = h.0 in
          let back : i + 1 - 1 ≡ i = omega arith in
          let at : On r (class_at (i + 1) ks).records = subst (λ n. On r (get_or ks n bare).records) (sym back) h.2 in
          let home : class_no setup r ≡ i + 1 = all_on (λ r. class_no setup r ≡ i + 1) (sound.homes (i + 1) (omega arith)) at in
          record {
            numbered = record { low = omega arith; high = omega (arith, h.1, sound.size) };
            on = subst (λ n. On r (class_at n ks).records) (sym home) at;
          }

  -- the other way round: a record of a class is held
  pub on_class : (r : Record) (class : ℕ) → 1 ≤ class → On r (class_at class ks).records → On r (flat_map records_of ks)
  on_class r class low o = ⊎_elim (λ lt. on_joined records_of ks bare (class - 1) lt o) (λ ge. absurd (beyond ge)) (cases_lt (class - 1) (length ks))
    where
      beyond : length ks ≤ class - 1 → ⊥
      beyond ge = nothing_on (subst (λ k. On r k.records) (get_or_past ks (class - 1) bare ge) o)

  -- a search by key finds it
  pub found : (r : Record) → On r (flat_map records_of ks) → first (has_key r.key) (flat_map records_of ks) ≡ Some r
  found r o = go (first (has_key r.key) (flat_map records_of ks)) refl
    where
      go : (f : Option Record) → first (has_key r.key) (flat_map records_of ks) ≡ f → f ≡ Some r
      go None e =
          let none = first_none (has_key r.key) (flat_map records_of ks) e in
          let some = count_some (has_key r.key) o (same_key r.key) in
          absurd (omega arith)
      go (Some x) e =
          let at = first_on (has_key r.key) (flat_map records_of ks) e in
          ap Some (only_one (has_key r.key) (sound.once r.key) at.0 o at.1 (same_key r.key))

-- THE CHANGES

pub aged_key : (key : Key) (expiry : Option ℕ) (x : Record) → (aged key expiry x).key ≡ x.key
aged_key key expiry x = cond_both (has_key key x) (expiring expiry x) x (λ y. y.key ≡ x.key) (λ _. refl) (λ _. refl)

aged_home : (setup : Setup) (key : Key) (expiry : Option ℕ) (x : Record) → class_no setup (aged key expiry x) ≡ class_no setup x
aged_home setup key expiry x =
    cond_both (has_key key x) (expiring expiry x) x (λ y. class_no setup y ≡ class_no setup x) (λ _. refl) (λ _. refl)

pub aged_count : (key k : Key) (expiry : Option ℕ) (xs : List Record) → count (has_key key) (map (aged k expiry) xs) ≡ count (has_key key) xs
aged_count key k expiry [] = refl
aged_count key k expiry (x ∷ xs) =
    let h = aged_count key k expiry xs in
    let e = aged_key k expiry x in
    count_cons (has_key key) (aged k expiry x) (map (aged k expiry) xs) ∙ rw (e, h) (sym (count_cons (has_key key) x xs))

module _ (setup : Setup) (ks : List Class) (sound : Sound setup ks) where
  -- a page more
  pub sound_page : (class : ℕ) → Numbered setup class → Sound setup (with_page class ks)
  sound_page class num =
      let low = num.low in
      let fit = sound.fits class low in
      sound_set setup ks sound class num (record { pages = (class_at class ks).pages + 1; records = (class_at class ks).records })
      (sound.homes class low)
      (λ key. let h = sound.once key in omega arith)
      (omega (arith, add-mul (class_at class ks).pages 1 (chunks_of (size_at setup.sizes class))))

  -- the records of a class in another order, or fewer of them
  pub sound_fewer : (r : Record) → Lives setup r ks → (rs : List Record) → AllByRecursion (λ x. class_no setup x ≡ class_no setup r) rs → ((key : Key) → count (has_key key) rs ≤ count (has_key key) (class_at (class_no setup r) ks).records) → length rs ≤ length (class_at (class_no setup r) ks).records → Sound setup (with_records (class_no setup r) rs ks)
  sound_fewer r live rs own keys short =
      let fit = sound.fits (class_no setup r) live.numbered.low in
      sound_set setup ks sound (class_no setup r) live.numbered (record { pages = (class_at (class_no setup r) ks).pages; records = rs })
      own
      (λ key. let h = sound.once key in let k = keys key in omega arith)
      (omega arith)

  -- how often its key is held in its class: once
  pub own_key : (r : Record) → Lives setup r ks → count (has_key r.key) (class_at (class_no setup r) ks).records ≡ 1
  own_key r live =
      let c = class_no setup r in
      let some = count_some (has_key r.key) live.on (same_key r.key) in
      let all = sound.once r.key in
      let few : count (has_key r.key) (class_at c ks).records ≤ count (has_key r.key) (flat_map records_of ks) =
      rw (count_joined (has_key r.key) records_of ks)
      (get_or-le-sum_by (λ k. count (has_key r.key) (records_of k)) ks (c - 1) bare (omega (arith, sound.size, live.numbered.low, live.numbered.high))) in
      omega arith

  -- the record leaves
  pub sound_without : (r : Record) → Lives setup r ks → Sound setup (with_records (class_no setup r) (filter (other_key r.key) (class_at (class_no setup r) ks).records) ks)
  sound_without r live =
      let xs = (class_at (class_no setup r) ks).records in
      let shorter = length_other r.key xs in
      sound_fewer r live (filter (other_key r.key) xs)
      (all_kept_by (other_key r.key) (λ x. class_no setup x ≡ class_no setup r) xs (sound.homes (class_no setup r) live.numbered.low))
      (λ key. count_kept (has_key key) (other_key r.key) xs)
      (omega arith)

  -- a record of the same key and class goes to the front in its place
  pub sound_front : (r r' : Record) → Lives setup r ks → r'.key ≡ r.key → class_no setup r' ≡ class_no setup r → Sound setup (with_records (class_no setup r) (r' ∷ filter (other_key r.key) (class_at (class_no setup r) ks).records) ks)
  sound_front r r' live same home =
      let xs = (class_at (class_no setup r) ks).records in
      let lost = length_other r.key xs in
      let own = own_key r live in
      sound_fewer r live (r' ∷ filter (other_key r.key) xs)
      (home, all_kept_by (other_key r.key) (λ x. class_no setup x ≡ class_no setup r) xs (sound.homes (class_no setup r) live.numbered.low))
      (λ key. front_count key r.key (r') same xs own)
      (omega arith)
    where
      front_count : (key k : Key) (x : Record) → x.key ≡ k → (xs : List Record) → count (has_key k) xs ≡ 1 → count (has_key key) (x ∷ filter (other_key k) xs) ≤ count (has_key key) xs
      front_count key k x e xs one = by_key (bytes_eq key x.key) refl
        where
          by_key : (b : Bool) → bytes_eq key x.key ≡ b → length (cond b (x ∷ filter (has_key key) (filter (other_key k) xs)) (filter (has_key key) (filter (other_key k) xs))) ≤ count (has_key key) xs
          by_key true is =
              let same : key ≡ k = key_is key x.key is ∙ e in
              let none = count_other k xs in
              let gone : count (has_key key) (filter (other_key k) xs) ≡ 0 = rw same none in
              let mine : count (has_key key) xs ≡ 1 = rw same one in
              omega arith
          by_key false is = count_kept (has_key key) (other_key k) xs

  -- a record's expiry is set where it stands
  pub sound_aged : (r : Record) (expiry : Option ℕ) → Lives setup r ks → Sound setup (with_records (class_no setup r) (map (aged r.key expiry) (class_at (class_no setup r) ks).records) ks)
  sound_aged r expiry live =
      let xs = (class_at (class_no setup r) ks).records in
      let long = length-map xs (aged r.key expiry) in
      sound_fewer r live (map (aged r.key expiry) xs)
      (All-map (λ x. class_no setup x ≡ class_no setup r) (aged r.key expiry) xs
      (All-weaker (λ x. class_no setup x ≡ class_no setup r) (λ x. class_no setup (aged r.key expiry x) ≡ class_no setup r) (λ x e. aged_home setup r.key expiry x ∙ e) xs (sound.homes (class_no setup r) live.numbered.low)))
      (λ key. omega (arith, aged_count key r.key expiry xs))
      (omega arith)

  -- a record whose key is not held comes to the front of its class, which has room
  pub sound_insert : (r : Record) → Numbered setup (class_no setup r) → count (has_key r.key) (flat_map records_of ks) ≡ 0 → length (class_at (class_no setup r) ks).records < chunks setup (class_no setup r) (class_at (class_no setup r) ks).pages → Sound setup (with_records (class_no setup r) (r ∷ (class_at (class_no setup r) ks).records) ks)
  sound_insert r num new room =
      let xs = (class_at (class_no setup r) ks).records in
      sound_set setup ks sound (class_no setup r) num (record { pages = (class_at (class_no setup r) ks).pages; records = r ∷ xs })
      (refl, sound.homes (class_no setup r) num.low)
      (λ key. new_count key)
      (omega arith)
    where
      new_count : (key : Key) → count (has_key key) (flat_map records_of ks) + count (has_key key) (r ∷ (class_at (class_no setup r) ks).records) ≤ 1 + count (has_key key) (class_at (class_no setup r) ks).records
      new_count key = by_key (bytes_eq key r.key) refl
        where
          by_key : (b : Bool) → bytes_eq key r.key ≡ b → count (has_key key) (flat_map records_of ks) + length (cond b (r ∷ filter (has_key key) (class_at (class_no setup r) ks).records) (filter (has_key key) (class_at (class_no setup r) ks).records)) ≤ 1 + count (has_key key) (class_at (class_no setup r) ks).records
          by_key true is =
              let none : count (has_key key) (flat_map records_of ks) ≡ 0 = rw (key_is key r.key is) new in omega arith
          by_key false is = let h = sound.once key in omega arith
