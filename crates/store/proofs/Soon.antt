-- The seconds before which no record of a class is dead. Assumes nothing.
use Rattle.std.proofs.Common.{◌≡◌, ℕ, ◌+◌, ◌-◌, ◌<◌, ◌≤◌, Bool, true, false, cond, List, [], ◌∷◌, length, get_or, set, Some, None, filter, Option, sym, refl, subst, ⊎_elim, arith}
use Rattle.std.specs.List.{AllByRecursion}
use Rattle.std.proofs.ByRecursion.{all_kept_by, All-map, All-weaker}
use Rattle.std.proofs.lemmas.Bool.{cases_eq, cond_both, leb-false, lt-leb}
use Rattle.std.proofs.lemmas.List.{get_or-set_same, get_or-set_other}
use Rattle.model.specs.Setup.{Setup}
use Rattle.model.specs.Records.{Key, Record, class_no, has_key, other_key, expiring, dead, dead_at}
use Rattle.model.specs.Store.{Class, class_at, with_page, aged, last, or_else}
use Rattle.model.proofs.Held.{all_on}
use Rattle.model.proofs.Sound.{Sound, Numbered, Lives, at_same, at_other, in_range}
use Rattle.records.specs.Reading.{without_record, with_front, with_expiry}
use Rattle.store.specs.Showing.{Later, NotBefore, sooner}

-- no record of a class is dead before the second that is kept for the class
abbrev pub Soon : Setup → List ℕ → List Class → Type 0
Soon setup soonest ks = (class : ℕ) → Numbered setup class → AllByRecursion (NotBefore (get_or soonest class 0)) (class_at class ks).records

module _ (setup : Setup) (ks : List Class) (sound : Sound setup ks) (soonest : List ℕ) (soon : Soon setup soonest ks) where
  -- one class has other records
  pub soon_set : (class : ℕ) → Numbered setup class → (k : Class) → AllByRecursion (NotBefore (get_or soonest class 0)) k.records → Soon setup soonest (set ks (class - 1) k)
  soon_set class num k new d there =
      ⊎_elim
      (λ e.
      subst (λ n. AllByRecursion (NotBefore (get_or soonest n 0)) (class_at n (set ks (class - 1) k)).records) (sym e)
      (subst (λ x. AllByRecursion (NotBefore (get_or soonest class 0)) x.records) (sym (at_same ks k class (in_range setup ks sound class num))) new))
      (λ ne. subst (λ x. AllByRecursion (NotBefore (get_or soonest d 0)) x.records) (sym (at_other ks k class d num.low there.low ne)) (soon d there))
      (cases_eq d class)

  pub soon_page : (class : ℕ) → Numbered setup class → Soon setup soonest (with_page class ks)
  soon_page class num = soon_set class num _ (soon class num)

  module _ (r : Record) (live : Lives setup r ks) where
    others : AllByRecursion (NotBefore (get_or soonest (class_no setup r) 0)) (filter (other_key r.key) (class_at (class_no setup r) ks).records)
    others = all_kept_by (other_key r.key) (NotBefore (get_or soonest (class_no setup r) 0)) _ (soon (class_no setup r) live.numbered)

    pub soon_without : Soon setup soonest (without_record setup r ks)
    soon_without = soon_set (class_no setup r) live.numbered _ others

    pub soon_front : (now : ℕ) → Soon setup soonest (with_front setup now r ks)
    soon_front now =
        soon_set (class_no setup r) live.numbered _
        (all_on (NotBefore (get_or soonest (class_no setup r) 0)) (soon (class_no setup r) live.numbered) live.on, others)

-- A SECOND THAT IS KEPT ANEW

pub later_lower : {b c : ℕ} → b ≤ c → (o : Option ℕ) → Later c o → Later b o
later_lower le None h = tt
later_lower le (Some e) h = omega arith

sooner_low : (b : ℕ) (o : Option ℕ) → sooner b o ≤ b
sooner_low b None = omega arith
sooner_low b (Some e) = omega arith

pub sooner_later : (b : ℕ) (o : Option ℕ) → Later (sooner b o) o
sooner_later b None = tt
sooner_later b (Some e) = omega arith

pub soon_lower : (setup : Setup) (ks : List Class) (soonest soonest' : List ℕ) → ((class : ℕ) → get_or soonest' class 0 ≤ get_or soonest class 0) → Soon setup soonest ks → Soon setup soonest' ks
soon_lower setup ks soonest soonest' low soon class num =
    All-weaker (NotBefore (get_or soonest class 0)) (NotBefore (get_or soonest' class 0)) (λ r h. later_lower (low class) r.expiry h) (class_at class ks).records (soon class num)

-- the second of a class is no later than an expiry
abbrev pub noted : List ℕ → ℕ → Option ℕ → List ℕ
noted soonest class expiry = set soonest class (sooner (get_or soonest class 0) expiry)

module _ (soonest : List ℕ) (class : ℕ) (expiry : Option ℕ) (lt : class < length soonest) where
  abbrev now : List ℕ
  now = noted soonest class expiry

  noted_here : get_or now class 0 ≡ sooner (get_or soonest class 0) expiry
  noted_here = get_or-set_same soonest class (sooner (get_or soonest class 0) expiry) 0 lt

  noted_low : (d : ℕ) → get_or now d 0 ≤ get_or soonest d 0
  noted_low d =
      ⊎_elim
      (λ e. subst (λ n. get_or now n 0 ≤ get_or soonest n 0) (sym e) (omega (arith, noted_here, sooner_low (get_or soonest class 0) expiry)))
      (λ ne. omega (arith, get_or-set_other soonest class d (sooner (get_or soonest class 0) expiry) 0 ne))
      (cases_eq d class)

  pub noted_later : Later (get_or now class 0) expiry
  noted_later = subst (λ b. Later b expiry) (sym noted_here) (sooner_later (get_or soonest class 0) expiry)

  module _ (setup : Setup) (ks : List Class) (soon : Soon setup soonest ks) where
    pub soon_noted : Soon setup now ks
    soon_noted = soon_lower setup ks soonest now noted_low soon

aged_later : (b : ℕ) (key : Key) (expiry : Option ℕ) → Later b expiry → (x : Record) → NotBefore b x → NotBefore b (aged key expiry x)
aged_later b key expiry new x old = cond_both (has_key key x) (expiring expiry x) x (NotBefore b) (λ _. new) (λ _. old)

-- a record got an expiry that was noted
pub soon_aged : (setup : Setup) (ks : List Class) → Sound setup ks → (soonest : List ℕ) → Soon setup soonest ks → (r : Record) → Lives setup r ks → (expiry : Option ℕ) → Later (get_or soonest (class_no setup r) 0) expiry → Soon setup soonest (with_expiry setup expiry r ks)
soon_aged setup ks sound soonest soon r live expiry new =
    let class = class_no setup r in
    let b = get_or soonest class 0 in
    let xs = (class_at class ks).records in
    soon_set setup ks sound soonest soon class live.numbered _
    (All-map (NotBefore b) (aged r.key expiry) xs (All-weaker (NotBefore b) (λ x. NotBefore b (aged r.key expiry x)) (aged_later b r.key expiry new) xs (soon class live.numbered)))

-- WHAT IS DEAD

pub later_alive : (now bound : ℕ) → now < bound → (o : Option ℕ) → Later bound o → dead_at now o ≡ false
later_alive now bound lt None h = refl
later_alive now bound lt (Some e) h = lt-leb e now (omega arith)

alive_later : (now : ℕ) (o : Option ℕ) → dead_at now o ≡ false → Later (now + 1) o
alive_later now None h = tt
alive_later now (Some e) h = let lt = leb-false e now h in omega arith

last_none_at : (p : Record → Bool) (x : Record) (o : Option Record) (b : Bool) → p x ≡ b → or_else o (cond b (Some x) None) ≡ None → (o ≡ None) × (p x ≡ false)
last_none_at p x None false e h = (refl, e)
last_none_at p x None true e h = let z : ◌≡◌ {A = ℕ} 0 1 = cc in absurd (omega arith)
last_none_at p x (Some y) b e h = let z : ◌≡◌ {A = ℕ} 0 1 = cc in absurd (omega arith)

-- where a walk finds none, none passes
pub last_none : (p : Record → Bool) (xs : List Record) → last p xs ≡ None → AllByRecursion (λ x. p x ≡ false) xs
last_none p [] h = tt
last_none p (x ∷ xs) h = let at = last_none_at p x (last p xs) (p x) refl h in (at.1, last_none p xs at.0)

none_last : (p : Record → Bool) (xs : List Record) → AllByRecursion (λ x. p x ≡ false) xs → last p xs ≡ None
none_last p [] a = refl
none_last p (x ∷ xs) a = rw (none_last p xs a.1, a.0)

-- no record is dead before its class's second
pub none_dead : (now bound : ℕ) → now < bound → (xs : List Record) → AllByRecursion (NotBefore bound) xs → last (dead now) xs ≡ None
none_dead now bound lt xs a = none_last (dead now) xs (All-weaker (NotBefore bound) (λ x. dead now x ≡ false) (λ x h. later_alive now bound lt x.expiry h) xs a)

-- the next second serves where none is dead
pub soon_next : (setup : Setup) (ks : List Class) (soonest : List ℕ) → Soon setup soonest ks → (class now : ℕ) → class < length soonest → last (dead now) (class_at class ks).records ≡ None → Soon setup (set soonest class (now + 1)) ks
soon_next setup ks soonest soon class now lt none d num =
    ⊎_elim
    (λ e.
    subst (λ n. AllByRecursion (NotBefore (get_or (set soonest class (now + 1)) n 0)) (class_at n ks).records) (sym e)
    (subst (λ b. AllByRecursion (NotBefore b) (class_at class ks).records) (sym (get_or-set_same soonest class (now + 1) 0 lt))
    (All-weaker (λ x. dead now x ≡ false) (NotBefore (now + 1)) (λ x h. alive_later now x.expiry h) (class_at class ks).records (last_none (dead now) (class_at class ks).records none))))
    (λ ne. subst (λ b. AllByRecursion (NotBefore b) (class_at d ks).records) (sym (get_or-set_other soonest class d (now + 1) 0 ne)) (soon d num))
    (cases_eq d class)
