-- Which records are on which list: counts of keys, and what a search finds. Assumes nothing.
use Rattle.std.proofs.Common.{◌≡◌, ℕ, zero, suc, ◌+◌, ◌<◌, ◌≤◌, Bool, true, false, cond, ◌⊎◌, List, [], ◌∷◌, ◌++◌, map, length, get_or, Some, None, sum_by, filter, Option, sym, refl, ap, ◌∙◌, subst, inl, inr, ⊎_elim, arith, length-append}
use Rattle.std.specs.List.{flat_map, AllByRecursion}
use Rattle.std.specs.Str.{bytes_eq}
use Rattle.std.proofs.lemmas.List.Elements.{filter-append}
use Rattle.std.proofs.lemmas.Slice.Eq.{bytes_eq-Decides}
use Rattle.std.proofs.lemmas.List.Filters.{length-filter_both}
use Rattle.std.proofs.lemmas.List.Sums.{sum_by-cons}
use Rattle.model.specs.Records.{Key, Record, has_key, other_key}
use Rattle.model.specs.Store.{first, last, or_else}

-- x stands on the list
pub data On {A : Type 0} (x : A) : List A → Type 0 where
  here : {xs : List A} → On x (x ∷ xs)
  there : {y : A} {xs : List A} → On x xs → On x (y ∷ xs)

-- how many pass a test
abbrev pub count : {A : Type 0} → (A → Bool) → List A → ℕ
count p xs = length (filter p xs)

pub count_cons : {A : Type 0} (p : A → Bool) (x : A) (xs : List A) → count p (x ∷ xs) ≡ cond (p x) 1 0 + count p xs
count_cons p x xs = grind arith

pub count_some : {A : Type 0} (p : A → Bool) {x : A} {xs : List A} → On x xs → p x ≡ true → 1 ≤ count p xs
count_some p {x} (here {xs = xs}) e = let c = count_cons p x xs in grind arith
count_some p {x} (there {y = y} {xs = xs} o) e = let h = count_some p o e in let c = count_cons p y xs in grind arith

-- a filter keeps at most what passes
pub count_kept : {A : Type 0} (p q : A → Bool) (xs : List A) → count p (filter q xs) ≤ count p xs
count_kept p q [] = omega arith
count_kept p q (x ∷ xs) = let h = count_kept p q xs in grind arith

-- what a search finds
first_on_at : {A : Type 0} (p : A → Bool) {x : A} (y : A) (xs : List A) (b : Bool) → p y ≡ b → (first p xs ≡ Some x → On x xs × (p x ≡ true)) → cond b (Some y) (first p xs) ≡ Some x → On x (y ∷ xs) × (p x ≡ true)
first_on_at p y xs true e rec h =
    let same : y ≡ _ = cc in (subst (λ z. On z (y ∷ xs)) same here, rw (← same) e)
first_on_at p y xs false e rec h = (there (rec h).0, (rec h).1)

pub first_on : {A : Type 0} (p : A → Bool) {x : A} (xs : List A) → first p xs ≡ Some x → On x xs × (p x ≡ true)
first_on p [] h = let z : ◌≡◌ {A = ℕ} 0 1 = cc in absurd (omega arith)
first_on p (y ∷ xs) h = first_on_at p y xs _ refl (first_on p xs) h

pub first_none : {A : Type 0} (p : A → Bool) (xs : List A) → first p xs ≡ None → count p xs ≡ 0
first_none p [] h = refl
first_none p (y ∷ xs) h = let rec = first_none p xs in grind arith

pub none_first : {A : Type 0} (p : A → Bool) (xs : List A) → count p xs ≡ 0 → first p xs ≡ None
none_first p [] h = refl
none_first p (y ∷ xs) h = let rec = none_first p xs in let c = count_cons p y xs in grind arith

-- where at most one passes, two that pass are the same
pub only_one : {A : Type 0} (p : A → Bool) {x y : A} {xs : List A} → count p xs ≤ 1 → On x xs → On y xs → p x ≡ true → p y ≡ true → x ≡ y
only_one p few here here ex ey = refl
only_one p {x} {y} few (here {xs = xs}) (there o) ex ey =
    let c = count_cons p x xs in
    let h = count_some p o ey in
    let z : ◌≡◌ {A = ℕ} 0 1 = grind arith in
    absurd (omega arith)
only_one p {x} {y} few (there {xs = xs} o) here ex ey =
    let c = count_cons p y xs in
    let h = count_some p o ex in
    let z : ◌≡◌ {A = ℕ} 0 1 = grind arith in
    absurd (omega arith)
only_one p few (there {y = z} {xs = xs} o) (there q) ex ey =
    let c = count_cons p z xs in only_one p (omega arith) o q ex ey

-- the last that passes
last_on_at : {A : Type 0} (p : A → Bool) {x : A} (y : A) (xs : List A) (o : Option A) (b : Bool) → p y ≡ b → (o ≡ Some x → On x xs × (p x ≡ true)) → or_else o (cond b (Some y) None) ≡ Some x → On x (y ∷ xs) × (p x ≡ true)
last_on_at p y xs (Some z) b e rec h = (there (rec h).0, (rec h).1)
last_on_at p y xs None true e rec h =
    let same : y ≡ _ = cc in (subst (λ z. On z (y ∷ xs)) same here, rw (← same) e)
last_on_at p y xs None false e rec h = let z : ◌≡◌ {A = ℕ} 0 1 = cc in absurd (omega arith)

pub last_on : {A : Type 0} (p : A → Bool) {x : A} (xs : List A) → last p xs ≡ Some x → On x xs × (p x ≡ true)
last_on p [] h = let z : ◌≡◌ {A = ℕ} 0 1 = cc in absurd (omega arith)
last_on p (y ∷ xs) h = last_on_at p y xs (last p xs) (p y) refl (last_on p xs) h

-- lists put together
pub on_left : {A : Type 0} {x : A} {xs : List A} (ys : List A) → On x xs → On x (xs ++ ys)
on_left ys here = here
on_left ys (there o) = there (on_left ys o)

pub on_right : {A : Type 0} {x : A} (xs : List A) {ys : List A} → On x ys → On x (xs ++ ys)
on_right [] o = o
on_right (z ∷ xs) o = there (on_right xs o)

pub on_append : {A : Type 0} {x : A} (xs ys : List A) → On x (xs ++ ys) → On x xs ⊎ On x ys
on_append [] ys o = inr o
on_append (z ∷ xs) ys here = inl here
on_append (z ∷ xs) ys (there o) = ⊎_elim (λ l. inl (there l)) (λ r. inr r) (on_append xs ys o)

-- what holds of each holds of one
pub all_on : {A : Type 0} (P : A → Type 0) {x : A} {xs : List A} → AllByRecursion P xs → On x xs → P x
all_on P a here = a.0
all_on P a (there o) = all_on P a.1 o

pub all_from_on : {A : Type 0} (P : A → Type 0) (xs : List A) → ((x : A) → On x xs → P x) → AllByRecursion P xs
all_from_on P [] h = tt
all_from_on P (x ∷ xs) h = (h x here, all_from_on P xs (λ y o. h y (there o)))

pub on_map : {A B : Type 0} (f : A → B) {x : A} {xs : List A} → On x xs → On (f x) (map f xs)
on_map f here = here
on_map f (there o) = there (on_map f o)

kept_cons : {A : Type 0} {x : A} (y : A) (xs : List A) (b : Bool) → On x xs → On x (cond b (y ∷ xs) xs)
kept_cons y xs true o = there o
kept_cons y xs false o = o

pub on_kept : {A : Type 0} (p : A → Bool) {x : A} {xs : List A} → On x xs → p x ≡ true → On x (filter p xs)
on_kept p (here {xs = xs}) e = rw e here
on_kept p (there {y = y} {xs = xs} o) e = kept_cons y (filter p xs) (p y) (on_kept p o e)

-- a record of a class is a record of the table
pub on_joined : {A K : Type 0} (f : K → List A) {x : A} (ks : List K) (d : K) (i : ℕ) → i < length ks → On x (f (get_or ks i d)) → On x (flat_map f ks)
on_joined f [] d i lt o = absurd (omega arith)
on_joined f (k ∷ ks) d zero lt o = on_left (flat_map f ks) o
on_joined f (k ∷ ks) d (suc i) lt o = on_right (f k) (on_joined f ks d i (omega arith) o)

-- and the other way round
pub joined_on : {A K : Type 0} (f : K → List A) {x : A} (ks : List K) (d : K) → On x (flat_map f ks) → (i : ℕ) × (i < length ks) × On x (f (get_or ks i d))
joined_on f [] d o = elim o [ ]
joined_on f {x} (k ∷ ks) d o =
    ⊎_elim
    (λ l. (0, omega arith, l))
    (λ r. later (joined_on f ks d r))
    (on_append (f k) (flat_map f ks) o)
  where
    later : ((i : ℕ) × (i < length ks) × On x (f (get_or ks i d))) → (i : ℕ) × (i < length (k ∷ ks)) × On x (f (get_or (k ∷ ks) i d))
    later h = let lt = h.1 in (suc h.0, omega arith, h.2)

-- counts over all classes
pub count_joined : {A K : Type 0} (p : A → Bool) (f : K → List A) (ks : List K) → count p (flat_map f ks) ≡ sum_by (λ k. count p (f k)) ks
count_joined p f [] = refl
count_joined p f (k ∷ ks) =
    ap length (filter-append p (f k) (flat_map f ks))
    ∙ length-append (filter p (f k)) (filter p (flat_map f ks))
    ∙ ap (λ n. count p (f k) + n) (count_joined p f ks)
    ∙ sym (sum_by-cons (λ k. count p (f k)) k ks)

pub length_joined : {A K : Type 0} (f : K → List A) (ks : List K) → length (flat_map f ks) ≡ sum_by (λ k. length (f k)) ks
length_joined f [] = refl
length_joined f (k ∷ ks) =
    length-append (f k) (flat_map f ks) ∙ ap (λ n. length (f k) + n) (length_joined f ks) ∙ sym (sum_by-cons (λ k. length (f k)) k ks)

-- KEYS

pub same_key : (key : Key) → bytes_eq key key ≡ true
same_key key = (bytes_eq-Decides key key).1 refl

pub key_is : (key other : Key) → bytes_eq key other ≡ true → key ≡ other
key_is key other e = (bytes_eq-Decides key other).0 e

-- without its key, no record of that key
pub count_other : (key : Key) (xs : List Record) → count (has_key key) (filter (other_key key) xs) ≡ 0
count_other key [] = refl
count_other key (x ∷ xs) = let h = count_other key xs in grind arith

-- how many records a list loses without a key
pub length_other : (key : Key) (xs : List Record) → count (has_key key) xs + length (filter (other_key key) xs) ≡ length xs
length_other key xs = length-filter_both (has_key key) (other_key key) (λ _. refl) xs
