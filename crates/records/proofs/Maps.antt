-- Lists of records that are read off lists of row numbers. Assumes nothing.
use Rattle.std.proofs.Common.{◌≡◌, ℕ, ◌+◌, ◌≤◌, Bool, true, false, cond, not, eqb, List, [], ◌∷◌, ◌++◌, map, Some, None, filter, Option, sym, refl, ap, ◌∙◌, subst, arith}
use Rattle.std.specs.Option.{option_map}
use Rattle.std.proofs.lemmas.Bool.{both_ways, eq-eqb, eqb-true, eqb-false}
use Rattle.recency.specs.Numbers as rows
use Rattle.recency.specs.Lists.{foremost, rearmost}
use Rattle.slabs.specs.Lists.{keep}
use Rattle.slabs.proofs.Ends.{foremost_in, rearmost_in}
use Rattle.recency.specs.Lists as lists
use Rattle.model.specs.Records.{Key, Record, has_key, other_key, expiring}
use Rattle.model.specs.Store.{first, last, or_else, aged}
use Rattle.recency.proofs.Counts.{count_without}
use Rattle.model.proofs.Held.{On, here, there, count, count_cons, count_some, same_key, on_map}

-- two readings that agree on a list of rows read the same list
pub map_same : {A : Type 0} (f g : ℕ → A) (ids : List ℕ) → ((k : ℕ) → On k ids → f k ≡ g k) → map f ids ≡ map g ids
map_same f g [] h = refl
map_same f g (i ∷ ids) h = rw (h i here, map_same f g ids (λ k o. h k (there o)))

-- a row that is counted is on the list
pub on_counted : (k : ℕ) (ids : List ℕ) → 1 ≤ rows.count k ids → On k ids
on_counted k [] h = absurd (omega arith)
on_counted k (i ∷ ids) h = by (eqb k i) refl (on_counted k ids)
  where
    by : (b : Bool) → eqb k i ≡ b → (1 ≤ rows.count k ids → On k ids) → On k (i ∷ ids)
    by true e rec = subst (λ n. On k (n ∷ ids)) (eqb-true k i e) here
    by false e rec = there (rec (let h2 : 1 ≤ cond (eqb k i) 1 0 + rows.count k ids = h in grind arith))

pub counted_on : {k : ℕ} {ids : List ℕ} → On k ids → 1 ≤ rows.count k ids
counted_on {k} here = let e = eq-eqb k k refl in grind arith
counted_on (there o) = let h = counted_on o in omega arith

-- the rows left on a list without one of them are others
pub on_without : {k i : ℕ} {ids : List ℕ} → On k (rows.without i ids) → On k ids × (k ≡ i → ⊥)
on_without {k} {i} {ids} o =
    let h = counted_on o in
    let c = count_without k i ids in (
      on_counted k ids (grind arith),
      λ same. let e = eq-eqb k i same in let z : ◌≡◌ {A = ℕ} 0 1 = grind arith in omega arith,
    )

-- two rows of a list whose records have a key are two records of that key
pub two_of : (p : Record → Bool) (f : ℕ → Record) {i k : ℕ} {ids : List ℕ} → On i ids → On k ids → (i ≡ k → ⊥) → p (f i) ≡ true → p (f k) ≡ true → 2 ≤ count p (map f ids)
two_of p f here here ne pi pk = absurd (ne refl)
two_of p f {i} {k} (here {xs = ids}) (there o) ne pi pk =
    let c = count_cons p (f i) (map f ids) in
    let h = count_some p (on_map f o) pk in
    grind arith
two_of p f {i} {k} (there {xs = ids} o) here ne pi pk =
    let c = count_cons p (f k) (map f ids) in
    let h = count_some p (on_map f o) pi in
    grind arith
two_of p f (there {y = y} {xs = ids} o) (there q) ne pi pk =
    let h = two_of p f o q ne pi pk in let c = count_cons p (f y) (map f ids) in omega arith

-- where no key comes twice, a row is told by its key
pub told_by_key : (f : ℕ → Record) (i : ℕ) (ids : List ℕ) → On i ids → ((key : Key) → count (has_key key) (map f ids) ≤ 1) → (k : ℕ) → On k ids → eqb i k ≡ has_key (f i).key (f k)
told_by_key f i ids at once k o = by (eqb i k) (has_key (f i).key (f k)) refl refl
  where
    by : (a b : Bool) → eqb i k ≡ a → has_key (f i).key (f k) ≡ b → a ≡ b
    by true true e h = refl
    by false false e h = refl
    by true false e h =
        absurd (both_ways (has_key (f i).key (f k)) h (subst (λ n. has_key (f i).key (f n) ≡ true) (eqb-true i k e) (same_key (f i).key)))
    by false true e h =
        let two = two_of (has_key (f i).key) f at o (eqb-false i k e) (same_key (f i).key) h in
        let one = once (f i).key in
        absurd (omega arith)

-- a list of rows without one is the list of records without its key
without_told : (f : ℕ → Record) (i : ℕ) (ids : List ℕ) → ((k : ℕ) → On k ids → eqb i k ≡ has_key (f i).key (f k)) → map f (rows.without i ids) ≡ filter (other_key (f i).key) (map f ids)
without_told f i [] told = refl
without_told f i (k ∷ ids) told = by (eqb i k) (has_key (f i).key (f k)) (told k here) (without_told f i ids (λ n o. told n (there o)))
  where
    by : (a b : Bool) → a ≡ b → map f (rows.without i ids) ≡ filter (other_key (f i).key) (map f ids) → map f (cond a (rows.without i ids) (k ∷ rows.without i ids)) ≡ cond (not b) (f k ∷ filter (other_key (f i).key) (map f ids)) (filter (other_key (f i).key) (map f ids))
    by true true e rec = rec
    by true false e rec = absurd (both_ways true e refl)
    by false true e rec = absurd (both_ways false refl e)
    by false false e rec = ap (λ xs. f k ∷ xs) rec

pub map_without : (f : ℕ → Record) (i : ℕ) (ids : List ℕ) → On i ids → ((key : Key) → count (has_key key) (map f ids) ≤ 1) → map f (rows.without i ids) ≡ filter (other_key (f i).key) (map f ids)
map_without f i ids at once = without_told f i ids (told_by_key f i ids at once)

-- a reading that differs at one row, which has another expiry
aged_told : (f g : ℕ → Record) (i : ℕ) (expiry : Option ℕ) (ids : List ℕ) → ((k : ℕ) → On k ids → eqb i k ≡ has_key (f i).key (f k)) → g i ≡ expiring expiry (f i) → ((k : ℕ) → (k ≡ i → ⊥) → g k ≡ f k) → map g ids ≡ map (aged (f i).key expiry) (map f ids)
aged_told f g i expiry [] told here_is other = refl
aged_told f g i expiry (k ∷ ids) told here_is other =
    by (eqb i k) (has_key (f i).key (f k)) refl (told k here) (aged_told f g i expiry ids (λ n o. told n (there o)) here_is other)
  where
    by : (a b : Bool) → eqb i k ≡ a → a ≡ b → map g ids ≡ map (aged (f i).key expiry) (map f ids) → g k ∷ map g ids ≡ cond b (expiring expiry (f k)) (f k) ∷ map (aged (f i).key expiry) (map f ids)
    by true true e same rec = let is = eqb-true i k e in rw rec (ap (λ x. x ∷ map (aged (f i).key expiry) (map f ids)) (subst (λ n. g n ≡ expiring expiry (f n)) is here_is))
    by true false e same rec = absurd (both_ways true same refl)
    by false true e same rec = absurd (both_ways false refl same)
    by false false e same rec = rw (rec, other k (λ h. eqb-false i k e (sym h)))

pub map_aged : (f g : ℕ → Record) (i : ℕ) (expiry : Option ℕ) (ids : List ℕ) → On i ids → ((key : Key) → count (has_key key) (map f ids) ≤ 1) → g i ≡ expiring expiry (f i) → ((k : ℕ) → (k ≡ i → ⊥) → g k ≡ f k) → map g ids ≡ map (aged (f i).key expiry) (map f ids)
map_aged f g i expiry ids at once here_is other = aged_told f g i expiry ids (told_by_key f i ids at once) here_is other

-- THE REAR

last_from : (f : ℕ → Record) (i : ℕ) (ids : List ℕ) → last (λ _. true) (map f (i ∷ ids)) ≡ Some (f (lists.last ids i))
last_from f i [] = refl
last_from f i (k ∷ ids) = ap (λ o. or_else o (Some (f i))) (last_from f k ids)

-- the rearmost row has the rearmost record
pub map_rear : (f : ℕ → Record) (ids : List ℕ) → last (λ _. true) (map f ids) ≡ option_map f (rearmost ids)
map_rear f [] = refl
map_rear f (i ∷ ids) = last_from f i ids

-- a walk from the back: none behind passes, and this one does
pub walk_found : (p : Record → Bool) (f : ℕ → Record) (a : List ℕ) (i : ℕ) (b : List ℕ) → p (f i) ≡ true → last p (map f b) ≡ None → last p (map f (a ++ i ∷ b)) ≡ Some (f i)
walk_found p f [] i b passes no_more = rw (no_more, passes)
walk_found p f (k ∷ a) i b passes no_more = rw (walk_found p f a i b passes no_more)

-- and one that fails too
pub walk_on : (p : Record → Bool) (f : ℕ → Record) (i : ℕ) (b : List ℕ) → p (f i) ≡ false → last p (map f b) ≡ None → last p (map f (i ∷ b)) ≡ None
walk_on p f i b fails no_more = rw (no_more, fails)

-- the rearmost of the rows that pass a test has the rearmost record that passes it
one_more_behind : (f : ℕ → Record) (i : ℕ) (ids : List ℕ) → option_map f (rearmost (i ∷ ids)) ≡ or_else (option_map f (rearmost ids)) (Some (f i))
one_more_behind f i [] = refl
one_more_behind f i (k ∷ ids) = refl

or_none : (o : Option Record) → or_else o None ≡ o
or_none None = refl
or_none (Some r) = refl

pub map_rear_that : (p : Record → Bool) (f : ℕ → Record) (ids : List ℕ) → last p (map f ids) ≡ option_map f (rearmost (keep (λ i. p (f i)) ids))
map_rear_that p f [] = refl
map_rear_that p f (i ∷ ids) = by (p (f i)) (map_rear_that p f ids)
  where
    by : (b : Bool) → last p (map f ids) ≡ option_map f (rearmost (keep (λ i. p (f i)) ids)) → or_else (last p (map f ids)) (cond b (Some (f i)) None) ≡ option_map f (rearmost (cond b (i ∷ keep (λ i. p (f i)) ids) (keep (λ i. p (f i)) ids)))
    by true rec = ap (λ o. or_else o (Some (f i))) rec ∙ sym (one_more_behind f i (keep (λ i. p (f i)) ids))
    by false rec = or_none (last p (map f ids)) ∙ rec

-- the foremost row has the foremost record
pub map_front : (f : ℕ → Record) (ids : List ℕ) → first (λ _. true) (map f ids) ≡ option_map f (foremost ids)
map_front f [] = refl
map_front f (i ∷ ids) = refl

-- what is picked from a list is on it
pub foremost_on : (ids : List ℕ) (i : ℕ) → Some i ≡ foremost ids → On i ids
foremost_on ids i e = on_counted i ids (foremost_in ids i e)

pub rearmost_on : (ids : List ℕ) (i : ℕ) → Some i ≡ rearmost ids → On i ids
rearmost_on ids i e = on_counted i ids (rearmost_in ids i e)

keep_fewer : (test : ℕ → Bool) (i : ℕ) (ids : List ℕ) → rows.count i (keep test ids) ≤ rows.count i ids
keep_fewer test i [] = omega arith
keep_fewer test i (k ∷ ids) = by (test k) (keep_fewer test i ids)
  where
    by : (b : Bool) → rows.count i (keep test ids) ≤ rows.count i ids → rows.count i (cond b (k ∷ keep test ids) (keep test ids)) ≤ rows.count i (k ∷ ids)
    by true h = omega arith
    by false h = omega arith

on_kept : (test : ℕ → Bool) (ids : List ℕ) (i : ℕ) → On i (keep test ids) → On i ids
on_kept test ids i o = on_counted i ids (let h = keep_fewer test i ids in let c = counted_on o in omega arith)

pub rearmost_that_on : (test : ℕ → Bool) (ids : List ℕ) (i : ℕ) → Some i ≡ rearmost (keep test ids) → On i ids
rearmost_that_on test ids i e = on_kept test ids i (rearmost_on (keep test ids) i e)
