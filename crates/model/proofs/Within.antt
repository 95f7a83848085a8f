-- One list within another: what a filter, a search and the loss of the last that passes leave of that. Assumes nothing.
use Rattle.std.proofs.Common.{◌≡◌, ℕ, ◌+◌, ◌≤◌, Bool, true, false, cond, List, [], ◌∷◌, ◌++◌, map, length, is_some, Some, None, filter, Option, sym, refl, arith}
use Rattle.model.specs.Store.{first, last}
use Rattle.model.specs.Promises.{Within, done, both, over}
use Rattle.model.proofs.Held.{count, count_cons, none_first}

-- a list without the last that passes a test
abbrev pub shorn : {A : Type 0} → (A → Bool) → List A → List A
shorn p [] = []
shorn p (x ∷ xs) = cond (is_some (last p xs)) (x ∷ shorn p xs) (cond (p x) xs (x ∷ xs))

-- what a search found in the first list stands in the second
abbrev pub Met : {A : Type 0} → (A → A → Type 0) → Option A → Option A → Type 0
Met R None o = Unit {0}
Met R (Some x) None = ⊥
Met R (Some x) (Some y) = R x y

module _ {A : Type 0} {R : A → A → Type 0} where
  pub none_within : (ys : List A) → Within R [] ys
  none_within [] = done
  none_within (y ∷ ys) = over (none_within ys)

  pub within_length : {xs ys : List A} → Within R xs ys → length xs ≤ length ys
  within_length done = omega arith
  within_length (both r w) = let h = within_length w in omega arith
  within_length (over w) = let h = within_length w in omega arith

  pub within_append : {xs ys us vs : List A} → Within R xs ys → Within R us vs → Within R (xs ++ us) (ys ++ vs)
  within_append done v = v
  within_append (both r w) v = both r (within_append w v)
  within_append (over w) v = over (within_append w v)

  pub within_map : (f : A → A) → ((x y : A) → R x y → R (f x) (f y)) → {xs ys : List A} → Within R xs ys → Within R (map f xs) (map f ys)
  within_map f keeps done = done
  within_map f keeps (both r w) = both (keeps _ _ r) (within_map f keeps w)
  within_map f keeps (over w) = over (within_map f keeps w)

  fewer_at : (b : Bool) (x : A) {y : A} {us ys : List A} → R x y → Within R us ys → Within R (cond b (x ∷ us) us) (y ∷ ys)
  fewer_at true x r w = both r w
  fewer_at false x r w = over w

  -- fewer of the first list are within the second too
  pub within_fewer : (p : A → Bool) {xs ys : List A} → Within R xs ys → Within R (filter p xs) ys
  within_fewer p done = done
  within_fewer p (both {x = x} r w) = fewer_at (p x) x r (within_fewer p w)
  within_fewer p (over w) = over (within_fewer p w)

-- a list loses nothing where none passes
pub shorn_none : {A : Type 0} (p : A → Bool) (xs : List A) → is_some (last p xs) ≡ false → shorn p xs ≡ xs
shorn_none p [] h = refl
shorn_none p (x ∷ xs) h = grind arith

-- a test that answers alike for what R ties
module _ {A : Type 0} {R : A → A → Type 0} (p : A → Bool) (alike : (x y : A) → R x y → p x ≡ p y) where
  kept_both : (b : Bool) (x y : A) {us vs : List A} → R x y → Within R us vs → Within R (cond b (x ∷ us) us) (cond b (y ∷ vs) vs)
  kept_both true x y r w = both r w
  kept_both false x y r w = w

  kept_over : (b : Bool) (y : A) {us vs : List A} → Within R us vs → Within R us (cond b (y ∷ vs) vs)
  kept_over true y w = over w
  kept_over false y w = w

  pub within_kept : {xs ys : List A} → Within R xs ys → Within R (filter p xs) (filter p ys)
  within_kept done = done
  within_kept (both {x = x} {y = y} r w) = rw (alike x y r) (kept_both (p y) x y r (within_kept w))
  within_kept (over {y = y} w) = kept_over (p y) y (within_kept w)

  pub within_count : {xs ys : List A} → Within R xs ys → count p xs ≤ count p ys
  within_count w = within_length (within_kept w)

  -- a filter takes no more from the first list than from the second
  pub within_lost : {xs ys : List A} → Within R xs ys → length (filter p ys) + length xs ≤ length (filter p xs) + length ys
  within_lost done = omega arith
  within_lost (both {x = x} {y = y} {xs = xs} {ys = ys} r w) = let h = within_lost w in let e = alike x y r in let c = count_cons p x xs in let d = count_cons p y ys in grind arith
  within_lost (over {y = y} {ys = ys} w) = let h = within_lost w in let d = count_cons p y ys in grind arith

  first_both : (b : Bool) (x y : A) (o q : Option A) → R x y → Met R o q → Met R (cond b (Some x) o) (cond b (Some y) q)
  first_both true x y o q r m = r
  first_both false x y o q r m = m

  first_over : (b : Bool) (y : A) (o q : Option A) → Met R o q → (b ≡ true → o ≡ None) → Met R o (cond b (Some y) q)
  first_over true y o q m h = rw (h refl) tt
  first_over false y o q m h = m

  -- where at most one passes, the same is found
  pub within_first : {xs ys : List A} → Within R xs ys → count p ys ≤ 1 → Met R (first p xs) (first p ys)
  within_first done few = tt
  within_first (both {x = x} {y = y} {ys = ys} r w) few =
      let d = count_cons p y ys in
      rw (alike x y r) (first_both (p y) x y _ _ r (within_first w (omega arith)))
  within_first (over {y = y} {xs = xs} {ys = ys} w) few =
      let d = count_cons p y ys in
      let c = within_count w in
      first_over (p y) y _ _ (within_first w (omega arith)) (λ e. none_first p xs (grind arith))

  -- the last that passes
  pub last_later : {xs ys : List A} → Within R xs ys → is_some (last p xs) ≡ true → is_some (last p ys) ≡ true
  last_later done h = h
  last_later (both {x = x} {y = y} r w) h = let rec = last_later w in let e = alike x y r in grind arith
  last_later (over w) h = let rec = last_later w in grind arith

  shorn_both : (a b c : Bool) (x y : A) {xs ys us vs : List A} → R x y → Within R xs ys → Within R us vs → (a ≡ true → b ≡ true) → (a ≡ false → us ≡ xs) → (b ≡ false → vs ≡ ys) → Within R (cond a (x ∷ us) (cond c xs (x ∷ xs))) (cond b (y ∷ vs) (cond c ys (y ∷ ys)))
  shorn_both true true c x y r w v ab ea eb = both r v
  shorn_both true false c x y r w v ab ea eb = let e : true ≡ false = sym (ab refl) in let z : ◌≡◌ {A = ℕ} 0 1 = cc in absurd (omega arith)
  shorn_both false true true x y r w v ab ea eb = over (rw (← ea refl) v)
  shorn_both false true false x y r w v ab ea eb = both r (rw (← ea refl) v)
  shorn_both false false true x y r w v ab ea eb = w
  shorn_both false false false x y r w v ab ea eb = both r w

  shorn_over : (b c : Bool) (y : A) {xs ys us vs : List A} → Within R xs ys → Within R us vs → (b ≡ false → us ≡ xs) → Within R us (cond b (y ∷ vs) (cond c ys (y ∷ ys)))
  shorn_over true c y w v e = over v
  shorn_over false true y w v e = rw (e refl) w
  shorn_over false false y w v e = over (rw (e refl) w)

  -- two lists that both lose the last that passes
  pub within_shorn : {xs ys : List A} → Within R xs ys → Within R (shorn p xs) (shorn p ys)
  within_shorn done = done
  within_shorn (both {x = x} {y = y} {xs = xs} {ys = ys} r w) =
      rw (alike x y r)
      (shorn_both (is_some (last p xs)) (is_some (last p ys)) (p y) x y r w (within_shorn w) (last_later w) (shorn_none p xs) (shorn_none p ys))
  within_shorn (over {y = y} {xs = xs} {ys = ys} w) =
      shorn_over (is_some (last p ys)) (p y) y w (within_shorn w) (λ e. shorn_none p xs (none_before e))
    where
      none_before : is_some (last p ys) ≡ false → is_some (last p xs) ≡ false
      none_before e = let h = last_later w in grind arith
