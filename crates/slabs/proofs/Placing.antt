-- Which chunks rows have, and that a row keeps to the lists of its class.
use Rattle.std.proofs.Common.{◌≡◌, ℕ, ◌+◌, ◌*◌, ◌/◌, ◌%◌, ◌<◌, ◌≤◌, Bool, true, false, cond, eqb, List, [], ◌∷◌, map, length, get_or, take, set, sym, refl, ap, ◌∙◌, subst, ⊎_elim, mul-le-mul, arith, length-set, length-take}
use Rattle.std.proofs.lemmas.List.{get_or-set_same, get_or-set_other, get_or_past, get_or-map}
use Rattle.std.proofs.lemmas.Bool.{cases_eq, cases_lt, eqb-true}
use Rattle.std.proofs.lemmas.Bool.Decides.{nat_tests}
use Rattle.recency.specs.Numbers.{count, without}
use Rattle.slabs.specs.declared.class.Stand.{Stand}
use Rattle.slabs.specs.declared.class.Stand.TheVariants.{Free, Granted, Held}
use Rattle.slabs.specs.declared.class.Class.{Class}
use Rattle.slabs.specs.Classes.{no_class}
use Rattle.slabs.specs.Slabs.{cut}
use Rattle.slabs.specs.Lists.{list_of, held_of, out_of, shift}
use Rattle.slabs.specs.Layouts.{Layout, Placed, OfClass, Chunk, class_at, size_at, Fitting, Full}
use Rattle.slabs.proofs.Reading.{place_few}
use Rattle.slabs.proofs.Families.{list_num, length_without}

module _ (l : Layout) (homes : List ℕ) (p : Placed l homes) where
  -- a row that is in a list has a chunk
  pub home_chunk : (i : ℕ) → 0 < get_or homes i 0 → Chunk l i
  home_chunk i some =
      ⊎_elim (λ lt. lt) (λ past. absurd (omega (arith, p.unlisted i (λ lt. omega arith)))) (cases_lt (i % 85) (get_or l.chunks (class_at l i) 0))

  pub home_within : (i : ℕ) → 0 < get_or homes i 0 → i < length homes
  home_within i some = ⊎_elim (λ lt. lt) (λ past. absurd (omega (arith, get_or_past homes i 0 past))) (cases_lt i (length homes))

  -- and its list is one of its class
  pub home_class : (i class : ℕ) (stand : Stand) → get_or homes i 0 ≡ list_of stand class → class_at l i ≡ class
  home_class i class stand e =
      let n = list_num stand class in
      let few = place_few stand in
      let of = p.listed i (home_chunk i (omega arith)) in
      let low = of.low in
      let high = of.high in
      omega arith

  pub home_few : (i class : ℕ) (stand : Stand) → get_or homes i 0 ≡ list_of stand class → class < 33
  home_few i class stand e = let c = home_class i class stand e in let o = p.owned (i / 85) in omega arith

  pub stand_of_class : (i : ℕ) (stand : Stand) → OfClass (class_at l i) (list_of stand (class_at l i))
  stand_of_class i stand =
      let n = list_num stand (class_at l i) in
      let few = place_few stand in
      record { low = omega arith; high = omega arith }

  -- a row takes another list of its class
  pub placed_shift : (i h : ℕ) → Chunk l i → i < length homes → OfClass (class_at l i) h → Placed l (set homes i h)
  placed_shift i h chunk within of =
      record {
        few = p.few;
        rows = length-set homes i h ∙ p.rows;
        in_order = p.in_order;
        classes = p.classes;
        owned = p.owned;
        unowned = p.unowned;
        none = p.none;
        most = p.most;
        inside = p.inside;
        shared = p.shared;
        listed = λ j here.
            ⊎_elim
            (λ (e : j ≡ i). subst (λ k. OfClass (class_at l k) (get_or (set homes i h) k 0)) (sym e) (subst (λ x. OfClass (class_at l i) x) (sym (get_or-set_same homes i h 0 within)) of))
            (λ off. subst (λ x. OfClass (class_at l j) x) (sym (get_or-set_other homes i j h 0 off)) (p.listed j here))
            (cases_eq j i);
        unlisted = λ j no_Chunk.
            ⊎_elim
            (λ (e : j ≡ i). absurd (no_Chunk (subst (λ k. Chunk l k) (sym e) chunk)))
            (λ off. get_or-set_other homes i j h 0 off ∙ p.unlisted j no_Chunk)
            (cases_eq j i);
      }

  -- the records fit their chunks still
  pub fitting_shift : (spans : List ℕ) (i class : ℕ) (to : Stand) → i < length homes → Fitting l homes spans → (list_of to class ≡ held_of class → get_or spans i 0 ≤ get_or l.sizes class 0) → Fitting l (set homes i (list_of to class)) spans
  fitting_shift spans i class to within fit new j class' e =
      ⊎_elim
      (λ (same : j ≡ i).
      let is = ap (λ k. get_or (set homes i (list_of to class)) k 0) same ∙ get_or-set_same homes i (list_of to class) 0 within in
      let n = list_num to class in
      let few = place_few to in
      let cs : class ≡ class' = omega arith in
      let sp = ap (λ k. get_or spans k 0) same in
      let sz = ap (λ k. get_or l.sizes k 0) cs in
      let fits = new (omega arith) in
      omega arith)
      (λ off. fit j class' (sym (get_or-set_other homes i j (list_of to class) 0 off) ∙ e))
      (cases_eq j i)

count_length : (k : ℕ) (xs : List ℕ) → count k xs ≤ length xs
count_length k [] = omega arith
count_length k (x ∷ xs) = let h = count_length k xs in grind (arith, nat_tests)

-- a class has no more pages than there are
pub shares_few : (l : Layout) (homes : List ℕ) → Placed l homes → (class : ℕ) → 0 < class → get_or l.shares class 0 ≤ 256
shares_few l homes p class some =
    let s = p.shared class some in
    let n = count_length class (take l.given l.owners) in
    let t = length-take l.given l.owners in
    let o = p.in_order in
    let f = p.few in
    omega arith

-- and no more chunks than 256 pages give
pub chunks_few : (l : Layout) (homes : List ℕ) → Placed l homes → (class : ℕ) → get_or l.shares class 0 * get_or l.chunks class 0 ≤ 21760
chunks_few l homes p class =
    ⊎_elim
    (λ (e : class ≡ 0).
    let z : get_or l.chunks class 0 ≡ 0 = ap (λ k. get_or l.chunks k 0) e ∙ p.none in
    rw z (omega arith))
    (λ some. mul-le-mul (shares_few l homes p class (omega arith)) (p.most class))
    (cases_eq class 0)

pub length_into : (b : Bool) (i : ℕ) (xs : List ℕ) → length (cond b (i ∷ xs) xs) ≡ cond b 1 0 + length xs
length_into true i xs = omega arith
length_into false i xs = omega arith

length_out : (b : Bool) (i : ℕ) (xs : List ℕ) → (b ≡ true → count i xs ≡ 1) → length (cond b (without i xs) xs) + cond b 1 0 ≡ length xs
length_out true i xs one = let e = length_without i xs in let o = one refl in omega arith
length_out false i xs one = omega arith

-- how long a list is after a row went from one to another
pub length_shift : (i from to : ℕ) (ls : ℕ → List ℕ) → count i (ls from) ≡ 1 → (g : ℕ) → length (shift i from to ls g) + cond (eqb g from) 1 0 ≡ length (ls g) + cond (eqb g to) 1 0
length_shift i from to ls one g =
    let a = length_into (eqb g to) i (out_of i from ls g) in
    let b = length_out (eqb g from) i (ls g) (λ t. ap (λ k. count i (ls k)) (eqb-true g from t) ∙ one) in
    omega arith

-- one of a class's three lists has this number, where the class is this one
one_of_three : (stand : Stand) (c g : ℕ) → cond (eqb (3 * g + 1) (list_of stand c)) 1 0 + cond (eqb (3 * g + 2) (list_of stand c)) 1 0 + cond (eqb (3 * g + 3) (list_of stand c)) 1 0 ≡ cond (eqb g c) 1 0
one_of_three Free c g = grind (arith, nat_tests)
one_of_three Granted c g = grind (arith, nat_tests)
one_of_three Held c g = grind (arith, nat_tests)

pub full_shift : (l : Layout) (i class : ℕ) (from to : Stand) (ls : ℕ → List ℕ) → count i (ls (list_of from class)) ≡ 1 → (g : ℕ) → Full l ls g → Full l (shift i (list_of from class) (list_of to class) ls) g
full_shift l i class from to ls one g full =
    let a = length_shift i (list_of from class) (list_of to class) ls one (3 * g + 1) in
    let b = length_shift i (list_of from class) (list_of to class) ls one (3 * g + 2) in
    let c = length_shift i (list_of from class) (list_of to class) ls one (3 * g + 3) in
    let f = one_of_three from class g in
    let t = one_of_three to class g in
    omega arith

-- the size of a row's chunk, as its class has it
pub size_is : (classes : List Class) (owners : List ℕ) (given pages i class : ℕ) → class < length classes → class ≡ class_at (cut classes owners given pages) i → (get_or classes class no_class).size ≡ size_at (cut classes owners given pages) i
size_is classes owners given pages i class lt e = sym (get_or-map (λ x. x.size) classes class no_class 0 lt) ∙ ap (λ k. get_or (map (λ x. x.size) classes) k 0) e
