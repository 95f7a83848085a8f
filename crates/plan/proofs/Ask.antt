-- What is asked of a class, and the class of a need. Assumes nothing.
use Rattle.std.proofs.Common.{Option, MatchOption, option_map, subst, ◌≡◌, ℕ, zero, suc, ◌+◌, ◌-◌, ◌*◌, ◌/◌, ◌<◌, ◌≤◌, Bool, true, false, cond, ◌&&◌, leb, List, [], ◌∷◌, length, get_or, Some, None, sym, refl, ap, ◌∙◌, mul-le-mul_right, mod-lt, suc-mul, div-add-mod', arith}
use Rattle.std.specs.List.{AllWithin, HoldsAt}
use Rattle.std.proofs.lemmas.Bool.{leb-true, le-leb, lt-leb, and_parts, and_from}
use Rattle.plan.specs.declared.plan.Plan.{Plan}
use Rattle.plan.specs.Sizes.{sizes_of}
use Rattle.plan.specs.Plans.{plan_sizes}
use Rattle.plan.proofs.Rule.{least_size}
use Rattle.plan.specs.Classes.{size_at, of_class, one_more, class_of, Smallest, Tiles, chunks_of}

-- the plan has the class, and this is what is asked of it
pub record Known (ask : ℕ → ℕ) (sizes : List ℕ) (class v : ℕ) : Type 0 where
  pub low : 1 ≤ class
  pub high : class ≤ length sizes
  pub is : v ≡ ask (size_at sizes class)

known_at : (ask : ℕ → ℕ) (sizes : List ℕ) (class v : ℕ) (b : Bool) → (leb 1 class && leb class (length sizes)) ≡ b → Some v ≡ cond b (Some (ask (size_at sizes class))) None → Known ask sizes class v
known_at ask sizes class v true e h =
    let both = and_parts _ _ e in record { low = leb-true _ _ both.0; high = leb-true _ _ both.1; is = cc }
known_at ask sizes class v false e h = absurd cc

pub known : (ask : ℕ → ℕ) (sizes : List ℕ) (class v : ℕ) → Some v ≡ of_class ask sizes class → Known ask sizes class v
known ask sizes class v h = known_at ask sizes class v _ refl h

pub has_class : (sizes : List ℕ) (class : ℕ) → 1 ≤ class → class ≤ length sizes → (leb 1 class && leb class (length sizes)) ≡ true
has_class sizes class low high = and_from _ _ (le-leb 1 class low) (le-leb class (length sizes) high)

-- the plan does not have the class
unknown_at : (v w : ℕ) (b : Bool) → None ≡ cond b (Some v) None → cond b (Some w) None ≡ None
unknown_at v w true h = absurd cc
unknown_at v w false h = refl

pub unknown : (f g : ℕ → ℕ) (sizes : List ℕ) (class : ℕ) → None ≡ of_class f sizes class → of_class g sizes class ≡ None
unknown f g sizes class h = unknown_at (f (size_at sizes class)) (g (size_at sizes class)) _ h

-- the search for a class ended at a size that holds the need
found : (need : ℕ) (sizes : List ℕ) (i : ℕ) → i < length sizes → ((k : ℕ) → k < i → get_or sizes k 0 < need) → need ≤ get_or sizes i 0 → Some (i + 1) ≡ class_of need sizes
found need [] i lt before here = absurd (omega arith)
found need (s ∷ ss) zero lt before here = rw (le-leb need s here)
found need (s ∷ ss) (suc i) lt before here =
    let first : s < need = before 0 (omega arith) in
    let rest = found need ss i (omega arith) (λ k h. before (suc k) (omega arith)) here in
    let n : suc i + 1 ≡ suc (i + 1) = omega arith in
    rw (lt-leb need s first) (ap Some n ∙ ap one_more rest)

-- or at none
missing : (need : ℕ) (sizes : List ℕ) → ((k : ℕ) → k < length sizes → get_or sizes k 0 < need) → None ≡ class_of need sizes
missing need [] before = refl
missing need (s ∷ ss) before =
    let first : s < need = before 0 (omega arith) in
    rw (lt-leb need s first) (ap one_more (missing need ss (λ k h. before (suc k) (omega arith))))

-- the class is the smallest that holds the need
smallest : (need : ℕ) (sizes : List ℕ) (i : ℕ) → i < length sizes → ((k : ℕ) → k < i → get_or sizes k 0 < need) → need ≤ get_or sizes i 0 → Smallest need sizes (i + 1)
smallest need sizes i lt before here =
    let back : (i + 1) - 1 ≡ i = omega arith in
    record {
      numbered = (omega arith, omega arith);
      fits = rw back here;
      first = λ other least less. before (other - 1) (omega arith);
    }

-- a search for the first size that holds the need found this
abbrev pub Searched : ℕ → List ℕ → Option ℕ → Type 0
Searched need sizes first =
    MatchOption first (AllWithin (λ size. size < need) sizes 0 (length sizes)) (λ i. (i < length sizes) × HoldsAt (λ size. need ≤ size) sizes i × AllWithin (λ size. size < need) sizes 0 i)

-- the class of the need, in both words
pub record Classed (need : ℕ) (sizes : List ℕ) (class : Option ℕ) : Type 0 where
  pub value : class ≡ class_of need sizes
  pub smallest : MatchOption class (get_or sizes (length sizes - 1) 0 < need) (λ class. Smallest need sizes class)

classed_at : (need : ℕ) (sizes : List ℕ) (first : Option ℕ) → 0 < length sizes → Searched need sizes first → Classed need sizes (option_map (λ i. i + 1) first)
classed_at need sizes None some before =
    record {
      value = missing need sizes (λ k lt. before k 0 (omega arith) lt);
      smallest = before (length sizes - 1) 0 (omega arith) (omega arith);
    }
classed_at need sizes (Some i) some (lt, here, before) =
    record {
      value = found need sizes i lt (λ k less. before k 0 (omega arith) less) (here 0);
      smallest = smallest need sizes i lt (λ k less. before k 0 (omega arith) less) (here 0);
    }

pub classed : (need : ℕ) (sizes : List ℕ) (first class : Option ℕ) → 0 < length sizes → Searched need sizes first → class ≡ option_map (λ i. i + 1) first → Classed need sizes class
classed need sizes first class some search_is is = subst (Classed need sizes) (sym is) (classed_at need sizes first some search_is)

-- a chunk ends before the next one begins
chunk_ends : (size j k : ℕ) → j < k → j * size + size ≤ k * size
chunk_ends size j k lt =
    let m : suc j * size ≤ k * size = mul-le-mul_right size lt in
    let e = suc-mul j size in
    omega arith

-- the chunks of a page, side by side
pub tiles : (size : ℕ) → 0 < size → Tiles size (chunks_of size)
tiles size pos =
    let whole = div-add-mod' 4096 size in
    let less = mod-lt 4096 pos in
    record {
      inside = λ k lt. let e = chunk_ends size k (4096 / size) lt in omega arith;
      apart = chunk_ends size;
      full = omega arith;
    }

-- the size of a plan's class is not 0
pub at_least : (plan : Plan) (class : ℕ) → 1 ≤ class → class ≤ length (plan_sizes plan) → 0 < size_at (plan_sizes plan) class
at_least plan class low high =
    let is : plan_sizes plan ≡ sizes_of plan.first plan.percent = plan.made in
    let inside : class - 1 < length (sizes_of plan.first plan.percent) = omega (arith, ap length is) in
    let least = least_size plan.first plan.percent plan.fair (class - 1) inside in
    omega (arith, ap (λ l. get_or l (class - 1) 0) is)

-- nor is what a plan answers for it
pub not_empty : (plan : Plan) (class size : ℕ) → Some size ≡ of_class (λ s. s) (plan_sizes plan) class → 0 < size
not_empty plan class size h =
    let k = known (λ s. s) (plan_sizes plan) class size h in
    rw k.is (at_least plan class k.low k.high)

pub tiles_class : (plan : Plan) (class size n : ℕ) → Some size ≡ of_class (λ s. s) (plan_sizes plan) class → Some (4096 / size) ≡ Some n → Tiles (size_at (plan_sizes plan) class) n
tiles_class plan class size n h e =
    let k = known (λ s. s) (plan_sizes plan) class size h in
    let is : size ≡ size_at (plan_sizes plan) class = k.is in
    let same : 4096 / size ≡ n = cc in
    rw (sym same, is) (tiles _ (at_least plan class k.low k.high))
