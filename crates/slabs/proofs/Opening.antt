-- What was just opened is in order, and has no rows in its lists.
use Rattle.std.proofs.Common.{◌≡◌, ℕ, zero, suc, ◌+◌, ◌-◌, ◌*◌, ◌/◌, ◌<◌, ◌≤◌, Bool, true, false, cond, ◌&&◌, leb, List, [], ◌∷◌, map, length, get_or, replicate, Some, None, unwrap_or, sym, refl, ap, ◌∙◌, ⊎_elim, div-lt_iff_lt-mul, zero-mul, arith, length-take}
use lib.ListN.{length-map, length-replicate}
use Rattle.std.proofs.lemmas.List.{get_or_past, get_or-map}
use Rattle.std.proofs.lemmas.Bool.{cases_lt, and_parts, and_right, leb-true, lt-leb, cond-false}
use Rattle.std.proofs.lemmas.Bool.Decides.{nat_tests}
use Rattle.plan.specs.declared.plan.Plan.{Plan}
use Rattle.plan.specs.Plans.{plan_sizes}
use Rattle.plan.specs.Sizes.{sizes_of}
use Rattle.plan.specs.Classes.{chunks_of, of_class, size_at as plan-size}
use Rattle.plan.proofs.Rule.{least_size}
use Rattle.plan.proofs.Ask.{tiles}
use Rattle.slabs.specs.declared.class.Class.{Class}
use Rattle.slabs.specs.declared.class.Stand.{Stand}
use Rattle.slabs.specs.declared.class.Stand.TheVariants.{Free, Granted, Held}
use Rattle.slabs.specs.declared.row.Row.{Row}
use Rattle.slabs.specs.Rows.{blank, homes}
use Rattle.slabs.specs.Classes.{place, no_class, planned, Fresh}
use Rattle.slabs.specs.Lists.{Family}
use Rattle.slabs.specs.Layouts.{Layout}
use Rattle.slabs.specs.Orders.{cut, InOrder}

value_of : (b : Bool) (x : ℕ) → unwrap_or (cond b (Some x) None) 0 ≡ cond b x 0
value_of true x = refl
value_of false x = refl

pub value_planned : (ask : ℕ → ℕ) (sizes : List ℕ) (class : ℕ) → unwrap_or (of_class ask sizes class) 0 ≡ planned ask sizes class
value_planned ask sizes class = value_of (leb 1 class && leb class (length sizes)) (ask (plan-size sizes class))

pub same_three : {X : Type 0} (x d : X) (stand : Stand) → get_or (x ∷ x ∷ x ∷ []) (place stand) d ≡ x
same_three x d Free = refl
same_three x d Granted = refl
same_three x d Held = refl

-- the chunks of a plan's class
module _ (plan : Plan) where
  large : (class : ℕ) → 1 ≤ class → class ≤ length (plan_sizes plan) → 48 ≤ plan-size (plan_sizes plan) class
  large class low high =
      let is : plan_sizes plan ≡ sizes_of plan.first plan.percent = plan.made in
      let in_range : class - 1 < length (sizes_of plan.first plan.percent) = omega (arith, ap length is) in
      omega (arith, least_size plan.first plan.percent plan.fair (class - 1) in_range, ap (λ l. get_or l (class - 1) 0) is)

  chunks_most : (size : ℕ) → 48 ≤ size → 4096 / size ≤ 85
  chunks_most size le =
      let lt : 4096 / size < 86 = (div-lt_iff_lt-mul {k = size} {x = 4096} {y = 86} (omega arith)).1 (omega arith) in
      omega arith

  pub planned_most : (class : ℕ) → planned chunks_of (plan_sizes plan) class ≤ 85
  planned_most class = go (leb 1 class && leb class (length (plan_sizes plan))) refl
    where
      go : (b : Bool) → (leb 1 class && leb class (length (plan_sizes plan))) ≡ b → cond b (chunks_of (plan-size (plan_sizes plan) class)) 0 ≤ 85
      go true e = let both = and_parts _ _ e in chunks_most (plan-size (plan_sizes plan) class) (large class (leb-true _ _ both.0) (leb-true _ _ both.1))
      go false e = omega arith

  pub planned_inside : (class k : ℕ) → k < planned chunks_of (plan_sizes plan) class → k * planned (λ s. s) (plan_sizes plan) class + planned (λ s. s) (plan_sizes plan) class ≤ 4096
  planned_inside class k = go (leb 1 class && leb class (length (plan_sizes plan))) refl
    where
      go : (b : Bool) → (leb 1 class && leb class (length (plan_sizes plan))) ≡ b → k < cond b (chunks_of (plan-size (plan_sizes plan) class)) 0 → k * cond b (plan-size (plan_sizes plan) class) 0 + cond b (plan-size (plan_sizes plan) class) 0 ≤ 4096
      go true e lt =
          let both = and_parts _ _ e in
          let l = large class (leb-true _ _ both.0) (leb-true _ _ both.1) in
          let pos : 0 < plan-size (plan_sizes plan) class = omega arith in
          (tiles (plan-size (plan_sizes plan) class) pos).inside k lt
      go false e lt = absurd (omega arith)

-- a plan has no class past its last
beyond_sizes : (ask : ℕ → ℕ) (sizes : List ℕ) (class : ℕ) → length sizes < class → planned ask sizes class ≡ 0
beyond_sizes ask sizes class past = cond-false (leb 1 class && leb class (length sizes)) (ask (plan-size sizes class)) 0 (and_right _ _ (lt-leb class (length sizes) past))

plan_short : (plan : Plan) → length (plan_sizes plan) ≤ 32
plan_short plan = let f = plan.few in simp length-take (omega arith)

-- every row names no list
homes_blank : (n i : ℕ) → get_or (homes (replicate n blank)) i 0 ≡ 0
homes_blank zero i = refl
homes_blank (suc n) zero = refl
homes_blank (suc n) (suc i) = homes_blank n i

zeros : (n i : ℕ) → ◌≡◌ {A = ℕ} (get_or (replicate n 0) i 0) 0
zeros zero i = refl
zeros (suc n) zero = refl
zeros (suc n) (suc i) = zeros n i

-- rows that were filled with a blank one
pub rows_opened : {rows : List Row} {row : Row} {n : ℕ} → rows ≡ replicate n row → (pages : ℕ) → n ≡ 85 * pages → row ≡ blank → rows ≡ replicate (85 * pages) blank
rows_opened {row = row} filled pages long same = filled ∙ ap (λ k. replicate k row) long ∙ ap (λ x. replicate (85 * pages) x) same

module _ (classes : List Class) (all : List Row) (owners : List ℕ) (pages : ℕ) (plan : Plan) (rows : all ≡ replicate (85 * pages) blank) (few : pages ≤ 256) (bare : owners ≡ replicate 256 0) (long : length classes ≡ 33) (fresh : (class : ℕ) → class < 33 → Fresh (plan_sizes plan) class (get_or classes class no_class)) where
  abbrev the : Layout
  the = cut classes owners 0 pages

  homes_none : (i : ℕ) → get_or (homes all) i 0 ≡ 0
  homes_none i = ap (λ rs. get_or (homes rs) i 0) rows ∙ homes_blank (85 * pages) i

  rows_long : length (all) ≡ 85 * pages
  rows_long = ap length rows ∙ length-replicate (85 * pages) blank

  pub opened_lists : Family classes all (λ _. [])
  opened_lists =
      record {
        named = λ h i ph. let z = homes_none i in grind (arith, nat_tests);
        reads = λ class stand lt. (fresh class lt).no_rows stand (all) (omega (arith, rows_long));
        counted = λ class stand lt. (fresh class lt).no_counts stand;
      }

  owner_none : (p : ℕ) → get_or owners p 0 ≡ 0
  owner_none p = ap (λ os. get_or os p 0) bare ∙ zeros 256 p

  -- a column of the classes
  column : (f : Class → ℕ) (g : ℕ → ℕ) → f no_class ≡ 0 → ((class : ℕ) → 33 ≤ class → g class ≡ 0) → ((class : ℕ) → class < 33 → f (get_or classes class no_class) ≡ g class) → (class : ℕ) → get_or (map f classes) class 0 ≡ g class
  column f g z far is class =
      ⊎_elim
      (λ (lt : class < 33). get_or-map f classes class no_class 0 (omega arith) ∙ is class lt)
      (λ past. get_or_past (map f classes) class 0 (omega (arith, length-map classes f)) ∙ sym (far class past))
      (cases_lt class 33)

  past_plan : (ask : ℕ → ℕ) (class : ℕ) → 33 ≤ class → planned ask (plan_sizes plan) class ≡ 0
  past_plan ask class far =
      let l : length (plan_sizes plan) ≤ 32 = plan_short plan in
      beyond_sizes ask (plan_sizes plan) class (omega arith)

  pub opened_sizes : (class : ℕ) → get_or the.sizes class 0 ≡ planned (λ x. x) (plan_sizes plan) class
  opened_sizes = column (λ c. c.size) (planned (λ x. x) (plan_sizes plan)) refl (past_plan (λ x. x)) (λ class lt. (fresh class lt).size_is)

  pub opened_chunks : (class : ℕ) → get_or the.chunks class 0 ≡ planned chunks_of (plan_sizes plan) class
  opened_chunks = column (λ c. c.chunks) (planned chunks_of (plan_sizes plan)) refl (past_plan chunks_of) (λ class lt. (fresh class lt).chunks_are)

  no_shares : (class : ℕ) → get_or the.shares class 0 ≡ 0
  no_shares = column (λ c. c.pages) (λ _. 0) refl (λ _ _. refl) (λ class lt. (fresh class lt).no_pages)

  no_chunks : get_or the.chunks 0 0 ≡ 0
  no_chunks = opened_chunks 0

  pub opened_order : InOrder classes all the
  opened_order =
      record {
        lists = λ _. [];
        listed = opened_lists;
        placed =
            record {
              few = few;
              rows = length-map (all) (λ row. row.home) ∙ rows_long;
              in_order = omega arith;
              classes = (length-map classes (λ c. c.size) ∙ long, length-map classes (λ c. c.chunks) ∙ long, length-map classes (λ c. c.pages) ∙ long, ap length bare);
              owned = λ p. omega (arith, owner_none p);
              unowned = λ p _. owner_none p;
              none = no_chunks;
              most = λ class. let e = opened_chunks class in let m = planned_most plan class in omega arith;
              inside = λ class k lt.
                  let e = opened_chunks class in
                  let f = opened_sizes class in
                  let h = planned_inside plan class k (omega arith) in
                  let m = ap (λ x. k * x) f in
                  omega arith;
              shared = λ class _. no_shares class;
              listed = λ i chunk. absurd (let z = ap (λ k. get_or the.chunks k 0) (owner_none (i / 85)) in omega (arith, no_chunks));
              unlisted = λ i _. homes_none i;
            };
        fitting = λ i class held. absurd (omega (arith, homes_none i));
        full = λ class lt. sym (ap (λ x. x * get_or the.chunks class 0) (no_shares class) ∙ zero-mul (get_or the.chunks class 0));
      }
