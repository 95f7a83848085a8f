-- A page that is given to a class.
use Rattle.std.proofs.Common.{◌≡◌, ℕ, ◌+◌, ◌*◌, ◌/◌, ◌%◌, ◌<◌, ◌≤◌, cond, eqb, List, [], ◌∷◌, map, length, get_or, take, set, sym, refl, ap, ◌∙◌, subst, ⊎_elim, add-mul, one-mul, arith, length-set}
use native.Mathlib.Bridge.{le_prop}
use mathlib.Core.Logic.{∥∥₁_elim}
use lib.ListN.{length-map}
use Rattle.std.proofs.lemmas.List.{get_or-set_same, get_or-set_other, take_more_set, get_or-map, get_or_past}
use Rattle.std.proofs.lemmas.Bool.{cases_eq, cases_lt}
use Rattle.std.proofs.lemmas.Bool.Decides.{nat_tests}
use Rattle.recency.specs.Numbers.{count}
use Rattle.recency.proofs.Counts.{count_append}
use Rattle.recency.proofs.Columns.{column_kept, column_set, column_of_rest}
use Rattle.slabs.specs.declared.row.Row.{Row}
use Rattle.slabs.specs.declared.class.Class.{Class}
use Rattle.slabs.specs.declared.class.Stand.TheVariants.{Free, Granted, Held}
use Rattle.slabs.specs.declared.slab.Slab.{Slab}
use Rattle.slabs.specs.Rows.{homes, rests}
use Rattle.slabs.specs.Classes.{frame, no_class, with_share, count_at}
use Rattle.slabs.specs.Lists.{Family, free_of, stocked, filled}
use Rattle.slabs.specs.Layouts.{Layout, Placed, Chunk, class_at, size_at, start, with_page, Fitting, Full}
use Rattle.slabs.specs.Slabs.{rows_of, homes_of, spans_of, cut, layout, Sound, InOrder}
use Rattle.slabs.proofs.Cuts.{cut_same}
use Rattle.slabs.proofs.Families.{family_share}
use Rattle.slabs.proofs.Placing.{shares_few}
use Rattle.slabs.proofs.Sounds.{spans_of_rests, lists_few}
use Rattle.slabs.proofs.Stocking.{filled_long, filled_below, filled_above, filled_there, stocked_long}

-- the layout after one class gained the page
module _ (classes : List Class) (owners : List ℕ) (given pages class : ℕ) (lt : class < length classes) where
  new : Class
  new = with_share (get_or classes class no_class) ((get_or classes class no_class).pages + 1)

  from : List ℕ → List ℕ → List ℕ → Layout
  from sizes chunks shares = record { sizes = sizes; chunks = chunks; shares = shares; owners = set owners given class; given = given + 1; pages = pages }

  pub cut_page : cut (set classes class (with_share (get_or classes class no_class) ((get_or classes class no_class).pages + 1))) (set owners given class) (given + 1) pages ≡ with_page (cut classes owners given pages) class
  unfolding new from
  cut_page =
      let was : get_or (map (λ x. x.pages) classes) class 0 ≡ (get_or classes class no_class).pages = get_or-map (λ x. x.pages) classes class no_class 0 lt in
      ap (λ sizes. from sizes (map (λ x. x.chunks) (set classes class new)) (map (λ x. x.pages) (set classes class new))) (column_kept (λ x. x.size) classes class no_class new lt refl)
      ∙ ap (λ chunks. from (map (λ x. x.size) classes) chunks (map (λ x. x.pages) (set classes class new))) (column_kept (λ x. x.chunks) classes class no_class new lt refl)
      ∙ ap (λ shares. from (map (λ x. x.size) classes) (map (λ x. x.chunks) classes) shares) (column_set (λ x. x.pages) classes class new (get_or (map (λ x. x.pages) classes) class 0 + 1) (ap (λ n. n + 1) (sym was)))

module _ (l : Layout) (homes : List ℕ) (p : Placed l homes) (class : ℕ) (few : class < 33) (some : 0 < get_or l.chunks class 0) (free : l.given < l.pages) where
  n : ℕ
  n = get_or l.chunks class 0

  first : ℕ
  first = 85 * l.given

  owners_long : l.given < length l.owners
  owners_long = let c = p.classes.3 in let f = p.few in omega arith

  -- the class of a row after that
  class_there : (i : ℕ) → i / 85 ≡ l.given → class_at (with_page l class) i ≡ class
  class_there i e = ap (λ k. get_or (set l.owners l.given class) k 0) e ∙ get_or-set_same l.owners l.given class 0 owners_long

  class_off : (i : ℕ) → (i / 85 ≡ l.given → ⊥) → class_at (with_page l class) i ≡ class_at l i
  class_off i ne = get_or-set_other l.owners l.given (i / 85) class 0 ne

  -- the list of a row after that
  home_there : (i : ℕ) → i / 85 ≡ l.given → i % 85 < n → get_or (filled first n (free_of class) homes) i 0 ≡ free_of class
  unfolding n first
  home_there i e lt =
      let most = p.most class in
      let r = p.rows in
      filled_there (85 * l.given) (get_or l.chunks class 0) (free_of class) homes i (omega arith) (omega arith) (omega arith)

  home_off : (i : ℕ) → (i / 85 ≡ l.given → i % 85 < n → ⊥) → get_or (filled first n (free_of class) homes) i 0 ≡ get_or homes i 0
  unfolding n first
  home_off i out =
      let most = p.most class in
      ⊎_elim
      (λ (below : i < 85 * l.given). filled_below (85 * l.given) (get_or l.chunks class 0) (free_of class) homes i below)
      (λ from.
      ⊎_elim
      (λ (inside : i < 85 * l.given + get_or l.chunks class 0). absurd (out (omega arith) (omega arith)))
      (λ above. filled_above (85 * l.given) (get_or l.chunks class 0) (free_of class) homes i above)
      (cases_lt i (85 * l.given + get_or l.chunks class 0)))
      (cases_lt i (85 * l.given))

  -- no chunk of that page was there
  none_there : (i : ℕ) → i / 85 ≡ l.given → Chunk l i → ⊥
  none_there i e chunk =
      let z : class_at l i ≡ 0 = p.unowned (i / 85) (omega arith) in
      let c = ap (λ k. get_or l.chunks k 0) z ∙ p.none in
      omega arith

  pub placed_page : Placed (with_page l class) (filled (85 * l.given) (get_or l.chunks class 0) (free_of class) homes)
  unfolding n first
  placed_page =
      record {
        few = p.few;
        rows = filled_long first n (free_of class) homes ∙ p.rows;
        in_order = omega arith;
        classes = (p.classes.0, p.classes.1, length-set l.shares class _ ∙ p.classes.2, length-set l.owners l.given class ∙ p.classes.3);
        owned = λ q.
            ⊎_elim
            (λ (e : q ≡ l.given). let c = ap (λ k. get_or (set l.owners l.given class) k 0) e ∙ get_or-set_same l.owners l.given class 0 owners_long in omega arith)
            (λ off. let c = get_or-set_other l.owners l.given q class 0 off in let o = p.owned q in omega arith)
            (cases_eq q l.given);
        unowned = λ q past. get_or-set_other l.owners l.given q class 0 (λ e. omega arith) ∙ p.unowned q (omega arith);
        none = p.none;
        most = p.most;
        inside = p.inside;
        shared = λ k pos.
            let t = ap (λ xs. count k xs) (take_more_set l.owners l.given class owners_long) ∙ count_append k (take l.given l.owners) (class ∷ []) in
            let was = p.shared k pos in
            ⊎_elim
            (λ (e : k ≡ class).
            let g = ap (λ j. get_or (set l.shares class (get_or l.shares class 0 + 1)) j 0) e ∙ get_or-set_same l.shares class (get_or l.shares class 0 + 1) 0 (let s = p.classes.2 in omega arith) in
            let h = ap (λ j. get_or l.shares j 0) e in
            grind (arith, nat_tests))
            (λ off.
            let g = get_or-set_other l.shares class k (get_or l.shares class 0 + 1) 0 off in
            grind (arith, nat_tests))
            (cases_eq k class);
        listed = λ i chunk.
            ⊎_elim
            (λ (e : i / 85 ≡ l.given).
            let c = class_there i e in
            let m = ap (λ k. get_or l.chunks k 0) c in
            let h = home_there i e (omega arith) in
            record { low = omega arith; high = omega arith })
            (λ off.
            let c = class_off i off in
            let m = ap (λ k. get_or l.chunks k 0) c in
            let h = home_off i (λ e _. off e) in
            let old = p.listed i (omega arith) in
            let low = old.low in
            let high = old.high in
            record { low = omega arith; high = omega arith })
            (cases_eq (i / 85) l.given);
        unlisted = λ i no_Chunk.
            ⊎_elim
            (λ (e : i / 85 ≡ l.given).
            let c = class_there i e in
            let m = ap (λ k. get_or l.chunks k 0) c in
            home_off i (λ _ lt. no_Chunk (omega arith)) ∙ p.unlisted i (none_there i e))
            (λ off.
            let c = class_off i off in
            let m = ap (λ k. get_or l.chunks k 0) c in
            home_off i (λ e _. off e) ∙ p.unlisted i (λ chunk. no_Chunk (omega arith)))
            (cases_eq (i / 85) l.given);
      }

  -- the chunks that were there lie where they lay
  pub start_page : (i : ℕ) → Chunk l i → (start (with_page l class) i ≡ start l i) × (size_at (with_page l class) i ≡ size_at l i)
  start_page i chunk =
      let e = class_off i (λ there. none_there i there chunk) in
      (ap (λ k. i / 85 * 4096 + i % 85 * get_or l.sizes k 0) e, ap (λ k. get_or l.sizes k 0) e)

  pub fitting_page : (spans : List ℕ) → Fitting l homes spans → Fitting (with_page l class) (filled (85 * l.given) (get_or l.chunks class 0) (free_of class) homes) spans
  unfolding n first
  fitting_page spans fit i k held = fit i k (sym (home_off i (λ e lt. let h = home_there i e lt in omega arith)) ∙ held)

-- one list of three has this number, where the class is this one
one_free : (c g n : ℕ) → cond (eqb (3 * g + 1) (free_of c)) n 0 + cond (eqb (3 * g + 2) (free_of c)) n 0 + cond (eqb (3 * g + 3) (free_of c)) n 0 ≡ cond (eqb g c) n 0
one_free c g n = grind (arith, nat_tests)

pub full_page : (l : Layout) (first class : ℕ) (ls : ℕ → List ℕ) → class < length l.shares → (g : ℕ) → Full l ls g → Full (with_page l class) (stocked first (get_or l.chunks class 0) (free_of class) ls) g
full_page l first class ls lt g full =
    let n = get_or l.chunks class 0 in
    let a = stocked_long first n (free_of class) ls (3 * g + 1) in
    let b = stocked_long first n (free_of class) ls (3 * g + 2) in
    let c = stocked_long first n (free_of class) ls (3 * g + 3) in
    let one = one_free class g n in
    ⊎_elim
    (λ (e : g ≡ class).
    let s = ap (λ j. get_or (set l.shares class (get_or l.shares class 0 + 1)) j 0) e ∙ get_or-set_same l.shares class (get_or l.shares class 0 + 1) 0 lt in
    let k = ap (λ j. get_or l.chunks j 0) e in
    let h = ap (λ j. get_or l.shares j 0 * get_or l.chunks j 0) e in
    let new = ap (λ x. x * get_or l.chunks g 0) s ∙ ap (λ x. (get_or l.shares class 0 + 1) * x) k ∙ add-mul (get_or l.shares class 0) 1 n in
    let once = one-mul n in
    grind (arith, nat_tests))
    (λ off.
    let s = get_or-set_other l.shares class g (get_or l.shares class 0 + 1) 0 off in
    let new = ap (λ x. x * get_or l.chunks g 0) s in
    grind (arith, nat_tests))
    (cases_eq g class)

-- all is in order after the page was given
pub order_page : (classes classes' : List Class) (rows rows' : List Row) (l : Layout) (class : ℕ) → class < 33 → 0 < get_or l.chunks class 0 → l.given < l.pages → ((ls : ℕ → List ℕ) → Family classes rows ls → Family classes' rows' (stocked (85 * l.given) (get_or l.chunks class 0) (free_of class) ls)) → homes rows' ≡ filled (85 * l.given) (get_or l.chunks class 0) (free_of class) (homes rows) → rests rows' ≡ rests rows → InOrder classes rows l → InOrder classes' rows' (with_page l class)
order_page classes classes' rows rows' l class few some free lists moved same z =
    let p = z.placed in
    record {
      lists = stocked (85 * l.given) (get_or l.chunks class 0) (free_of class) z.lists;
      listed = lists z.lists z.listed;
      placed = subst (λ x. Placed (with_page l class) x) (sym moved) (placed_page l (homes rows) p class few some free);
      fitting =
          subst (λ x. Fitting (with_page l class) x (spans_of rows')) (sym moved)
          (subst (λ x. Fitting (with_page l class) (filled (85 * l.given) (get_or l.chunks class 0) (free_of class) (homes rows)) x) (sym (spans_of_rests rows rows' same))
          (fitting_page l (homes rows) p class few some free (spans_of rows) z.fitting));
      full = λ g lt. full_page l (85 * l.given) class z.lists (let c = p.classes.2 in omega arith) g (z.full g lt);
    }

-- what a sound slab tells of its next page
module _ (s : Slab) (t : ∥ Sound s ∥₁) where
  pub classes_few : (class : ℕ) → 33 ≤ class → get_or (layout s).chunks class 0 ≡ 0
  classes_few class far = get_or_past (layout s).chunks class 0 (∥∥₁_elim t le_prop (λ z. let c = z.placed.classes.1 in omega arith))

  -- a class with chunks is a class
  pub class_of_chunks : (class : ℕ) → 0 < get_or (layout s).chunks class 0 → class < 33
  class_of_chunks class some = ⊎_elim (λ lt. lt) (λ past. absurd (omega (arith, classes_few class past))) (cases_lt class 33)

  -- the counts of a class are those of its chunks
  pub counts_whole : (class : ℕ) → class < 33 → count_at s.classes.all class Free + count_at s.classes.all class Granted + count_at s.classes.all class Held ≡ get_or (layout s).shares class 0 * get_or (layout s).chunks class 0
  counts_whole class few =
      let up : count_at s.classes.all class Free + count_at s.classes.all class Granted + count_at s.classes.all class Held ≤ get_or (layout s).shares class 0 * get_or (layout s).chunks class 0 =
      ∥∥₁_elim t le_prop (λ z. let f = z.full class few in let a = z.listed.counted class Free few in let b = z.listed.counted class Granted few in let c = z.listed.counted class Held few in omega arith) in
      let down : get_or (layout s).shares class 0 * get_or (layout s).chunks class 0 ≤ count_at s.classes.all class Free + count_at s.classes.all class Granted + count_at s.classes.all class Held =
      ∥∥₁_elim t le_prop (λ z. let f = z.full class few in let a = z.listed.counted class Free few in let b = z.listed.counted class Granted few in let c = z.listed.counted class Held few in omega arith) in
      omega arith

  pub given_few : s.given ≤ s.pages
  given_few = ∥∥₁_elim t le_prop (λ z. z.placed.in_order)

  pub pages_few : s.pages ≤ 256
  pages_few = ∥∥₁_elim t le_prop (λ z. z.placed.few)

  module _ (class : ℕ) (few : class < 33) (some : 0 < get_or (layout s).chunks class 0) (free : s.given < s.pages) where
    pub stock_within : 85 * s.given + get_or (layout s).chunks class 0 ≤ length (rows_of s)
    stock_within = ∥∥₁_elim t le_prop (λ z. let r = z.placed.rows in let m = z.placed.most class in let n = length-map (rows_of s) (λ row. row.home) in omega arith)

    pub stock_few : get_or (layout s).chunks class 0 ≤ 85
    stock_few = ∥∥₁_elim t le_prop (λ z. z.placed.most class)

    pub stock_room : count_at s.classes.all class Free ≤ 21760
    stock_room = ∥∥₁_elim t le_prop (λ z. let n = lists_few s z Free class few in let c = z.listed.counted class Free few in omega arith)

    pub share_few : get_or (layout s).shares class 0 ≤ 256
    share_few =
        ∥∥₁_elim t le_prop (λ z.
        shares_few (layout s) (homes_of s) z.placed class
        (⊎_elim (λ (pos : 0 < class). pos) (λ zero_is. absurd (let e : class ≡ 0 = omega arith in omega (arith, ap (λ k. get_or (layout s).chunks k 0) e, z.placed.none))) (cases_lt 0 class)))

    pub homeless : (k : ℕ) → k < get_or (layout s).chunks class 0 → get_or (homes_of s) (85 * s.given + k) 0 ≡ 0
    homeless k lt =
        let m = stock_few in
        let low : get_or (homes_of s) (85 * s.given + k) 0 ≤ 0 =
        ∥∥₁_elim t le_prop (λ z.
        let i = 85 * s.given + k in
        let e : i / 85 ≡ s.given = omega arith in
        let u = z.placed.unlisted i (none_there (layout s) (homes_of s) z.placed class few some free i e) in
        omega arith) in
        omega arith

    -- its rows became free chunks, and then the class gained the page
    module _ (mid : List Class) (rows : List Row) (n : ℕ) (all : get_or (layout s).chunks class 0 ≡ n) (frames : map frame mid ≡ map frame s.classes.all) where
      long : class < length mid
      long = ∥∥₁_elim t le_prop (λ z. let c = z.placed.classes.0 in omega (arith, length-map s.classes.all (λ x. x.size), length-map mid frame, length-map s.classes.all frame, ap length frames))

      pub share_room : (get_or mid class no_class).pages + 1 < 4294967296
      share_room =
          let same = column_of_rest frame (λ x. x.pages) (λ _. refl) s.classes.all mid frames in
          omega (arith, get_or-map (λ x. x.pages) mid class no_class 0 long, ap (λ xs. get_or xs class 0) same, share_few)

      pub lists_given : ((ls : ℕ → List ℕ) → Family s.classes.all (rows_of s) ls → Family mid rows (stocked (85 * s.given) n (free_of class) ls)) → (ls : ℕ → List ℕ) → Family s.classes.all (rows_of s) ls → Family (set mid class (with_share (get_or mid class no_class) ((get_or mid class no_class).pages + 1))) rows (stocked (85 * s.given) (get_or (layout s).chunks class 0) (free_of class) ls)
      lists_given step ls f = family_share mid class _ long rows _ (subst (λ k. Family mid rows (stocked (85 * s.given) k (free_of class) ls)) (sym all) (step ls f))

      pub layout_given : cut (set mid class (with_share (get_or mid class no_class) ((get_or mid class no_class).pages + 1))) (set s.owners s.given class) (s.given + 1) s.pages ≡ with_page (layout s) class
      layout_given = cut_page mid s.owners s.given s.pages class long ∙ ap (λ l. with_page l class) (cut_same s.classes.all mid s.owners s.given s.pages frames)
