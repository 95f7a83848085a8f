-- What a sound slab tells of its lists, and that all is in order still after a row took another place in them.
use Rattle.std.proofs.Common.{◌≡◌, ℕ, ◌+◌, ◌*◌, ◌<◌, ◌≤◌, Bool, true, false, cond, eqb, List, ◌∷◌, length, get_or, set, sym, refl, ap, ◌∙◌, subst, arith}
use native.Mathlib.Bridge.{le_prop}
use mathlib.Core.Logic.{∥∥₁_elim, ∥∥₁_map}
use lib.ListN.{length-map}
use Rattle.std.proofs.lemmas.Bool.{eqb-true}
use Rattle.recency.specs.Numbers.{count, without}
use Rattle.recency.proofs.Columns.{column_of_rest}
use Rattle.slabs.specs.declared.row.Row.{Row}
use Rattle.slabs.specs.declared.class.Stand.{Stand}
use Rattle.slabs.specs.declared.class.Stand.TheVariants.{Free, Granted, Held}
use Rattle.slabs.specs.declared.class.Class.{Class}
use Rattle.slabs.specs.declared.slab.Slab.{Slab}
use Rattle.slabs.specs.Rows.{homes, rest, rests}
use Rattle.slabs.specs.Classes.{count_at}
use Rattle.slabs.specs.Lists.{Family, list_of, held_of, shift, to_front}
use Rattle.slabs.specs.Layouts.{Layout, Placed, OfClass, Fitting, class_at}
use Rattle.slabs.specs.Slabs.{rows_of, homes_of, spans_of, layout, Lists, Sound, InOrder}
use Rattle.slabs.proofs.Families.{list_some, present, length_without}
use Rattle.slabs.proofs.Placing.{home_chunk, home_within, home_class, home_few, stand_of_class, placed_shift, fitting_shift, chunks_few, full_shift}

pub spans_of_rests : (rows rows' : List Row) → rests rows' ≡ rests rows → spans_of rows' ≡ spans_of rows
spans_of_rests rows rows' e = column_of_rest rest (λ r. r.key_len + r.data_len) (λ r. refl) rows rows' e

length_front : (b : Bool) (i : ℕ) (xs : List ℕ) → (b ≡ true → count i xs ≡ 1) → length (cond b (i ∷ without i xs) xs) ≡ length xs
length_front true i xs one = let e = length_without i xs in let o = one refl in omega arith
length_front false i xs one = refl

-- no list of a class is longer than all its chunks
pub lists_few : (s : Slab) → (z : Sound s) → (stand : Stand) (class : ℕ) → class < 33 → length (z.lists (list_of stand class)) ≤ 21760
lists_few s z Free class few = let f = z.full class few in let n = chunks_few (layout s) (homes_of s) z.placed class in omega arith
lists_few s z Granted class few = let f = z.full class few in let n = chunks_few (layout s) (homes_of s) z.placed class in omega arith
lists_few s z Held class few = let f = z.full class few in let n = chunks_few (layout s) (homes_of s) z.placed class in omega arith

module _ (s : Slab) (t : ∥ Sound s ∥₁) where
  pub some_lists : ∥ ((ls : ℕ → List ℕ) × Lists s ls) ∥₁
  some_lists = ∥∥₁_map t (λ z. (z.lists, z.listed))

  -- a row that is in a list of a class
  module _ (i class : ℕ) (stand : Stand) (home : get_or (homes_of s) i 0 ≡ list_of stand class) where
    pub row_within : i < length (rows_of s)
    row_within = ∥∥₁_elim t le_prop (λ z. let w = home_within (layout s) (homes_of s) z.placed i (omega (arith, list_some stand class)) in omega (arith, length-map (rows_of s) (λ row. row.home)))

    pub class_few : class < 33
    class_few = ∥∥₁_elim t le_prop (λ z. home_few (layout s) (homes_of s) z.placed i class stand home)

    -- there is room in every list of its class
    pub room_left : (to : Stand) → count_at s.classes.all class to + 1 < 4294967296
    room_left to =
        ∥∥₁_elim t le_prop (λ z.
        let n = z.listed.counted class to class_few in
        let few = lists_few s z to class class_few in
        omega arith)

-- rows that tell as long records and name lists of their classes, over the same pages
module _ (classes classes' : List Class) (rows rows' : List Row) (l : Layout) (z : InOrder classes rows l) where
  -- a row was shifted
  pub order_shift : (i class : ℕ) (from to : Stand) → get_or (homes rows) i 0 ≡ list_of from class → (list_of to class ≡ held_of class → get_or (spans_of rows) i 0 ≤ get_or l.sizes class 0) → ((ls : ℕ → List ℕ) → Family classes rows ls → Family classes' rows' (shift i (list_of from class) (list_of to class) ls)) → homes rows' ≡ set (homes rows) i (list_of to class) → rests rows' ≡ rests rows → InOrder classes' rows' l
  order_shift i class from to home fits lists moved same =
      let hs = homes rows in
      let p = z.placed in
      let h = list_of to class in
      let some : 0 < get_or hs i 0 = omega (arith, list_some from class) in
      let within = home_within l hs p i some in
      let at = home_class l hs p i class from home in
      record {
        lists = shift i (list_of from class) h z.lists;
        listed = lists z.lists z.listed;
        placed =
            subst (λ x. Placed l x) (sym moved)
            (placed_shift l hs p i h (home_chunk l hs p i some) within (subst (λ x. OfClass (class_at l i) (list_of to x)) at (stand_of_class l hs p i to)));
        fitting =
            subst (λ x. Fitting l x (spans_of rows')) (sym moved)
            (subst (λ x. Fitting l (set hs i h) x) (sym (spans_of_rests rows rows' same))
            (fitting_shift l hs p (spans_of rows) i class to within z.fitting fits));
        full = λ g few. full_shift l i class from to z.lists (present classes rows z.lists z.listed i (list_of from class) (list_some from class) home) g (z.full g few);
      }

  -- a row went to the front of its list
  pub order_front : (i h : ℕ) → 0 < h → get_or (homes rows) i 0 ≡ h → ((ls : ℕ → List ℕ) → Family classes rows ls → Family classes' rows' (to_front i h ls)) → homes rows' ≡ homes rows → rests rows' ≡ rests rows → InOrder classes' rows' l
  order_front i h some home lists stay same =
      let long : (g : ℕ) → length (to_front i h z.lists g) ≡ length (z.lists g) = λ g.
      length_front (eqb g h) i (z.lists g) (λ b. ap (λ k. count i (z.lists k)) (eqb-true g h b) ∙ present classes rows z.lists z.listed i h some home) in
      record {
        lists = to_front i h z.lists;
        listed = lists z.lists z.listed;
        placed = subst (λ x. Placed l x) (sym stay) z.placed;
        fitting =
            subst (λ x. Fitting l x (spans_of rows')) (sym stay)
            (subst (λ x. Fitting l (homes rows) x) (sym (spans_of_rests rows rows' same)) z.fitting);
        full = λ g few. let a = long (3 * g + 1) in let b = long (3 * g + 2) in let c = long (3 * g + 3) in let f = z.full g few in omega arith;
      }

  -- no row took another place, and the records fit their chunks
  pub order_same : ((ls : ℕ → List ℕ) → Family classes rows ls → Family classes' rows' ls) → homes rows' ≡ homes rows → Fitting l (homes rows) (spans_of rows') → InOrder classes' rows' l
  order_same lists stay fitting =
      record {
        lists = z.lists;
        listed = lists z.lists z.listed;
        placed = subst (λ x. Placed l x) (sym stay) z.placed;
        fitting = subst (λ x. Fitting l x (spans_of rows')) (sym stay) fitting;
        full = z.full;
      }
