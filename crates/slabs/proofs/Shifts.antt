-- For the layers above: single lists after a step, and rows whose chains alone were written.
use Rattle.std.proofs.Common.{◌≡◌, ℕ, zero, suc, ◌+◌, ◌<◌, eqb, List, ◌∷◌, map, get_or, Some, sym, refl, ap, ◌∙◌, subst, arith}
use Rattle.std.proofs.lemmas.Bool.{eq-eqb, ne_eqb, cond-true, cond-false}
use Rattle.std.proofs.lemmas.List.{get_or-set_other}
use Rattle.std.proofs.lemmas.Bool.Decides.{nat_tests}
use Rattle.recency.specs.Numbers.{count, without}
use Rattle.recency.specs.Lists.{foremost}
use Rattle.recency.proofs.Columns.{column_of_rest}
use Rattle.slabs.specs.declared.row.Row.{Row}
use Rattle.slabs.specs.declared.class.Class.{Class}
use Rattle.slabs.specs.declared.class.Stand.TheVariants.{Held}
use Rattle.slabs.specs.declared.slab.Slab.{Slab}
use Rattle.slabs.specs.Rows.{homes, rest, rests}
use Rattle.slabs.specs.Layouts.{Layout, class_at, start}
use Rattle.slabs.specs.Lists.{Family, held_of, into, out_of, shift, to_front, stocked}
use Rattle.slabs.specs.Slabs.{rows_of, homes_of, layout, Lists, Sound, InOrder, Shifted, Holds}
use Rattle.slabs.specs.Records.{bytes_at, key_lens, data_lens, key_of, data_of}
use Rattle.slabs.proofs.Families.{family_as, present}
use Rattle.slabs.proofs.Ends.{class_is}
use Rattle.slabs.proofs.Sounds.{order_same}
use Rattle.slabs.proofs.Telling.{spans_stay}

module _ (i h : ℕ) (ls : ℕ → List ℕ) where
  pub into_there : into i h ls h ≡ i ∷ ls h
  into_there = cond-true (eqb h h) (i ∷ ls h) (ls h) (eq-eqb h h refl)

  pub into_off : (g : ℕ) → (g ≡ h → ⊥) → into i h ls g ≡ ls g
  into_off g ne = cond-false (eqb g h) (i ∷ ls g) (ls g) (ne_eqb g h ne)

  pub out_there : out_of i h ls h ≡ without i (ls h)
  out_there = cond-true (eqb h h) (without i (ls h)) (ls h) (eq-eqb h h refl)

  pub out_off : (g : ℕ) → (g ≡ h → ⊥) → out_of i h ls g ≡ ls g
  out_off g ne = cond-false (eqb g h) (without i (ls g)) (ls g) (ne_eqb g h ne)

  pub front_there : to_front i h ls h ≡ i ∷ without i (ls h)
  front_there = cond-true (eqb h h) (i ∷ without i (ls h)) (ls h) (eq-eqb h h refl)

  pub front_off : (g : ℕ) → (g ≡ h → ⊥) → to_front i h ls g ≡ ls g
  front_off g ne = cond-false (eqb g h) (i ∷ without i (ls g)) (ls g) (ne_eqb g h ne)

module _ (i from to : ℕ) (ls : ℕ → List ℕ) (ne : from ≡ to → ⊥) where
  pub shift_to : shift i from to ls to ≡ i ∷ ls to
  shift_to = into_there i to (out_of i from ls) ∙ ap (λ xs. i ∷ xs) (out_off i from ls to (λ e. ne (sym e)))

  pub shift_from : shift i from to ls from ≡ without i (ls from)
  shift_from = into_off i to (out_of i from ls) from ne ∙ out_there i from ls

  pub shift_off : (g : ℕ) → (g ≡ from → ⊥) → (g ≡ to → ⊥) → shift i from to ls g ≡ ls g
  shift_off g a b = into_off i to (out_of i from ls) g b ∙ out_off i from ls g a

-- the other lists after a page was given
pub stocked_off : (first n h : ℕ) (ls : ℕ → List ℕ) (g : ℕ) → (g ≡ h → ⊥) → stocked first n h ls g ≡ ls g
stocked_off first zero h ls g ne = refl
stocked_off first (suc n) h ls g ne = into_off (first + n) h (stocked first n h ls) g ne ∙ stocked_off first n h ls g ne

-- a page that was given has a free chunk
pub stocked_some : (first n h : ℕ) (ls : ℕ → List ℕ) → 0 < n → (i : ℕ) × (foremost (stocked first n h ls h) ≡ Some i)
stocked_some first zero h ls some = absurd (omega arith)
stocked_some first (suc n) h ls some = (first + n, ap foremost (into_there (first + n) h (stocked first n h ls)))

-- a row in the list of a class's records holds a record of that class
pub holds_listed : (s : Slab) → ∥ Sound s ∥₁ → (ls : ℕ → List ℕ) → Lists s ls → (class i : ℕ) → 0 < count i (ls (held_of class)) → Holds s i × (class_at (layout s) i ≡ class)
holds_listed s t ls f class i there =
    let n = f.named (held_of class) i (omega arith) in
    let home : get_or (homes_of s) i 0 ≡ held_of class = grind (arith, nat_tests) in
    let at = class_is s t i class Held home in
    (home ∙ ap held_of (sym at), at)

-- and a row that holds a record is in that list
pub listed_holds : (s : Slab) (ls : ℕ → List ℕ) → Lists s ls → (i : ℕ) → Holds s i → count i (ls (held_of (class_at (layout s) i))) ≡ 1
listed_holds s ls f i held = present s.classes.all (rows_of s) ls f i (held_of (class_at (layout s) i)) (omega arith) held

-- a row that was not shifted holds what it held
pub holds_off : (s t : Slab) (i from to : ℕ) → Shifted s t i from to → (j : ℕ) → (j ≡ i → ⊥) → Holds s j → Holds t j
holds_off s t i from to e j ne held =
    ap (λ hs. get_or hs j 0) e.homes ∙ get_or-set_other (homes_of s) i j to 0 ne ∙ held ∙ ap (λ l. held_of (class_at l j)) (sym e.layout)

-- rows that tell the same in the same layout have the same records
pub record_same : (s t : Slab) (memory : List ℕ) → layout t ≡ layout s → rests (rows_of t) ≡ rests (rows_of s) → (j : ℕ) → (key_of t memory j ≡ key_of s memory j) × (data_of t memory j ≡ data_of s memory j)
record_same s t memory same e j =
    let at = ap (λ l. start l j) same in
    let keys = ap (λ xs. get_or xs j 0) (column_of_rest rest (λ r. r.key_len) (λ _. refl) (rows_of s) (rows_of t) e) in
    let blocks = ap (λ xs. get_or xs j 0) (column_of_rest rest (λ r. r.data_len) (λ _. refl) (rows_of s) (rows_of t) e) in (
      ap (λ x. bytes_at memory x (get_or (key_lens (rows_of t)) j 0)) at ∙ ap (λ n. bytes_at memory (start (layout s) j) n) keys,
      ap (λ x. bytes_at memory (x + get_or (key_lens (rows_of t)) j 0) (get_or (data_lens (rows_of t)) j 0)) at
          ∙ ap (λ n. bytes_at memory (start (layout s) j + n) (get_or (data_lens (rows_of t)) j 0)) keys
          ∙ ap (λ n. bytes_at memory (start (layout s) j + get_or (key_lens (rows_of s)) j 0) n) blocks,
    )

-- rows that differ in their chains alone
module _ (classes : List Class) (rows rows' : List Row) (next : map (λ r. r.next) rows' ≡ map (λ r. r.next) rows) (prev : map (λ r. r.prev) rows' ≡ map (λ r. r.prev) rows) (stay : homes rows' ≡ homes rows) where
  pub family_rechained : (ls : ℕ → List ℕ) → Family classes rows ls → Family classes rows' ls
  family_rechained ls f = family_as classes rows rows' ls next prev stay f

  pub order_rechained : (l : Layout) → key_lens rows' ≡ key_lens rows → data_lens rows' ≡ data_lens rows → InOrder classes rows l → InOrder classes rows' l
  order_rechained l keys blocks z = order_same classes classes rows rows' l z family_rechained stay (λ j class held. let a = spans_stay rows rows' keys blocks j in let f = z.fitting j class held in omega arith)

-- and so of two slabs, the rows of one of which are those of the other with other chains
module _ (s t : Slab) (classes : t.classes ≡ s.classes) (next : map (λ r. r.next) (rows_of t) ≡ map (λ r. r.next) (rows_of s)) (prev : map (λ r. r.prev) (rows_of t) ≡ map (λ r. r.prev) (rows_of s)) (homes : homes_of t ≡ homes_of s) where
  pub lists_rechained : (ls : ℕ → List ℕ) → Lists s ls → Lists t ls
  lists_rechained ls f = subst (λ cs. Family cs.all (rows_of t) ls) (sym classes) (family_rechained s.classes.all (rows_of s) (rows_of t) next prev homes ls f)

  pub sound_rechained : layout t ≡ layout s → key_lens (rows_of t) ≡ key_lens (rows_of s) → data_lens (rows_of t) ≡ data_lens (rows_of s) → Sound s → Sound t
  sound_rechained same keys blocks z =
      subst (λ l. InOrder t.classes.all (rows_of t) l) (sym same)
      (subst (λ cs. InOrder cs.all (rows_of t) (layout s)) (sym classes) (order_rechained s.classes.all (rows_of s) (rows_of t) next prev homes (layout s) keys blocks z))
