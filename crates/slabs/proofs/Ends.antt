-- The rows at the ends of a slab's lists.
use Rattle.std.proofs.Common.{◌≡◌, ℕ, ◌+◌, ◌*◌, ◌/◌, ◌%◌, ◌<◌, ◌≤◌, ◌⊎◌, List, [], ◌∷◌, length, get_or, Some, refl, ap, inl, inr, ⊎_elim, arith}
use native.Mathlib.Bridge.{le_prop}
use mathlib.Core.Logic.{∥∥₁_elim}
use lib.ListN.{length-map}
use Rattle.std.proofs.lemmas.Bool.{cases_lt}
use Rattle.std.proofs.lemmas.Bool.Decides.{nat_tests}
use Rattle.recency.specs.Numbers.{count}
use Rattle.recency.specs.Lists.{foremost, rearmost, last}
use Rattle.recency.proofs.Links.{last_in, present_head}
use Rattle.slabs.specs.declared.class.Stand.{Stand}
use Rattle.slabs.specs.declared.slab.Slab.{Slab}
use Rattle.slabs.specs.Lists.{list_of}
use Rattle.slabs.specs.Layouts.{Chunk, class_at, size_at, start}
use Rattle.slabs.specs.Slabs.{rows_of, homes_of, spans_of, layout, Lists, Sound, Holds}
use Rattle.slabs.proofs.Families.{list_some, list_num, absent}
use Rattle.slabs.proofs.Placing.{home_chunk, home_within, home_class}
use Rattle.slabs.proofs.Bytes.{chunks_apart}

pub foremost_in : (xs : List ℕ) (r : ℕ) → Some r ≡ foremost xs → 0 < count r xs
foremost_in [] r e = let z : ◌≡◌ {A = ℕ} 0 1 = cc in absurd (omega arith)
foremost_in (x ∷ xs) r e = let same : r ≡ x = cc in let p = present_head x xs in let q = ap (λ k. count k (x ∷ xs)) same in omega arith

pub rearmost_in : (xs : List ℕ) (r : ℕ) → Some r ≡ rearmost xs → 0 < count r xs
rearmost_in [] r e = let z : ◌≡◌ {A = ℕ} 0 1 = cc in absurd (omega arith)
rearmost_in (x ∷ xs) r e = let same : r ≡ last xs x = cc in let p = last_in xs x in let q = ap (λ k. count k (x ∷ xs)) same in omega arith

pub none_in : (xs : List ℕ) → ((k : ℕ) → count k xs ≤ 0) → xs ≡ []
none_in [] h = refl
none_in (x ∷ xs) h = absurd (omega (arith, h x, present_head x xs))

module _ (s : Slab) (t : ∥ Sound s ∥₁) where
  -- a row that stands in a list names it
  pub names : (r h : ℕ) → 0 < h → ((ls : ℕ → List ℕ) → Lists s ls → 0 < count r (ls h)) → get_or (homes_of s) r 0 ≡ h
  names r h ph stands =
      let up : get_or (homes_of s) r 0 ≤ h = ∥∥₁_elim t le_prop (λ z. let a = z.listed.named h r ph in let b = stands z.lists z.listed in grind (arith, nat_tests)) in
      let down : h ≤ get_or (homes_of s) r 0 = ∥∥₁_elim t le_prop (λ z. let a = z.listed.named h r ph in let b = stands z.lists z.listed in grind (arith, nat_tests)) in
      omega arith

  -- there are no lists past the last class
  pub homes_few : (i : ℕ) → get_or (homes_of s) i 0 ≤ 99
  homes_few i =
      ∥∥₁_elim t le_prop (λ z.
      ⊎_elim
      (λ (some : 0 < get_or (homes_of s) i 0).
      let of = z.placed.listed i (home_chunk (layout s) (homes_of s) z.placed i some) in
      let high = of.high in
      let few = z.placed.owned (i / 85) in
      omega arith)
      (λ none. omega arith)
      (cases_lt 0 (get_or (homes_of s) i 0)))

  pub beyond : (ls : ℕ → List ℕ) → Lists s ls → (stand : Stand) (class : ℕ) → 33 ≤ class → ls (list_of stand class) ≡ []
  beyond ls f stand class far =
      none_in (ls (list_of stand class)) (λ k. omega (arith, absent s.classes.all (rows_of s) ls f k (list_of stand class) (list_some stand class) (λ e. omega (arith, list_num stand class, homes_few k))))

  pub classes_long : length s.classes.all ≡ 33
  classes_long =
      let up : length s.classes.all ≤ 33 = ∥∥₁_elim t le_prop (λ z. let c = z.placed.classes.0 in omega (arith, length-map s.classes.all (λ x. x.size))) in
      let down : 33 ≤ length s.classes.all = ∥∥₁_elim t le_prop (λ z. let c = z.placed.classes.0 in omega (arith, length-map s.classes.all (λ x. x.size))) in
      omega arith

  pub owners_few : (p : ℕ) → get_or s.owners p 0 < 33
  owners_few p = ∥∥₁_elim t le_prop (λ z. z.placed.owned p)

  pub page_of_row : (i : ℕ) → i < length (rows_of s) → i / 85 < 256
  page_of_row i w = ∥∥₁_elim t le_prop (λ z. let r = z.placed.rows in let f = z.placed.few in let m = length-map (rows_of s) (λ row. row.home) in omega arith)

  -- the page and the chunk of a row that is in a list
  module _ (i : ℕ) (some : 0 < get_or (homes_of s) i 0) where
    pub listed_within : i < length (rows_of s)
    listed_within = ∥∥₁_elim t le_prop (λ z. let w = home_within (layout s) (homes_of s) z.placed i some in omega (arith, length-map (rows_of s) (λ row. row.home)))

    pub chunk_inside : i % 85 * size_at (layout s) i + size_at (layout s) i ≤ 4096
    chunk_inside = ∥∥₁_elim t le_prop (λ z. z.placed.inside (class_at (layout s) i) (i % 85) (home_chunk (layout s) (homes_of s) z.placed i some))

    pub page_within : (i / 85) + 1 ≤ s.pages
    page_within = ∥∥₁_elim t le_prop (λ z. let r = z.placed.rows in let m = length-map (rows_of s) (λ row. row.home) in let w = listed_within in omega arith)

  -- the class of a row in a class's list, and the room of its chunk
  module _ (i class : ℕ) (stand : Stand) (home : get_or (homes_of s) i 0 ≡ list_of stand class) where
    pub class_is : class_at (layout s) i ≡ class
    class_is =
        let up : class_at (layout s) i ≤ class = ∥∥₁_elim t le_prop (λ z. let e = home_class (layout s) (homes_of s) z.placed i class stand home in omega arith) in
        let down : class ≤ class_at (layout s) i = ∥∥₁_elim t le_prop (λ z. let e = home_class (layout s) (homes_of s) z.placed i class stand home in omega arith) in
        omega arith

    pub size_of_class : size_at (layout s) i ≡ get_or (layout s).sizes class 0
    size_of_class = ap (λ k. get_or (layout s).sizes k 0) class_is

    pub chunk_there : Chunk (layout s) i
    chunk_there = ∥∥₁_elim t le_prop (λ z. home_chunk (layout s) (homes_of s) z.placed i (omega (arith, list_some stand class)))

  -- a record fits its chunk
  pub record_fits : (j : ℕ) → Holds s j → get_or (spans_of (rows_of s)) j 0 ≤ size_at (layout s) j
  record_fits j held = ∥∥₁_elim t le_prop (λ z. z.fitting j (class_at (layout s) j) held)

  -- chunks of different rows lie apart
  pub lie_apart : (i j : ℕ) → Chunk (layout s) i → Chunk (layout s) j → (i ≡ j → ⊥) → (start (layout s) i + size_at (layout s) i ≤ start (layout s) j) ⊎ (start (layout s) j + size_at (layout s) j ≤ start (layout s) i)
  lie_apart i j ci cj ne =
      ⊎_elim
      (λ (lt : start (layout s) j < start (layout s) i + size_at (layout s) i).
      inr (∥∥₁_elim t le_prop (λ z. ⊎_elim (λ first. absurd (omega arith)) (λ second. second) (chunks_apart (layout s) (homes_of s) z.placed i j ci cj ne))))
      inl
      (cases_lt (start (layout s) j) (start (layout s) i + size_at (layout s) i))

-- the row at the front of a list names it
pub first_names : (s : Slab) → ∥ Sound s ∥₁ → (class row : ℕ) (stand : Stand) → ((ls : ℕ → List ℕ) → Lists s ls → Some row ≡ foremost (ls (list_of stand class))) → get_or (homes_of s) row 0 ≡ list_of stand class
first_names s t class row stand is =
    names s t row (list_of stand class) (list_some stand class) (λ ls f. foremost_in (ls (list_of stand class)) row (is ls f))
