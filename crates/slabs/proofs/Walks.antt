-- A walk from the back of a list: what lies behind has been looked at.
use Rattle.std.proofs.Common.{◌≡◌, ℕ, ◌+◌, ◌<◌, ◌≤◌, Bool, true, false, cond, List, [], ◌∷◌, ◌++◌, map, length, get_or, Some, None, Option, unwrap_or, sym, refl, ap, ◌∙◌, subst, arith, length-append}
use lib.ListN.{length-map}
use Rattle.std.proofs.lemmas.List.{append_assoc, append-nil, nil_from_length}
use Rattle.std.proofs.lemmas.Bool.{cond-true, cond-false}
use Rattle.recency.specs.Numbers.{none, count}
use Rattle.recency.specs.Lists.{rearmost, last, Prevs}
use Rattle.recency.specs.declared.RecencyList.{RecencyList}
use Rattle.recency.proofs.Counts.{count_append}
use Rattle.recency.proofs.Steps.{in_range}
use Rattle.chained.specs.Chains.{Chain}
use Rattle.chained.proofs.Walks.{steps, steps_chain, chain_short}
use Rattle.slabs.specs.declared.row.Row.{Row}
use Rattle.slabs.specs.declared.class.Stand.TheVariants.{Held}
use Rattle.slabs.specs.declared.slab.Slab.{Slab}
use Rattle.slabs.specs.Rows.{blank, RowsRead}
use Rattle.slabs.specs.Lists.{held_of, keep, Picks}
use Rattle.slabs.specs.Layouts.{class_at}
use Rattle.slabs.specs.Slabs.{rows_of, homes_of, layout, Lists, Sound, Holds}
use Rattle.slabs.proofs.Ends.{rearmost_in, names, class_is}

-- of the list xs the rows at the back did not pass, and `at` is the row ahead of them
pub record Walked (xs : List ℕ) (at : Option ℕ) (passed : List ℕ → Type 0) : Type 0 where
  pub ahead : List ℕ
  pub behind : List ℕ
  pub parts : xs ≡ ahead ++ behind
  pub at_is : at ≡ rearmost ahead
  pub none_behind : passed behind

-- no function that says what the test says keeps any of these
abbrev pub NonePicked : (Row → Bool → Type 0) → List Row → List ℕ → Type 0
NonePicked says rows ids = (picks : ℕ → Bool) → Picks says rows picks → keep picks ids ≡ []

keep_append : (test : ℕ → Bool) (a b : List ℕ) → keep test (a ++ b) ≡ keep test a ++ keep test b
keep_append test [] b = refl
keep_append test (x ∷ a) b = go (test x) (keep_append test a b)
  where
    go : (t : Bool) → keep test (a ++ b) ≡ keep test a ++ keep test b → cond t (x ∷ keep test (a ++ b)) (keep test (a ++ b)) ≡ cond t (x ∷ keep test a) (keep test a) ++ keep test b
    go true h = ap (λ ys. x ∷ ys) h
    go false h = h

rear_push : (a : List ℕ) (i : ℕ) → rearmost (a ++ i ∷ []) ≡ Some i
rear_push [] i = refl
rear_push (x ∷ a) i = ap Some (last_push a x i)
  where
    last_push : (a : List ℕ) (x i : ℕ) → last (a ++ i ∷ []) x ≡ i
    last_push [] x i = refl
    last_push (y ∷ a) x i = last_push a y i

-- the last of a list, and what is ahead of it
rear_split : (x : ℕ) (a : List ℕ) → (b : List ℕ) × (x ∷ a ≡ b ++ last a x ∷ [])
rear_split x [] = ([], refl)
rear_split x (y ∷ a) = let r = rear_split y a in (x ∷ r.0, ap (λ ys. x ∷ ys) r.1)

pub rear_parts : (a : List ℕ) (i : ℕ) → Some i ≡ rearmost a → (b : List ℕ) × (a ≡ b ++ i ∷ [])
rear_parts [] i e = let z : ◌≡◌ {A = ℕ} 0 1 = cc in absurd (omega arith)
rear_parts (x ∷ a) i e = let r = rear_split x a in let same : i ≡ last a x = cc in (r.0, subst (λ k. x ∷ a ≡ r.0 ++ k ∷ []) (sym same) r.1)

none_left : (a : List ℕ) → None ≡ rearmost a → a ≡ []
none_left [] e = refl
none_left (x ∷ a) e = let z : ◌≡◌ {A = ℕ} 0 1 = cc in absurd (omega arith)

module _ (says : Row → Bool → Type 0) (rows : List Row) (xs : List ℕ) where
  pub walk_in : (i : ℕ) → Walked xs (Some i) (NonePicked says rows) → 0 < count i xs
  walk_in i w = let a = rearmost_in w.ahead i w.at_is in let b = count_append i w.ahead w.behind in let c = ap (λ ys. count i ys) w.parts in omega arith

  -- where the row at hand stands
  pub walk_parts : (i : ℕ) → (w : Walked xs (Some i) (NonePicked says rows)) → xs ≡ (rear_parts w.ahead i w.at_is).0 ++ i ∷ w.behind
  walk_parts i w = let r = rear_parts w.ahead i w.at_is in w.parts ∙ ap (λ ys. ys ++ w.behind) r.1 ∙ append_assoc r.0 (i ∷ []) w.behind

  module _ (picks : ℕ → Bool) (same : Picks says rows picks) where
    pub walk_finds : (i : ℕ) → picks i ≡ true → Walked xs (Some i) (NonePicked says rows) → Some i ≡ rearmost (keep picks xs)
    walk_finds i pass w =
        let r = rear_parts w.ahead i w.at_is in
        let kept = keep_append picks r.0 (i ∷ w.behind) ∙ ap (λ ys. keep picks r.0 ++ ys) (cond-true (picks i) (i ∷ keep picks w.behind) (keep picks w.behind) pass ∙ ap (λ ys. i ∷ ys) (w.none_behind picks same)) in
        sym (ap (λ ys. rearmost (keep picks ys)) (walk_parts i w) ∙ ap rearmost kept ∙ rear_push (keep picks r.0) i)

  pub walk_goes : (i : ℕ) (at : Option ℕ) → says (get_or rows i blank) false → (w : Walked xs (Some i) (NonePicked says rows)) → at ≡ rearmost (rear_parts w.ahead i w.at_is).0 → Walked xs at (NonePicked says rows)
  walk_goes i at fail w e =
      record {
        ahead = (rear_parts w.ahead i w.at_is).0;
        behind = i ∷ w.behind;
        parts = walk_parts i w;
        at_is = e;
        none_behind = λ picks same. cond-false (picks i) (i ∷ keep picks w.behind) (keep picks w.behind) (sym (same i false fail)) ∙ w.none_behind picks same;
      }

-- the walk, where n rows lie behind it: it needs no sound slab, and ends by its count
abbrev pub Counted : (Row → Bool → Type 0) → List Row → List ℕ → ℕ → Option ℕ → Type 0
Counted says rows xs n at = (w : Walked xs at (NonePicked says rows)) × (length w.behind ≡ n)

module _ (says : Row → Bool → Type 0) (rows : List Row) (xs : List ℕ) where
  pub counted_starts : (at : Option ℕ) → at ≡ rearmost xs → Counted says rows xs 0 at
  counted_starts at e = (record { ahead = xs; behind = []; parts = sym (append-nil xs); at_is = e; none_behind = λ picks same. refl }, refl)

  pub counted_all : (n : ℕ) (at : Option ℕ) → length xs ≡ n → Counted says rows xs n at → (picks : ℕ → Bool) → Picks says rows picks → None ≡ rearmost (keep picks xs)
  counted_all n at long w picks same =
      let l = length-append w.0.ahead w.0.behind in
      let e = ap length w.0.parts in
      let f = w.1 in
      let gone = nil_from_length w.0.ahead (omega arith) in
      sym (ap (λ ys. rearmost (keep picks ys)) (w.0.parts ∙ ap (λ ys. ys ++ w.0.behind) gone) ∙ ap rearmost (w.0.none_behind picks same))

  module _ (list : RecencyList) (read : RowsRead list rows xs) (n i : ℕ) (w : Counted says rows xs n (Some i)) where
    pub counted_within : i < length rows
    counted_within = let k = in_range (map (λ row. row.next) rows) xs none i read.nexts (walk_in says rows xs i w.0) in omega (arith, length-map rows (λ row. row.next))

    pub counted_goes : (at : Option ℕ) → says (get_or rows i blank) false → ((a b : List ℕ) → RowsRead list rows (a ++ i ∷ b) → at ≡ rearmost a) → Counted says rows xs (n + 1) at
    unfolding walk_goes
    counted_goes at fail ahead =
        let a = (rear_parts w.0.ahead i w.0.at_is).0 in
        (walk_goes says rows xs i at fail w.0 (ahead a w.0.behind (subst (λ ys. RowsRead list rows ys) (walk_parts says rows xs i w.0) read)), (let f = w.1 in omega arith))

-- the row at hand holds a record of the class
module _ (says : Row → Bool → Type 0) (s : Slab) (t : ∥ Sound s ∥₁) (class i : ℕ) (w : (ls : ℕ → List ℕ) → Lists s ls → Walked (ls (held_of class)) (Some i) (NonePicked says (rows_of s))) where
  pub walk_home : get_or (homes_of s) i 0 ≡ held_of class
  walk_home = names s t i (held_of class) (omega arith) (λ ls f. walk_in says (rows_of s) (ls (held_of class)) i (w ls f))

  pub walk_class : class_at (layout s) i ≡ class
  walk_class = class_is s t i class Held walk_home

  pub walk_holds : Holds s i
  walk_holds = walk_home ∙ ap held_of (sym walk_class)

  -- which is where the walk goes on
  pub walk_on : (at : Option ℕ) → ((ls : ℕ → List ℕ) → Lists s ls → (a b : List ℕ) → ls (held_of (class_at (layout s) i)) ≡ a ++ i ∷ b → at ≡ rearmost a) → (ls : ℕ → List ℕ) → (f : Lists s ls) → at ≡ rearmost (rear_parts (w ls f).ahead i (w ls f).at_is).0
  walk_on at ahead ls f = ahead ls f (rear_parts (w ls f).ahead i (w ls f).at_is).0 (w ls f).behind (ap (λ k. ls (held_of k)) walk_class ∙ walk_parts says (rows_of s) (ls (held_of class)) i (w ls f))

-- how many rows the walk still meets, in rows whose links towards the front these are
abbrev pub left_ahead : List ℕ → Option ℕ → ℕ
left_ahead prev at = steps (length prev) prev (unwrap_or at none)

turned : List ℕ → List ℕ → List ℕ
turned [] done = done
turned (x ∷ xs) done = turned xs (x ∷ done)

turned_long : (xs done : List ℕ) → length (turned xs done) ≡ length xs + length done
unfolding turned
turned_long [] done = omega arith
turned_long (x ∷ xs) done = let h = turned_long xs (x ∷ done) in omega arith

turned_count : (k : ℕ) (xs done : List ℕ) → count k (turned xs done) ≡ count k xs + count k done
unfolding turned
turned_count k [] done = omega arith
turned_count k (x ∷ xs) done = let h = turned_count k xs (x ∷ done) in omega arith

-- the links towards the front are a chain from the back
chain_back : (prev : List ℕ) (before : ℕ) (ids done : List ℕ) → Chain prev before done → Prevs prev before ids → Chain prev (last ids before) (turned ids done)
unfolding turned
chain_back prev before [] done ch p = ch
chain_back prev before (i ∷ ids) done ch p = chain_back prev i ids (i ∷ done) (refl, p.0, subst (λ k. Chain prev k done) (sym p.1) ch) p.2

prevs_part : (prev : List ℕ) (before : ℕ) (a b : List ℕ) → Prevs prev before (a ++ b) → Prevs prev before a
prevs_part prev before [] b p = tt
prevs_part prev before (x ∷ a) b p = (p.0, p.1, prevs_part prev x a b p.2)

or_none : (a : List ℕ) → unwrap_or (rearmost a) none ≡ last a none
or_none [] = refl
or_none (x ∷ a) = refl

-- the walk meets just the rows ahead
left_is : {list : RecencyList} (rows : List Row) (a b : List ℕ) (at : Option ℕ) → RowsRead list rows (a ++ b) → at ≡ rearmost a → left_ahead (map (λ row. row.prev) rows) at ≡ length a
left_is rows a b at r e =
    let prev = map (λ row. row.prev) rows in
    let back = chain_back prev none a [] refl (prevs_part prev none a b r.prevs) in
    let few = r.few in
    let same : length prev ≤ none = omega (arith, length-map rows (λ row. row.prev), length-map rows (λ row. row.next)) in
    let once : (k : ℕ) → count k (turned a []) ≤ 1 = λ k. let c = turned_count k a [] in let o = r.once k in let d = count_append k a b in omega arith in
    ap (λ k. steps (length prev) prev k) (ap (λ o. unwrap_or o none) e ∙ or_none a)
    ∙ steps_chain (length prev) prev (last a none) (turned a []) same back (chain_short prev (last a none) (turned a []) back once)
    ∙ (let n = turned_long a [] in omega arith)

-- so there are fewer after a step
pub walk_less : (list : RecencyList) (says : Row → Bool → Type 0) (rows : List Row) (xs : List ℕ) (i : ℕ) (at : Option ℕ) → RowsRead list rows xs → (w : Walked xs (Some i) (NonePicked says rows)) → at ≡ rearmost (rear_parts w.ahead i w.at_is).0 → left_ahead (map (λ row. row.prev) rows) at < left_ahead (map (λ row. row.prev) rows) (Some i)
walk_less list says rows xs i at r w e =
    let parts = rear_parts w.ahead i w.at_is in
    let was = left_is rows w.ahead w.behind (Some i) (subst (λ ys. RowsRead list rows ys) w.parts r) w.at_is in
    let now_is = left_is rows parts.0 (i ∷ w.behind) at (subst (λ ys. RowsRead list rows ys) (walk_parts says rows xs i w) r) e in
    let long = ap length parts.1 ∙ length-append parts.0 (i ∷ []) in
    omega arith
