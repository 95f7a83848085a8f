use Rattle.std.proofs.Common.{◌≡◌, ℕ, ◌<◌, cond, eqb, List, map, length, get_or, set, vec_items, sym, refl, ap, ◌∙◌, subst, ⊎_elim, arith, Vec, Global}
use mathlib.Core.Logic.{∥∥₁_map}
use lib.ListN.{length-map}
use Rattle.std.specs.Vec.{with_items}
use Rattle.std.proofs.lemmas.List.{with_items_is, get_or-set_same, get_or-set_other}
use Rattle.std.proofs.lemmas.Bool.{cases_eq, eq-eqb, ne_eqb, cond-true, cond-false}
use Rattle.recency.specs.Numbers.{count, without}
use Rattle.recency.proofs.Counts.{count_without}
use Rattle.recency.proofs.Columns.{column_of_rest}
use Rattle.chained.specs.Chains.{Keeps, Holds, size}
use Rattle.slabs.specs.declared.row.Row.{Row}
use Rattle.slabs.specs.Rows.{homes, rest, rests}
use Rattle.slabs.specs.Lists.{held_of, free_of}
use Rattle.slabs.specs.Layouts.{class_at}
use Rattle.slabs.specs.Slabs.{rows_of, homes_of, layout}
use Rattle.records.specs.declared.records.Records.{Records}
use Rattle.records.specs.Indexes.{Indexes}
use Rattle.records.specs.Standing.{Indexed}
use Rattle.records.proofs.Chaining.{unchained, within, homes_same, family_same, order_same}
use Rattle.records.proofs.Turns.{told}
use Rattle.records.proofs.Leaving.{shows_left}
use Rattle.records.proofs.records.Records.unlink.Goals as goal
use Rattle.records.proofs.records.Records.unlink.Goals.{After-remove}

-- a held row is once in the table
once : (homes : List ℕ) (i c n : ℕ) → n ≡ cond (eqb (get_or homes i 0) (held_of c)) 1 0 → get_or homes i 0 ≡ held_of c → n ≡ 1
once homes i c n exact held = exact ∙ cond-true (eqb (get_or homes i 0) (held_of c)) 1 0 (eq-eqb _ _ held)

pub remove-requires-clause-inside : goal.remove-requires-clause-inside
remove-requires-clause-inside c =
    let t = c.args.self.now in
    ∥∥₁_map t.indexed (λ ix. (
      ix.ids,
      subst (λ hs. Keeps (λ row. row.chain) (λ row. row.tag.hash) t.table hs c.deref_mut-2.result.now ix.ids) (sym c.deref_mut.ensures.value)
          (subst (λ rs. Keeps (λ row. row.chain) (λ row. row.tag.hash) t.table (vec_items t.heads) rs ix.ids) (sym c.deref_mut-2.ensures.value) ix.kept),
      once (homes_of t.slab) c.args.i (class_at (layout t.slab) c.args.i) (count c.args.i ix.ids) (ix.exact c.args.i) c.requires.held,
    ))

module _ (c : After-remove) where
  abbrev old : Records
  old = c.args.self.now

  abbrev rows : Vec Row Global
  rows = with_items old.slab.rows c.remove.new.rows

  rows_out : vec_items rows ≡ c.remove.new.rows
  rows_out =
      with_items_is old.slab.rows c.remove.new.rows
      (omega (arith, ap length c.remove.ensures.rest, length-map c.remove.new.rows unchained, length-map c.deref_mut-2.result.now unchained, c.deref_mut-2.ensures.len))

  -- but for the chains the rows are as they were
  stays : map unchained (vec_items rows) ≡ map unchained (rows_of old.slab)
  stays = ap (map unchained) rows_out ∙ c.remove.ensures.rest ∙ ap (map unchained) c.deref_mut-2.ensures.value

  there : c.args.i < length (homes_of old.slab)
  there = within (homes_of old.slab) c.args.i (rw c.requires.held (omega arith))

  homes_are : homes (vec_items rows) ≡ homes_of old.slab
  homes_are = homes_same (rows_of old.slab) (vec_items rows) stays

pub remove-requires-2-clause-sound : goal.remove-requires-2-clause-sound
remove-requires-2-clause-sound c =
    let a = (goal.at.remove-requires-2-clause-sound c).After-remove in
    let slab = c.args.self.now.slab in
    ∥∥₁_map c.args.self.now.sound (order_same (rows_of slab) (vec_items (rows a)) (stays a) slab.classes.all (layout slab))

pub remove-requires-2-clause-held : goal.remove-requires-2-clause-held
remove-requires-2-clause-held c =
    ap (λ h. get_or h c.args.i 0) (homes_are (goal.at.remove-requires-2-clause-held c).After-remove) ∙ c.requires.held

-- the table's rows without one that became free
exact_after : (homes homes' ids : List ℕ) (i c : ℕ) (owner : ℕ → ℕ) → owner i ≡ c → i < length homes → homes' ≡ set homes i (free_of c) → ((k : ℕ) → count k ids ≡ cond (eqb (get_or homes k 0) (held_of (owner k))) 1 0) → (k : ℕ) → count k (without i ids) ≡ cond (eqb (get_or homes' k 0) (held_of (owner k))) 1 0
exact_after homes homes' ids i c owner own lt is exact k =
    ⊎_elim
    (λ e.
    let home : get_or homes' k 0 ≡ free_of c = ap (λ h. get_or h k 0) is ∙ ap (λ n. get_or (set homes i (free_of c)) n 0) e ∙ get_or-set_same homes i (free_of c) 0 lt in
    let of : owner k ≡ c = ap owner e ∙ own in
    count_without k i ids ∙ cond-true (eqb k i) 0 _ (eq-eqb k i e)
    ∙ sym (cond-false (eqb (get_or homes' k 0) (held_of (owner k))) 1 0 (ne_eqb _ _ (λ h. omega (arith, home, of)))))
    (λ ne.
    count_without k i ids ∙ cond-false (eqb k i) 0 _ (ne_eqb k i ne) ∙ exact k
    ∙ ap (λ h. cond (eqb h (held_of (owner k))) 1 0) (sym (ap (λ h. get_or h k 0) is ∙ get_or-set_other homes i k (free_of c) 0 ne)))
    (cases_eq k i)

pub invariant_of-self-clause-indexed : goal.invariant_of-self-clause-indexed
invariant_of-self-clause-indexed c =
    let a = (goal.at.invariant_of-self-clause-indexed c).After-remove in
    let t = c.args.self.now in
    let i = c.args.i in
    let gone = c.remove-2.ensures in
    let removed = gone.removed in
    let rows_are = c.deref_mut-2.ensures.value in
    let ws = c.remove.new.rows in
    let hs = c.remove.new.heads in
    let new = c.remove-2.new.self in
    let rests_are : rests (rows_of new) ≡ rests ws = gone.rests ∙ ap rests (rows_out a) in
    let chains : map (λ row. row.chain) (rows_of new) ≡ map (λ row. row.chain) ws = column_of_rest rest (λ row. row.chain) (λ _. refl) ws (rows_of new) rests_are in
    let hashes : map (λ row. row.tag.hash) (rows_of new) ≡ map (λ row. row.tag.hash) ws = column_of_rest rest (λ row. row.tag.hash) (λ _. refl) ws (rows_of new) rests_are in
    let class = class_at (layout t.slab) i in
    let heads_long : length hs ≡ t.heads.len = omega (arith, c.remove.auto.heads, c.deref_mut.ensures.len) in
    let indexed : Indexed t → Indexes (rows_of new) (layout new) t.table (vec_items (with_items t.heads hs)) = λ ix.
    let kept = c.remove.ensures.held ix.ids
    (subst (λ hs. Keeps (λ row. row.chain) (λ row. row.tag.hash) t.table hs c.deref_mut-2.result.now ix.ids) (sym c.deref_mut.ensures.value)
    (subst (λ rs. Keeps (λ row. row.chain) (λ row. row.tag.hash) t.table (vec_items t.heads) rs ix.ids) (sym rows_are) ix.kept))
    (once (homes_of t.slab) i class (count i ix.ids) (ix.exact i) c.requires.held) in
    record {
      ids = without i ix.ids;
      kept = subst (λ h. Holds (size t.table) h (map (λ row. row.chain) (rows_of new)) (map (λ row. row.tag.hash) (rows_of new)) (without i ix.ids)) (sym (with_items_is t.heads hs heads_long))
          (subst (λ x. Holds (size t.table) hs x (map (λ row. row.tag.hash) (rows_of new)) (without i ix.ids)) (sym chains)
          (subst (λ x. Holds (size t.table) hs (map (λ row. row.chain) ws) x (without i ix.ids)) (sym hashes) kept));
      exact = λ k.
          exact_after (homes_of t.slab) (homes_of new) ix.ids i class (class_at (layout t.slab)) refl (there a) (removed.homes ∙ ap (λ h. set h i (free_of class)) (homes_are a)) ix.exact k
          ∙ ap (λ l. cond (eqb (get_or (homes_of new) k 0) (held_of (class_at l k))) 1 0) (sym removed.layout);
    } in
    ∥∥₁_map t.indexed indexed

pub returns : goal.returns
returns c =
    let a = (goal.at.returns c).After-remove in
    let s = c.args.self.now.slab in
    let i = c.args.i in
    let gone = c.remove-2.ensures in
    let removed = gone.removed in
    let new = c.remove-2.new.self in
    let class = class_at (layout s) i in
    let tells : map told (rows_of new) ≡ map told (rows_of s) =
    column_of_rest rest told (λ _. refl) (vec_items (rows a)) (rows_of new) gone.rests ∙ column_of_rest unchained told (λ _. refl) (rows_of s) (vec_items (rows a)) (stays a) in
    let homes_new = removed.homes ∙ ap (λ h. set h i (free_of class)) (homes_are a) in
    record {
      kept = record {
        layout = removed.layout;
        table = refl;
        slots = refl;
        granted = λ k to h.
            ⊎_elim
            (λ e. absurd (let free : get_or (homes_of new) k 0 ≡ free_of class = ap (λ x. get_or x k 0) homes_new ∙ ap (λ n. get_or (set (homes_of s) i (free_of class)) n 0) e ∙ get_or-set_same (homes_of s) i (free_of class) 0 (there a) in omega (arith, h)))
            (λ ne. sym (ap (λ x. get_or x k 0) homes_new ∙ get_or-set_other (homes_of s) i k (free_of class) 0 ne) ∙ h)
            (cases_eq k i);
      };
      freed = homes_new;
      grants = λ k to h.
          ap (λ x. get_or x k 0) homes_new ∙ get_or-set_other (homes_of s) i k (free_of class) 0 (λ e. omega (arith, h, c.requires.held, ap (λ n. get_or (homes_of s) n 0) e)) ∙ h;
      shown = λ setup memory ks sh.
          shows_left setup s memory ks sh i c.requires.held new homes_new removed.layout (there a)
          (removed.lists sh.lists (family_same (rows_of s) (vec_items (rows a)) (stays a) s.classes.all sh.lists sh.listed)) tells;
    }
