use Rattle.std.proofs.Common.{◌≡◌, cond, eqb, map, length, get_or, vec_items, sym, refl, ap, ◌∙◌, arith, Vec, Global}
use mathlib.Core.Logic.{∥∥₁_map}
use lib.ListN.{length-map}
use Rattle.std.specs.Vec.{with_items}
use Rattle.std.proofs.lemmas.List.{with_items_is}
use Rattle.recency.proofs.Columns.{column_of_rest}
use Rattle.chained.specs.Chains.{size}
use Rattle.chained.proofs.Sound.{holds_as}
use Rattle.slabs.specs.declared.row.Row.{Row}
use Rattle.slabs.specs.Lists.{held_of}
use Rattle.slabs.specs.Layouts.{class_at}
use Rattle.slabs.specs.Slabs.{rows_of, layout}
use Rattle.records.specs.declared.records.Records.{Records}
use Rattle.records.proofs.Chaining.{unchained, homes_same, family_same, order_same}
use Rattle.records.proofs.Granting.{shows_same}
use Rattle.records.proofs.Turns.{told}
use Rattle.records.proofs.records.Records.move_slot.Goals as goal
use Rattle.records.proofs.records.Records.move_slot.Goals.{After-move_one}

pub move_one-requires : goal.move_one-requires
move_one-requires c =
    let t = c.args.self.now in
    ∥∥₁_map t.indexed (λ ix. (ix.ids, holds_as (size t.table) ix.ids c.deref_mut.ensures.value (ap (map (λ row. row.chain)) c.deref_mut-2.ensures.value) (ap (map (λ row. row.tag.hash)) c.deref_mut-2.ensures.value) ix.kept))

module _ (c : After-move_one) where
  abbrev old : Records
  old = c.args.self.now

  abbrev rows : Vec Row Global
  rows = with_items old.slab.rows c.move_one.new.rows

  rows_out : vec_items rows ≡ c.move_one.new.rows
  rows_out =
      with_items_is old.slab.rows c.move_one.new.rows
      (omega (arith, ap length c.move_one.ensures.rest, length-map c.move_one.new.rows unchained, length-map c.deref_mut-2.result.now unchained, c.deref_mut-2.ensures.len))

  -- but for the chains the rows are as they were
  stays : map unchained (vec_items rows) ≡ map unchained (rows_of old.slab)
  stays = ap (map unchained) rows_out ∙ c.move_one.ensures.rest ∙ ap (map unchained) c.deref_mut-2.ensures.value

pub invariant_of-self-clause-sound : goal.invariant_of-self-clause-sound
invariant_of-self-clause-sound c =
    let a = (goal.at.invariant_of-self-clause-sound c).After-move_one in
    let slab = c.args.self.now.slab in
    ∥∥₁_map c.args.self.now.sound (order_same (rows_of slab) (vec_items (rows a)) (stays a) slab.classes.all (layout slab))

pub invariant_of-self-clause-indexed : goal.invariant_of-self-clause-indexed
invariant_of-self-clause-indexed c =
    let a = (goal.at.invariant_of-self-clause-indexed c).After-move_one in
    let t = old a in
    let rows_are = c.deref_mut-2.ensures.value in
    let out = rows_out a in
    let heads_long : length c.move_one.new.heads ≡ t.heads.len = omega (arith, c.move_one.auto.heads, c.deref_mut.ensures.len) in
    ∥∥₁_map t.indexed (λ ix. record {
      ids = ix.ids;
      kept = holds_as (size c.move_one.new.self) ix.ids (with_items_is t.heads c.move_one.new.heads heads_long) (ap (map (λ row. row.chain)) out) (ap (map (λ row. row.tag.hash)) out)
          (c.move_one.ensures.held ix.ids (holds_as (size t.table) ix.ids c.deref_mut.ensures.value (ap (map (λ row. row.chain)) rows_are) (ap (map (λ row. row.tag.hash)) rows_are) ix.kept));
      exact = λ k. ix.exact k ∙ ap (λ h. cond (eqb (get_or h k 0) (held_of (class_at (layout t.slab) k))) 1 0) (sym (homes_same (rows_of t.slab) (vec_items (rows a)) (stays a)));
    })

pub returns-clause-granted : goal.returns-clause-granted
returns-clause-granted c = λ i class h.
    let a = (goal.at.returns-clause-granted c).After-move_one in
    ap (λ x. get_or x i 0) (sym (homes_same (rows_of c.args.self.now.slab) (vec_items (rows a)) (stays a))) ∙ h

pub returns-clause-shown : goal.returns-clause-shown
returns-clause-shown c = λ setup memory ks sh.
    let a = (goal.at.returns-clause-shown c).After-move_one in
    let s = c.args.self.now.slab in
    let homes_are = homes_same (rows_of s) (vec_items (rows a)) (stays a) in
    let tells = column_of_rest unchained told (λ _. refl) (rows_of s) (vec_items (rows a)) (stays a) in
    shows_same setup s memory ks sh _ refl tells (λ k h. ap (λ x. get_or x k 0) (sym homes_are) ∙ h) sh.lists (family_same (rows_of s) (vec_items (rows a)) (stays a) s.classes.all sh.lists sh.listed) (λ class. refl)
