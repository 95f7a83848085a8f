use Rattle.std.proofs.Common.{◌≡◌, ◌∷◌, map, length, vec_items, refl, ap, ◌∙◌, subst, arith, Vec, Global}
use mathlib.Core.Logic.{∥∥₁_map}
use lib.ListN.{length-map}
use Rattle.std.specs.Vec.{with_items}
use Rattle.std.proofs.lemmas.List.{with_items_is}
use Rattle.recency.specs.Numbers.{count}
use Rattle.chained.specs.Chains.{Keeps, size}
use Rattle.chained.proofs.Sound.{holds_as}
use Rattle.slabs.specs.declared.row.Row.{Row}
use Rattle.slabs.specs.declared.slab.Slab.{Slab}
use Rattle.slabs.specs.Slabs.{layout, rows_of}
use Rattle.records.specs.Standing.{Indexed}
use Rattle.records.proofs.Chaining.{unchained, order_same}
use Rattle.records.proofs.Linking.{outside, still_kept, put_exact, put_granted, put_spent, put_shown}
use Rattle.records.proofs.records.Records.put.Goals as goal
use Rattle.records.proofs.records.Records.put.Goals.{After-insert}

pub insert-requires-clause-outside : goal.insert-requires-clause-outside
insert-requires-clause-outside c =
    let t = c.args.self.now in
    let grant = c.args.grant in
    let u = c.link-row.new.self in
    let made = c.link-row.ensures in
    let rows_are = c.deref_mut-2.ensures.value in
    ∥∥₁_map t.indexed (λ ix. (
      ix.ids,
      holds_as (size t.table) ix.ids c.deref_mut.ensures.value (ap (map (λ row. row.chain)) rows_are) (ap (map (λ row. row.tag.hash)) rows_are)
          (still_kept t grant.row grant.class c.requires.granted u made.linked _ _ c.args.tag made.described ix),
      ap (λ n. count n ix.ids) made.row ∙ outside t grant.row grant.class c.requires.granted u made.linked _ _ c.args.tag made.described ix,
    ))

module _ (c : After-insert) where
  abbrev linked : Slab
  linked = c.link-row.new.self

  abbrev rows : Vec Row Global
  rows = with_items linked.rows c.insert.new.rows

  rows_out : vec_items rows ≡ c.insert.new.rows
  rows_out =
      with_items_is linked.rows c.insert.new.rows
      (omega (arith, ap length c.insert.ensures.rest, length-map c.insert.new.rows unchained, length-map c.deref_mut-2.result.now unchained, c.deref_mut-2.ensures.len))

  -- but for the chains the rows are as the slab linked them
  stays : map unchained (vec_items rows) ≡ map unchained (rows_of linked)
  stays = ap (map unchained) rows_out ∙ c.insert.ensures.rest ∙ ap (map unchained) c.deref_mut-2.ensures.value

  abbrev chained : Slab
  chained = record { rows = rows; classes = linked.classes; owners = linked.owners; given = linked.given; pages = linked.pages }

pub invariant_of-self-clause-sound : goal.invariant_of-self-clause-sound
invariant_of-self-clause-sound c =
    let a = (goal.at.invariant_of-self-clause-sound c).After-insert in
    ∥∥₁_map c.link-row.ensures.sound (order_same (rows_of (linked a)) (vec_items (rows a)) (stays a) (linked a).classes.all (layout (linked a)))

pub invariant_of-self-clause-indexed : goal.invariant_of-self-clause-indexed
invariant_of-self-clause-indexed c =
    let a = (goal.at.invariant_of-self-clause-indexed c).After-insert in
    let t = c.args.self.now in
    let grant = c.args.grant in
    let u = c.link-row.new.self in
    let made = c.link-row.ensures in
    let row_is = made.row in
    let put = c.insert.ensures in
    let heads_are = c.deref_mut.ensures.value in
    let rows_are = c.deref_mut-2.ensures.value in
    let hs = c.insert.new.heads in
    let out = rows_out a in
    let heads_long : length hs ≡ t.heads.len = omega (arith, c.insert.auto.heads, c.deref_mut.ensures.len) in
    let kept : (ix : Indexed t) → Keeps (λ row. row.chain) (λ row. row.tag.hash) t.table hs c.insert.new.rows (grant.row ∷ ix.ids) = λ ix.
    subst (λ n. Keeps (λ row. row.chain) (λ row. row.tag.hash) t.table hs c.insert.new.rows (n ∷ ix.ids)) row_is
    (put.held ix.ids
    (holds_as (size t.table) ix.ids heads_are (ap (map (λ row. row.chain)) rows_are) (ap (map (λ row. row.tag.hash)) rows_are)
    (still_kept t grant.row grant.class c.requires.granted u made.linked _ _ c.args.tag made.described ix))
    (ap (λ n. count n ix.ids) row_is ∙ outside t grant.row grant.class c.requires.granted u made.linked _ _ c.args.tag made.described ix)) in
    ∥∥₁_map t.indexed (λ ix. record {
      ids = grant.row ∷ ix.ids;
      kept = holds_as (size t.table) (grant.row ∷ ix.ids) (with_items_is t.heads hs heads_long) (ap (map (λ row. row.chain)) out) (ap (map (λ row. row.tag.hash)) out) (kept ix);
      exact = put_exact t grant.row grant.class c.requires.granted u made.linked _ _ c.args.tag made.described (chained a) (stays a) refl refl ix;
    })

pub returns : goal.returns
returns c =
    let a = (goal.at.returns c).After-insert in
    let t = c.args.self.now in
    let grant = c.args.grant in
    let u = c.link-row.new.self in
    let made = c.link-row.ensures in
    record {
      kept = record {
        layout = made.linked.layout;
        table = refl;
        slots = refl;
        granted = put_granted t grant.row grant.class c.requires.granted u made.linked _ _ c.args.tag made.described (chained a) (stays a) refl refl;
      };
      spent = put_spent t grant.row grant.class c.requires.granted u made.linked _ _ c.args.tag made.described (chained a) (stays a) refl refl;
      shown = λ setup ks sh num hash home free.
          put_shown t grant.row grant.class c.requires.granted u made.linked _ _ c.args.tag made.described _ (stays a) refl refl setup c.args.memory.now c.link-row.new.memory ks sh num c.args.key.now c.args.data.now made.told.0 made.told.1 made.others home hash free;
    }
