use Rattle.std.proofs.Common.{◌≡◌, map, get_or, sym, ap, ◌∙◌, subst, arith}
use lib.ListN.{length-map}
use Rattle.std.proofs.lemmas.List.{get_or_default, get_or-map}
use Rattle.std.proofs.lemmas.Bool.{both_ways}
use Rattle.recency.specs.Numbers.{none}
use Rattle.chained.specs.Growth.{slot}
use Rattle.chained.specs.Chains.{size}
use Rattle.chained.proofs.Sound.{least_of, home_of, head_of}
use Rattle.chained.proofs.Searches.{Ahead, Unlike, ahead_start, ahead_more, ahead_none, ahead_held, held_within, met_less, met_row}
use Rattle.chained.proofs.table.Chains.find.Goals as goal
use Rattle.chained.proofs.table.Chains.find.Goals.{else-hash-via-then-hash+else-has_key, else-hash-via-else-hash}

pub slot_of-home-requires : goal.slot_of-home-requires
slot_of-home-requires g c = least_of c.requires

pub bounds-heads-home : goal.bounds-heads-home
bounds-heads-home g c = home_of c.hash-hash.result c.requires c.slot_of-home.ensures

pub loop-at-init : goal.loop-at-init
loop-at-init g c =
    let rows = c.args.rows.now in
    let heads = c.args.heads.now in
    let t = c.slot_of-home.result in (
      omega (arith, c.type_inv.heads t),
      λ ids h.
          ahead_start _ c.hash-hash.result (get_or heads t 0) h
          (head_of c.hash-hash.result c.requires c.slot_of-home.ensures ∙ ap (λ x. get_or heads x none) {y = slot (size c.args.self.now) c.hash-hash.result} c.slot_of-home.ensures)
          (λ k held other d same _. other (get_or-map g.R.Chained.hash_of rows k d 0 (omega (arith, held_within h k held, length-map rows g.R.Chained.link_of)) ∙ same)),
    )

pub offset_bounds-rows-at : goal.offset_bounds-rows-at
offset_bounds-rows-at g c = omega (arith, met_row g.R.Chained.link_of c.args.rows.now c.requires c.loop-at.invariant.1 c.loop-at-test.true)

pub bounds-rows-at : goal.bounds-rows-at
bounds-rows-at g c = met_row g.R.Chained.link_of c.args.rows.now c.requires c.loop-at.invariant.1 c.loop-at-test.true

pub returns-then-has_key : goal.returns-then-has_key
returns-then-has_key g c = λ ids h.
    let rows = c.args.rows.now in
    let at = c.loop-at.at in
    let lt = met_row g.R.Chained.link_of rows c.requires c.loop-at.invariant.1 c.loop-at-test.true in (
      omega (arith, h.once at, ahead_held _ ids (c.loop-at.invariant.1 ids h) c.loop-at-test.true),
      λ d. ap (λ r. g.C.Keyed.key_of c.args.keys.now at r) (get_or_default rows at d c.index-rows-at.result lt ∙ sym c.index-rows-at.is) ∙ c.has_key.ensures.0 c.if-has_key.true,
    )

pub loop-at-smaller : goal.loop-at-smaller
loop-at-smaller g c =
    let rows = c.args.rows.now in
    let lt = met_row g.R.Chained.link_of rows c.requires c.loop-at.invariant.1 c.loop-at-test.true in
    met_less c.requires c.loop-at.invariant.1 c.loop-at-test.true c.link-at.result
    (c.link-at.ensures ∙ ap g.R.Chained.link_of c.index-rows-at.is ∙ sym (get_or-map g.R.Chained.link_of rows c.loop-at.at c.index-rows-at.result none lt))

pub loop-at-preserved : goal.loop-at-preserved
loop-at-preserved g c =
    let rows = c.args.rows.now in
    let link = map g.R.Chained.link_of rows in
    let at = c.loop-at.at in
    let row = c.index-rows-at.result in
    let P = Unlike g.R.Chained.hash_of (g.C.Keyed.key_of c.args.keys.now) rows c.hash-hash.result (g.C.Keyed.wanted c.args.key.now) in
    let lt = met_row g.R.Chained.link_of rows c.requires c.loop-at.invariant.1 c.loop-at-test.true in
    let row_is : (d : g.row.R.Denot) → get_or rows at d ≡ row = λ d. get_or_default rows at d row lt ∙ sym c.index-rows-at.is in
    let to = c.link-at.ensures ∙ ap g.R.Chained.link_of c.index-rows-at.is ∙ sym (get_or-map g.R.Chained.link_of rows at row none lt) in
    let passed : P at =
    λ d same key.
    elim c.else-hash.branch [
      | else-hash-via-then-hash+else-has_key w ↦ both_ways w.has_key.result w.if-has_key.false (w.has_key.ensures.1 (ap (λ r. g.C.Keyed.key_of c.args.keys.now at r) (sym (row_is d)) ∙ key))
      | else-hash-via-else-hash w ↦ w.if-hash.false (c.hash.ensures ∙ ap g.R.Chained.hash_of (sym (row_is d)) ∙ same)
    ] in (
      omega (arith, c.link-at.type_inv),
      λ ids h. subst (λ f. Ahead link ids P f) (sym to) (ahead_more link ids (c.loop-at.invariant.1 ids h) c.loop-at-test.true passed),
    )

pub returns : goal.returns
returns g c = λ ids h i d held kept key.
    ahead_none _ ids (c.loop-at.invariant.1 ids h) h.few c.loop-at-test.false i (omega arith) d
    (kept ∙ ap g.C.Keyed.hashed key ∙ sym c.hash-hash.ensures) key
