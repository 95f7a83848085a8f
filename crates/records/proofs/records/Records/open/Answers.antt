use Rattle.std.proofs.Common.{◌≡◌, [], map, length, vec_len, refl, arith}
use lib.ListN.{length-map}
use Rattle.std.proofs.lemmas.List.{with_items_is}
use Rattle.chained.specs.Chains.{size}
use Rattle.chained.proofs.Sound.{holds_as}
use Rattle.slabs.specs.Slabs.{rows_of}
use Rattle.records.proofs.Opened.{none_granted, none_exact, rows_few, opened_shows}
use Rattle.records.proofs.records.Records.open.Goals as goal

pub invariant_of-result-clause-indexed : goal.invariant_of-result-clause-indexed
invariant_of-result-clause-indexed c =
    let s = c.open-slab.result in
    let plan = c.args.plan.now in
    let made = c.open-slab.ensures in
    let hs = c.open-table.new.heads in
    let few = rows_few plan (vec_len c.args.rows) s made.sound made.empty made.opened in
    let long : length hs ≡ c.args.slots.len = omega (arith, c.open-table.auto.heads, c.deref_mut.ensures.len) in
    let chains = map (λ row. row.chain) (rows_of s) in
    let hashes = map (λ row. row.tag.hash) (rows_of s) in
    ∣ record {
      ids = [];
      kept = holds_as (size c.open-table.result) [] (with_items_is c.args.slots hs long) refl refl (c.open-table.ensures.empty chains hashes (omega (arith, few, length-map (rows_of s) (λ row. row.chain))));
      exact = none_exact s made.empty;
    } ∣₁

pub returns-clause-granted : goal.returns-clause-granted
returns-clause-granted c = none_granted c.open-slab.result c.open-slab.ensures.empty

pub returns-clause-shown : goal.returns-clause-shown
returns-clause-shown c = λ setup memory same.
    let made = c.open-slab.ensures in
    opened_shows c.args.plan.now (vec_len c.args.rows) c.open-slab.result made.sound made.empty made.opened setup memory same
