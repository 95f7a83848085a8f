use Rattle.std.proofs.Common.{◌≡◌, ◌<◌, length, get_or, sym, ap, ◌∙◌, subst, arith}
use lib.ListN.{length-map}
use Rattle.slabs.specs.Rows.{blank}
use Rattle.slabs.specs.Lists.{held_of, to_front}
use Rattle.slabs.specs.Layouts.{class_at}
use Rattle.slabs.specs.Slabs.{Reordered, rows_of, homes_of, layout}
use Rattle.slabs.specs.Records.{Retagged, tags}
use Rattle.records.proofs.Chaining.{within}
use Rattle.records.proofs.Indexing.{reindexed}
use Rattle.records.proofs.Telling.{at_second, at_column, shows_fronted}
use Rattle.records.proofs.records.Records.bring_to_front.Goals as goal

pub retag-requires-clause-hash : goal.retag-requires-clause-hash
retag-requires-clause-hash c =
    let rs = rows_of c.args.self.now.slab in
    ap (λ x. x.hash) (c.tag-tag.ensures blank.tag ∙ at_column (λ row. row.tag) rs c.args.i) ∙ sym (at_column (λ row. row.tag.hash) rs c.args.i)

pub invariant_of-self-clause-indexed : goal.invariant_of-self-clause-indexed
invariant_of-self-clause-indexed c =
    let went = c.move_to_front.ensures.moved in
    reindexed c.retag.new.self c.move_to_front.new.self went.rests went.homes went.layout

pub returns-clause-shown : goal.returns-clause-shown
returns-clause-shown c = λ setup memory ks sh.
    let s = c.args.self.now.slab in
    let i = c.args.i in
    let u = c.retag.new.self in
    let new = c.move_to_front.new.self in
    let told = c.retag.ensures.retagged in
    let tag_is : c.tag-tag.result ≡ get_or (tags (rows_of s)) i blank.tag = c.tag-tag.ensures blank.tag in
    let retagged : Retagged s u.slab i (at_second c.args.second (get_or (tags (rows_of s)) i blank.tag)) =
    subst (λ x. Retagged s u.slab i (at_second c.args.second x)) tag_is told in
    let moved : Reordered u.slab new (to_front i (held_of (class_at (layout s) i))) =
    subst (λ l. Reordered u.slab new (to_front i (held_of (class_at l i)))) told.layout_stays c.move_to_front.ensures.moved in
    let lt : i < length (rows_of s) = rw (length-map (rows_of s) (λ row. row.home)) at (within (homes_of s) i (rw c.requires.held (omega arith))) in
    shows_fronted setup s memory ks sh i c.requires.held lt u.slab new c.args.second retagged moved
