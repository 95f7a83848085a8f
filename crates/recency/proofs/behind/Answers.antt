use Rattle.std.proofs.Common.{◌∷◌, map, ap, ◌∙◌}
use Rattle.recency.specs.Numbers.{none}
use Rattle.recency.proofs.Known.{shown_front, link_is}
use Rattle.recency.proofs.Links.{nexts_split}
use Rattle.recency.proofs.Steps.{behind_is}
use Rattle.recency.proofs.behind.Goals as goal

pub returns : goal.returns
returns g c list a b l =
    let rows = c.args.rows.now in
    let i = c.args.i in
    let next = map g.R.Linked.next_of rows in
    let prev = map g.R.Linked.prev_of rows in
    let e = link_is g.R.Linked.next_of rows i c.next-behind.result c.index-rows-i.result c.requires (c.next-behind.ensures ∙ ap g.R.Linked.next_of c.index-rows-i.is) in
    c.row_at.ensures ∙ shown_front _ next b none l.few (nexts_split next a (i ∷ b) none l.nexts).1.2 (e ∙ behind_is list.front list.back next prev a b i l)
