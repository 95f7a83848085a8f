use Rattle.std.proofs.Common.{◌∷◌, map, ap, ◌∙◌}
use Rattle.recency.specs.Numbers.{none}
use Rattle.recency.proofs.Known.{shown_rear, link_is}
use Rattle.recency.proofs.Steps.{ahead_is}
use Rattle.recency.proofs.ahead_of.Goals as goal

pub returns : goal.returns
returns g c list a b l =
    let rows = c.args.rows.now in
    let i = c.args.i in
    let next = map g.R.Linked.next_of rows in
    let prev = map g.R.Linked.prev_of rows in
    let e = link_is g.R.Linked.prev_of rows i c.prev-ahead.result c.index-rows-i.result c.requires (c.prev-ahead.ensures ∙ ap g.R.Linked.prev_of c.index-rows-i.is) in
    c.row_at.ensures ∙ shown_rear _ next a (i ∷ b) none l.few l.nexts (e ∙ ahead_is list.front list.back next prev a b i l)
