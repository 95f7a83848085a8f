use Rattle.std.proofs.Common.{[], ◌∙◌}
use Rattle.std.proofs.lemmas.List.{append-nil}
use Rattle.recency.specs.Numbers.{none}
use Rattle.recency.proofs.Known.{shown_rear}
use Rattle.recency.proofs.RecencyList.back.Goals as goal

pub returns : goal.returns
returns c next prev ids l =
    c.row_at.ensures ∙ shown_rear _ next ids [] none l.few (rw append-nil l.nexts) l.back_is
