use Rattle.std.proofs.Common.{map, take}
use Rattle.std.specs.List.{flat_map}
use Rattle.replies.specs.Growth.{Wrote}
use Rattle.replies.specs.Render.{value_lines}
use Rattle.replies_demo.specs.Items.{shown_of}
use Rattle.replies_demo.proofs.found.Given as goal

abbrev pub invariant-loop-item : goal.invariant-loop-item
invariant-loop-item l =
    Wrote (flat_map (value_lines l.numbered) (map shown_of (take l.item-index l.items))) l.initial.writer l.writer
