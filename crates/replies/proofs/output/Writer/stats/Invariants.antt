use Rattle.std.proofs.Common.{take}
use Rattle.std.specs.List.{flat_map}
use Rattle.replies.specs.Growth.{Wrote}
use Rattle.replies.specs.Render.{stat_line}
use Rattle.replies.proofs.output.Writer.stats.Given as goal

abbrev pub invariant-loop-label : goal.invariant-loop-label
invariant-loop-label l = Wrote (flat_map (λ f. stat_line f.0.now f.1) (take l.label-index l.figures)) l.fn.self l.self
