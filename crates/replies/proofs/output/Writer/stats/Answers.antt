use Rattle.std.proofs.Common.{ℕ, List, [], take, Bor, sym, ap, ◌∙◌, subst, arith}
use Rattle.std.specs.List.{flat_map}
use Rattle.std.proofs.lemmas.List.{flat_map_more, take_all, take_more}
use Rattle.std.proofs.lemmas.List.Folds.{length-flat_map-take}
use Rattle.replies.specs.Growth.{Wrote}
use Rattle.replies.specs.Render.{stat_line}
use Rattle.replies.proofs.Writes.{both, nothing}
use Rattle.replies.proofs.output.Writer.stats.Goals as goal

abbrev line : Bor (List ℕ) × ℕ → List ℕ
line f = stat_line f.0.now f.1

abbrev blank : Bor (List ℕ) × ℕ
blank = (record { ref_ptr = (0, 0); now = [] }, 0)

pub loop-label-init : goal.loop-label-init
loop-label-init c = nothing c.args.self.now

pub loop-label-preserved : goal.loop-label-preserved
loop-label-preserved c =
    let figures = c.args.figures.now in
    let i = c.loop-label.label-index in
    let W : List ℕ → Type 0 = λ bs. Wrote bs c.args.self.now c.stat.new.self in
    subst W (flat_map_more line [] (take i figures) _ ∙ ap (flat_map line) (sym (take_more figures i blank c.loop-label-test.true)))
    (both c.loop-label.invariant c.stat.ensures)

pub stat-requires : goal.stat-requires
stat-requires c =
    let room = length-flat_map-take line c.args.figures.now c.loop-label.label-index blank c.loop-label-test.true in
    omega (arith, c.loop-label.invariant.count, c.loop-label.invariant.size)

pub returns : goal.returns
returns c =
    let W : List ℕ → Type 0 = λ bs. Wrote bs c.args.self.now c.loop-label.self in
    subst W (ap (flat_map line) (take_all c.loop-label.label-index c.args.figures.now c.loop-label-test.false)) c.loop-label.invariant
