use Rattle.std.proofs.Common.{◌≡◌, sym, refl, ◌∙◌, arith, length-set}
use Rattle.plan.proofs.Rule.{one_written, refused_long, finished, overfull, starts_whole}
use Rattle.plan.proofs.Made.{made_so}
use Rattle.plan.proofs.plan.Plan.new.Goals as goal

pub loop-before-init : goal.loop-before-init
loop-before-init c = record { all = starts_whole _ _ (sym c.if-not-fair_start.ensures); places = refl }

pub loop-before-preserved : goal.loop-before-preserved
loop-before-preserved c =
    let i = c.loop-before.invariant in
    record {
      all = one_written _ c.loop-before.slot-items _ _ _ _ i.all i.places (omega arith) (omega arith) c.next_size-size.ensures;
      places = length-set _ _ _ ∙ i.places;
    }

pub invariant_of-result : goal.invariant_of-result
invariant_of-result c =
    let i = c.loop-before.invariant in
    let f = finished _ _ _ _ c.loop-before.slot-items (sym c.if-not-fair_start.ensures) i.all i.places (omega arith) (omega arith) in
    record { fair = f.lawfully; few = omega arith; made = f.is }

pub returns-then-size-gt-LARGEST : goal.returns-then-size-gt-LARGEST
returns-then-size-gt-LARGEST c = made_so _

pub returns : goal.returns
returns c =
    let i = c.loop-before.invariant in
    let full : c.loop-before.before ≡ 32 = omega arith in
    (refl, refused_long _ _ (overfull c.args.first c.args.percent c.loop-before.size c.loop-before.slot-items (simp full at i.all) i.places))
