use Rattle.std.proofs.Common.{◌≡◌, ◌+◌, ◌<◌, ◌≤◌, option_map, rules, tests}
use Rattle.std.proofs.lemmas.Iterator.{IsFirst-from_position, YieldsList-from_slice}
use Rattle.plan.specs.Plans.{plan_sizes}
use Rattle.plan.proofs.Made.{listed}
use Rattle.plan.proofs.Ask.{classed}
use Rattle.plan.proofs.plan.Plan.class_of.Goals as goal

pub returns : goal.returns
returns c =
    let sizes = plan_sizes c.args.self.now in
    let first = IsFirst-from_position _ _ c.position.result (λ size. c.args.need ≤ size) (λ size. size < c.args.need) c.position.ensures.ran (YieldsList-from_slice (plan_sizes c.args.self.now) cc) (λ x q k. search (rules, tests)) (λ x q k. search (rules, tests)) in
    let next : c.map.result ≡ option_map (λ i. i + 1) c.position.result = search (rules, tests) in
    let is = listed c.args.self.now in
    let h = classed c.args.need sizes c.position.result c.map.result is.some first next in
    record { value = h.value; smallest = rw is.last at h.smallest }
