-- What a plan's own fields say of its sizes. Assumes nothing.
use Rattle.plan.specs.declared.plan.Plan.{Plan}
use Rattle.plan.specs.Plans.{plan_sizes, Made}
use Rattle.plan.proofs.Rule.{Lists, lists}

pub listed : (plan : Plan) → Lists plan.first plan.percent (plan_sizes plan)
listed plan = lists plan.first plan.percent (plan_sizes plan) plan.fair plan.made

-- it was made from the first size and the percent that it keeps
pub made_so : (plan : Plan) → Made plan.first plan.percent plan
made_so plan =
    let l = listed plan in
    record { lawfully = plan.fair; sizes = plan.made; by_rule = l.by_rule; few = l.few; rising = l.rising; last = l.last }
