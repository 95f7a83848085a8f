use Rattle.std.proofs.Common.{◌≡◌, ◌+◌, ◌-◌, ◌*◌, get_or, Some, sym, ap, ◌∙◌, arith, rules, tests}
use Rattle.plan.specs.Plans.{plan_sizes}
use Rattle.plan.specs.Classes.{class_of, Smallest}
use Rattle.plan.proofs.Facts.{fair}
use Rattle.sizing.specs.Totals.{kind_need}
use Rattle.sizing.proofs.Sums.{added, product}
use Rattle.sizing.proofs.tally.Tally.add.Goals as goal

pub invariant_of-self : goal.invariant_of-self
invariant_of-self c =
    let class = c.in_ok-class.class in
    let found : c.class_of.result ≡ Some c.in_ok-class.class = search (rules, tests) in
    let sum : c.in_ok-records.records ≡ (get_or c.args.self.now.sums (c.in_ok-class.class - 1) c.index-self-class.result).records + c.args.kind.count = search (rules, tests) in
    let fits : Smallest c.need-bytes.result (plan_sizes c.args.self.now.plan) c.in_ok-class.class = rw found at c.class_of.ensures.smallest in
    let page = fair c.args.self.now.plan c.in_ok-class.class fits.numbered.0 fits.numbered.1 in
    let small = product c.need-bytes.result c.args.kind.count (omega arith) in
    let old = c.index-self-class.result.paged in
    record { paged = omega (arith, ap (λ sum. sum.records) c.index-self-class.is, ap (λ sum. sum.filled) c.index-self-class.is) }

pub returns-clause-total : goal.returns-clause-total
returns-clause-total c =
    let sizes = plan_sizes c.args.self.now.plan in
    let class = c.in_ok-class.class in
    let found : c.class_of.result ≡ Some c.in_ok-class.class = search (rules, tests) in
    let sum : c.in_ok-records.records ≡ (get_or c.args.self.now.sums (c.in_ok-class.class - 1) c.index-self-class.result).records + c.args.kind.count = search (rules, tests) in
    let fits : Smallest c.need-bytes.result (plan_sizes c.args.self.now.plan) c.in_ok-class.class = rw found at c.class_of.ensures.smallest in
    let page = fair c.args.self.now.plan c.in_ok-class.class fits.numbered.0 fits.numbered.1 in
    let needs_so = c.need-bytes.ensures in
    let is = sym found ∙ c.class_of.ensures.value ∙ ap (λ n. class_of n sizes) needs_so in
    λ kinds before.
    record {
      records = added (λ kind. kind.count) (λ sum. sum.records) sizes c.args.kind kinds class c.index-self-class.result _ c.args.self.now.sums is sum (omega arith) (omega arith) before.records;
      filled = added (λ kind. kind_need kind * kind.count) (λ sum. sum.filled) sizes c.args.kind kinds class c.index-self-class.result _ c.args.self.now.sums is (ap (λ n. (get_or c.args.self.now.sums (c.in_ok-class.class - 1) c.index-self-class.result).filled + n * c.args.kind.count) needs_so) (omega arith) (omega arith) before.filled;
    }
