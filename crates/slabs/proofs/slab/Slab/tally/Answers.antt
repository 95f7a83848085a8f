use Rattle.std.proofs.Common.{◌*◌, ◌<◌, ◌≤◌, length, get_or, sym, ap, ◌∙◌, arith}
use Rattle.std.proofs.lemmas.List.{get_or-map}
use Rattle.slabs.specs.declared.class.Stand.{Stand}
use Rattle.slabs.specs.declared.class.Stand.TheVariants.{Free, Granted, Held}
use Rattle.slabs.specs.Classes.{no_class, at_stand}
use Rattle.slabs.specs.Slabs.{layout}
use Rattle.slabs.proofs.Ends.{beyond, classes_long}
use Rattle.slabs.proofs.Pages.{counts_whole}
use Rattle.slabs.proofs.slab.Slab.tally.Goals as goal

pub returns-in_default-clause-counts : goal.returns-in_default-clause-counts
returns-in_default-clause-counts c = λ ls f.
    let s = c.args.self.now in
    let class = c.args.class in
    let past = c.in_default.ensures.lookup.3 in
    let far : 33 ≤ class = omega (arith, classes_long s c.requires) in
    let zero = c.default.ensures in (
      zero.1.0 ∙ sym (ap length (beyond s c.requires ls f Free class far)),
      zero.1.1.0 ∙ sym (ap length (beyond s c.requires ls f Granted class far)),
      zero.1.1.1 ∙ sym (ap length (beyond s c.requires ls f Held class far)),
    )

pub returns-clause-counts : goal.returns-clause-counts
returns-clause-counts c = λ ls f.
    let s = c.args.self.now in
    let class = c.args.class in
    let there = c.in-Some.ensures.lookup.3 in
    let few : class < 33 = omega (arith, classes_long s c.requires) in
    let of = λ (stand : Stand). ap (λ x. (at_stand x stand).count) (there.1 no_class) ∙ f.counted class stand few in
    (ap (λ x. x.count) c.at.ensures ∙ of Free, ap (λ x. x.count) c.at-2.ensures ∙ of Granted, ap (λ x. x.count) c.at-3.ensures ∙ of Held)

pub returns-clause-whole : goal.returns-clause-whole
returns-clause-whole c =
    let s = c.args.self.now in
    let class = c.args.class in
    let there = c.in-Some.ensures.lookup.3 in
    let few : class < 33 = omega (arith, classes_long s c.requires) in
    let of = λ (stand : Stand). ap (λ x. (at_stand x stand).count) (there.1 no_class) in
    let share = get_or-map (λ x. x.pages) s.classes.all class no_class 0 there.0 in
    let pages = ap (λ x. x.pages) (there.1 no_class) in
    let product = ap (λ x. x * get_or (layout s).chunks class 0) (pages ∙ sym share) in
    omega (arith, counts_whole s c.requires class few, ap (λ x. x.count) c.at.ensures ∙ of Free, ap (λ x. x.count) c.at-2.ensures ∙ of Granted, ap (λ x. x.count) c.at-3.ensures ∙ of Held)
