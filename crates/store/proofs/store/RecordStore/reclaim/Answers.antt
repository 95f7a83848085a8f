use Rattle.std.proofs.Common.{◌≡◌, ◌<◌, length, arith, rules, None, sym, refl, ap, ◌∙◌, subst}
use Rattle.std.proofs.lemmas.Bool.{leb-false}
use Rattle.model.specs.Records.{dead}
use Rattle.model.specs.Store.{Expired, class_at, last, rid}
use Rattle.store.specs.Showing.{found_record}
use Rattle.store.proofs.Soon.{Soon, none_dead, soon_next}
use Rattle.store.proofs.Shown.{reseconded}
use Rattle.store.proofs.Grants.{made_rid}
use Rattle.store.proofs.store.RecordStore.reclaim.Goals as goal

pub returns-then-not-may_have_dead-clause-shown : goal.returns-then-not-may_have_dead-clause-shown
returns-then-not-may_have_dead-clause-shown c =
    λ setup n memory s sh num. (
      ap (λ o. rid setup c.args.second Expired o s) (none_dead c.args.second _ (leb-false _ _ (sym c.may_have_dead.ensures ∙ c.if-not-may_have_dead.true)) (class_at c.args.class s.classes).records (sh.soon c.args.class num)),
      sh,
    )

pub returns-in_default-clause-shown : goal.returns-in_default-clause-shown
returns-in_default-clause-shown c =
    let t = c.args.self.now in
    let class = c.args.class in
    let second = c.args.second in
    let lt : class < length t.soonest.seconds = search (rules, arith) in
    λ setup n memory s sh num.
    let none : last (dead second) (class_at class s.classes).records ≡ None = c.in_default.ensures.shown setup memory s.classes sh.records num in (
      ap (λ o. rid setup second Expired o s) none,
      reseconded t _ s sh refl refl refl refl
          (subst (λ x. Soon setup x s.classes) (sym c.wait_past.ensures) (soon_next setup s.classes t.soonest.seconds sh.soon class second lt none)),
    )

pub returns-clause-shown : goal.returns-clause-shown
returns-clause-shown c =
    let t = c.args.self.now in
    let second = c.args.second in
    λ setup n memory s sh num.
    let r = found_record t memory (record { row = c.in-Some.row }) in
    made_rid s c.args.class sh.records.kept num second Expired (dead second) r (c.in-Some.ensures.shown setup memory s.classes sh.records num) c.leave.new.self
    (c.leave.ensures.shown setup n memory None s second sh)
