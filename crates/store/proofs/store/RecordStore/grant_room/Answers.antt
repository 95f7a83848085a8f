use Rattle.std.proofs.Common.{◌≡◌, ◌≤◌, sym, ◌∙◌, subst}
use Rattle.plan.specs.Plans.{plan_sizes}
use Rattle.plan.specs.Classes.{class_of}
use Rattle.model.specs.Setup.{Setup}
use Rattle.store.specs.Showing.{HasGrant, room_of}
use Rattle.store.specs.Granting.{Comes, granting}
use Rattle.store.proofs.Grants.{Classed, classed, comes_granted, comes_taken, granted_at_once, granted_later}
use Rattle.store.proofs.store.RecordStore.grant_room.Goals as goal
use Rattle.store.proofs.store.RecordStore.grant_room.Goals.{In_ok-class}

-- the class that was found is that of the setup
class_is : (c : In_ok-class) (setup : Setup) → plan_sizes c.args.self.now.plan ≡ setup.sizes → Classed setup c.args.need c.in_ok-class.class
class_is c setup same =
    classed setup (plan_sizes c.args.self.now.plan) same c.args.need c.in_ok-class.class c.class_of.result c.class_of.ensures.value c.class_of.ensures.smallest (sym c.ok_or.ensures.value ∙ c.in_ok-class.was)

pub returns-in-Some-clause-shown : goal.returns-in-Some-clause-shown
returns-in-Some-clause-shown c = λ setup n memory s sh.
    let got = c.in-Some.ensures in
    let of = class_is (goal.at.returns-in-Some-clause-shown c).In_ok-class setup sh.sizes in
    comes_granted of c.args.evicts c.args.second s c.take.new.self c.in-Some.grant got.granted.0 s
    (granted_at_once of c.args.evicts c.args.second s (got.room setup n memory s sh of.num of.fits))
    (got.shown setup n memory s sh)

pub returns-then-not-make_room-clause-shown : goal.returns-then-not-make_room-clause-shown
returns-then-not-make_room-clause-shown c = λ setup n memory s sh.
    let none = c.in_default.ensures in
    let of = class_is (goal.at.returns-then-not-make_room-clause-shown c).In_ok-class setup sh.sizes in
    let full = none.room setup n memory s sh of.num of.fits in
    let failed = c.if-not-make_room.ensures.shown setup n memory s (none.shown setup n memory s sh) of.num in
    ((c.in_ok-class.class, of.is, granted_later of c.args.evicts c.args.second s full ∙ failed.0), failed.1)

pub returns-clause-shown : goal.returns-clause-shown
returns-clause-shown c = λ setup n memory s sh.
    let t = c.take-2.new.self in
    let none = c.in_default.ensures in
    let got = c.take-2.ensures in
    let of = class_is (goal.at.returns-clause-shown c).In_ok-class setup sh.sizes in
    let full = none.room setup n memory s sh of.num of.fits in
    let made = c.if-not-make_room.ensures.shown setup n memory s (none.shown setup n memory s sh) of.num in
    subst (Comes setup (λ class. granting setup c.args.evicts c.args.second class s) (class_of c.args.need setup.sizes) n t memory s) (sym c.ok_or-2.ensures.value)
    (comes_taken of c.args.evicts c.args.second s t (λ grant. (grant.class ≡ c.in_ok-class.class) × HasGrant t grant × (c.args.need ≤ room_of t grant)) (λ grant g. g.0) c.take-2.result got.granted made.0 (got.room setup n memory made.0 made.3 of.num of.fits ∙ made.2)
    (granted_later of c.args.evicts c.args.second s full ∙ made.1)
    (got.shown setup n memory made.0 made.3))
