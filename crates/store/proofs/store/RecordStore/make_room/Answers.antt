use Rattle.std.proofs.Common.{◌≡◌, ℕ, Bool, true, false, cond, ltb, List, MatchBool, Some, None, Option, sym, ◌∙◌, subst}
use Rattle.std.proofs.lemmas.Bool.{cond-true, cond-false}
use Rattle.model.specs.Setup.{Setup}
use Rattle.model.specs.Sound.{Numbered}
use Rattle.model.specs.Store.{Store, Expired, Evicted, has_room, rid, rear, rear_dead, give_page}
use Rattle.store.specs.declared.store.RecordStore.{RecordStore}
use Rattle.store.specs.Showing.{Shows}
use Rattle.store.specs.Granting.{Made, with_room}
use Rattle.store.proofs.Grants.{way_gone, no_dead, no_dead_made}
use Rattle.store.proofs.store.RecordStore.make_room.Goals as goal
use Rattle.store.proofs.store.RecordStore.make_room.Goals.{Joined-give_page, then-give_page, else-give_page}

module _ (setup : Setup) (evicts : Bool) (second class n : ℕ) (memory : List ℕ) (s : Store) where
  abbrev way : Option Store
  way = with_room setup evicts second class s

  -- what a free page and a dead record come to: one of them made room, or it is left to the rearmost record
  abbrev Tried : RecordStore → Bool → Type 0
  Tried t made =
      MatchBool made ((s' : Store) × (way ≡ Some s') × (has_room setup class s' ≡ true) × Shows setup n t memory None s')
      ((way ≡ cond evicts (rid setup second Evicted (rear class s) s) None) × Shows setup n t memory None s)

  reclaimed : (t : RecordStore) → cond (ltb 0 s.free) (Some (give_page class s)) None ≡ None → (made : Bool) → Made setup class n t memory s (rid setup second Expired (rear_dead second class s) s) made → Tried t made
  reclaimed t full true m = (m.0, no_dead_made setup evicts second class s full m.1, m.2, m.3)
  reclaimed t full false m = (no_dead setup evicts second class s full m.0, m.1)

tried : (c : Joined-give_page) (setup : Setup) (n : ℕ) (memory : List ℕ) (s : Store) → Shows setup n c.args.self.now memory None s → Numbered setup c.args.class → Tried setup c.args.evicts c.args.second c.args.class n memory s c.if-give_page.self c.if-give_page.value
tried c setup n memory s sh num =
    let a = c.args in
    let T = Tried setup a.evicts a.second a.class n memory s in
    elim c.if-give_page.branch [
      | then-give_page w ↦
          let m = w.if-give_page.ensures.shown setup n memory s sh num in
          subst (λ t. T t c.if-give_page.value) (sym w.self-is)
          (subst (T c.give_page.new.self) (sym (w.value-is ∙ w.if-give_page.true)) (m.0, way_gone (ltb 0 s.free) (give_page a.class s) _ m.1, m.2, m.3))
      | else-give_page w ↦
          let full = w.if-give_page.ensures.shown setup n memory s sh num in
          subst (λ t. T t c.if-give_page.value) (sym w.self-is)
          (subst (T w.reclaim.new.self) (sym w.value-is) (reclaimed setup a.evicts a.second a.class n memory s w.reclaim.new.self full.0 w.reclaim.result (w.reclaim.ensures.shown setup n memory s full.1 num)))
    ]

pub returns-then-reclaim-clause-shown : goal.returns-then-reclaim-clause-shown
returns-then-reclaim-clause-shown c = λ setup n memory s sh num.
    let a = c.args in
    let t = c.if-give_page.self in
    subst (Made setup a.class n t memory s (with_room setup a.evicts a.second a.class s)) (sym c.if-reclaim.true)
    (subst (Tried setup a.evicts a.second a.class n memory s t) c.if-reclaim.true (tried (goal.at.returns-then-reclaim-clause-shown c).Joined-give_page setup n memory s sh num))

pub returns-then-evicts-clause-shown : goal.returns-then-evicts-clause-shown
returns-then-evicts-clause-shown c = λ setup n memory s sh num.
    let a = c.args in
    let left = subst (Tried setup a.evicts a.second a.class n memory s c.if-give_page.self) c.if-reclaim.false (tried (goal.at.returns-then-evicts-clause-shown c).Joined-give_page setup n memory s sh num) in
    let rearmost = rid setup a.second Evicted (rear a.class s) s in
    subst (λ way. Made setup a.class n c.evict.new.self memory s way c.evict.result) (sym (left.0 ∙ cond-true a.evicts rearmost None c.if-evicts.true))
    (c.evict.ensures.shown setup n memory s a.second left.1 num)

pub returns-else-evicts-clause-shown : goal.returns-else-evicts-clause-shown
returns-else-evicts-clause-shown c = λ setup n memory s sh num.
    let a = c.args in
    let t = c.if-give_page.self in
    let left = subst (Tried setup a.evicts a.second a.class n memory s t) c.if-reclaim.false (tried (goal.at.returns-else-evicts-clause-shown c).Joined-give_page setup n memory s sh num) in
    let rearmost = rid setup a.second Evicted (rear a.class s) s in
    subst (Made setup a.class n t memory s (with_room setup a.evicts a.second a.class s)) (sym c.if-evicts.false) (left.0 ∙ cond-false a.evicts rearmost None c.if-evicts.false, left.1)
