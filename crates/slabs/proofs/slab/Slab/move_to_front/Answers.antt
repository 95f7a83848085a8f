use Rattle.std.proofs.Common.{◌≡◌, ℕ, List, length, get_or, vec_items, sym, ap, ◌∙◌, subst, arith}
use Rattle.std.specs.Vec.{with_items}
use mathlib.Core.Logic.{∥∥₁_map}
use lib.ListN.{length-map}
use Rattle.slabs.specs.Rows.{rest}
use Rattle.slabs.specs.Lists.{Family, held_of, to_front}
use Rattle.slabs.specs.Orders.{InOrder}
use Rattle.slabs.specs.Slabs.{homes_of, layout}
use Rattle.slabs.proofs.Cuts.{cut_same}
use Rattle.slabs.proofs.Lending.{lists_back, homes_back, rests_back}
use Rattle.slabs.proofs.Sounds.{some_lists, order_front}
use Rattle.slabs.proofs.slab.Slab.move_to_front.Goals as goal

pub refresh-requires-clause-lists : goal.refresh-requires-clause-lists
refresh-requires-clause-lists c = subst (λ rows. ∥ ((ls : ℕ → List ℕ) × Family c.args.self.now.classes.all rows ls) ∥₁) (sym c.deref_mut.ensures.value) (some_lists c.args.self.now c.requires.sound)

pub returns-clause-sound : goal.returns-clause-sound
returns-clause-sound c =
    let s = c.args.self.now in
    let i = c.args.i in
    let h = held_of c.class_of-class.result in
    let lent = c.deref_mut.result.now in
    let ws = c.refresh.new.rows in
    let is = c.deref_mut.ensures.value in
    let told = c.refresh.ensures in
    let long : length ws ≡ s.rows.len = omega (arith, ap length told.rests, length-map ws rest, length-map lent rest, c.deref_mut.ensures.len) in
    let rows = vec_items (with_items s.rows ws) in
    let home : get_or (homes_of s) i 0 ≡ h = c.requires.held ∙ ap held_of (sym c.class_of-class.ensures.value) in
    subst (λ l. ∥ InOrder c.refresh.new.self.all rows l ∥₁) (sym (cut_same s.classes.all c.refresh.new.self.all s.owners s.given s.pages told.frames))
    (∥∥₁_map c.requires.sound (λ z. order_front s.classes.all c.refresh.new.self.all (vec_items s.rows) rows (layout s) z i h (omega arith) home
    (lists_back s.rows lent ws is long s.classes.all c.refresh.new.self.all (to_front i h) told.lists)
    (homes_back s.rows lent ws is long (λ hs. hs) told.homes)
    (rests_back s.rows lent ws is long told.rests)))

pub returns-clause-moved : goal.returns-clause-moved
returns-clause-moved c =
    let s = c.args.self.now in
    let i = c.args.i in
    let lent = c.deref_mut.result.now in
    let ws = c.refresh.new.rows in
    let is = c.deref_mut.ensures.value in
    let told = c.refresh.ensures in
    let long : length ws ≡ s.rows.len = omega (arith, ap length told.rests, length-map ws rest, length-map lent rest, c.deref_mut.ensures.len) in
    rw (← c.class_of-class.ensures.value)
    (record {
      lists = lists_back s.rows lent ws is long s.classes.all c.refresh.new.self.all (to_front i (held_of c.class_of-class.result)) told.lists;
      homes = homes_back s.rows lent ws is long (λ hs. hs) told.homes;
      rests = rests_back s.rows lent ws is long told.rests;
      layout = cut_same s.classes.all c.refresh.new.self.all s.owners s.given s.pages told.frames;
    })
