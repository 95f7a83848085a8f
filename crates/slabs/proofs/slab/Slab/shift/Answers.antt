use Rattle.std.proofs.Common.{◌≡◌, ℕ, List, length, set, vec_items, sym, ap, subst, arith}
use mathlib.Core.Logic.{∥∥₁_map}
use Rattle.std.specs.Vec.{with_items}
use lib.ListN.{length-map}
use Rattle.slabs.specs.Rows.{rest}
use Rattle.slabs.specs.Lists.{Family, list_of, shift}
use Rattle.slabs.specs.Orders.{InOrder}
use Rattle.slabs.specs.Slabs.{layout}
use Rattle.slabs.proofs.Cuts.{cut_same}
use Rattle.slabs.proofs.Lending.{lists_back, homes_back, rests_back}
use Rattle.slabs.proofs.Sounds.{some_lists, class_few, room_left, order_shift}
use Rattle.slabs.proofs.slab.Slab.shift.Goals as goal

pub shift-requires-clause-class : goal.shift-requires-clause-class
shift-requires-clause-class c = class_few c.args.self.now c.requires.sound c.args.i c.args.class c.args.from c.requires.home

pub shift-requires-clause-room : goal.shift-requires-clause-room
shift-requires-clause-room c = room_left c.args.self.now c.requires.sound c.args.i c.args.class c.args.from c.requires.home c.args.to

pub shift-requires-clause-lists : goal.shift-requires-clause-lists
shift-requires-clause-lists c = subst (λ rows. ∥ ((ls : ℕ → List ℕ) × Family c.args.self.now.classes.all rows ls) ∥₁) (sym c.deref_mut.ensures.value) (some_lists c.args.self.now c.requires.sound)

pub returns-clause-sound : goal.returns-clause-sound
returns-clause-sound c =
    let s = c.args.self.now in
    let i = c.args.i in
    let h = list_of c.args.to c.args.class in
    let lent = c.deref_mut.result.now in
    let ws = c.shift.new.rows in
    let is = c.deref_mut.ensures.value in
    let told = c.shift.ensures in
    let long : length ws ≡ s.rows.len = omega (arith, ap length told.rests, length-map ws rest, length-map lent rest, c.deref_mut.ensures.len) in
    let rows = vec_items (with_items s.rows ws) in
    subst (λ l. ∥ InOrder c.shift.new.self.all rows l ∥₁) (sym (cut_same s.classes.all c.shift.new.self.all s.owners s.given s.pages told.frames))
    (∥∥₁_map c.requires.sound (λ z. order_shift s.classes.all c.shift.new.self.all (vec_items s.rows) rows (layout s) z i c.args.class c.args.from c.args.to c.requires.home c.requires.fits
    (lists_back s.rows lent ws is long s.classes.all c.shift.new.self.all (shift i (list_of c.args.from c.args.class) h) told.lists)
    (homes_back s.rows lent ws is long (λ hs. set hs i h) told.homes)
    (rests_back s.rows lent ws is long told.rests)))

pub returns-clause-shifted : goal.returns-clause-shifted
returns-clause-shifted c =
    let s = c.args.self.now in
    let i = c.args.i in
    let h = list_of c.args.to c.args.class in
    let lent = c.deref_mut.result.now in
    let ws = c.shift.new.rows in
    let is = c.deref_mut.ensures.value in
    let told = c.shift.ensures in
    let long : length ws ≡ s.rows.len = omega (arith, ap length told.rests, length-map ws rest, length-map lent rest, c.deref_mut.ensures.len) in
    record {
      lists = lists_back s.rows lent ws is long s.classes.all c.shift.new.self.all (shift i (list_of c.args.from c.args.class) h) told.lists;
      homes = homes_back s.rows lent ws is long (λ hs. set hs i h) told.homes;
      layout = cut_same s.classes.all c.shift.new.self.all s.owners s.given s.pages told.frames;
    }
