use Rattle.std.proofs.Common.{◌≡◌, ℕ, ◌+◌, ◌*◌, ◌<◌, List, length, vec_items, get_or, set, sym, ap, ◌∙◌, subst, arith}
use Rattle.std.specs.Vec.{with_items}
use mathlib.Core.Logic.{∥∥₁_map}
use lib.ListN.{length-map}
use Rattle.slabs.specs.Rows.{homes, rest}
use Rattle.slabs.specs.Classes.{no_class, with_share}
use Rattle.slabs.specs.Lists.{Family, free_of, stocked, filled}
use Rattle.slabs.specs.Orders.{InOrder}
use Rattle.slabs.specs.Slabs.{layout}
use Rattle.slabs.proofs.Lending.{lists_back, homes_back, rests_back}
use Rattle.slabs.proofs.Sounds.{some_lists}
use Rattle.slabs.proofs.Pages.{class_of_chunks, pages_few, stock_within, stock_few, stock_room, homeless, share_room, lists_given, layout_given, order_page}
use Rattle.slabs.proofs.slab.Slab.give_page.Goals as goal

pub overflow_mul-page : goal.overflow_mul-page
overflow_mul-page c = omega (arith, pages_few c.args.self.now c.requires)

pub stock-requires-clause-within : goal.stock-requires-clause-within
stock-requires-clause-within c =
    let s = c.args.self.now in
    let class = c.args.class in
    let some : 0 < get_or (layout s).chunks class 0 = omega (arith, c.if-chunks-eq0.false, c.chunks-chunks.ensures) in
    omega (arith, ap length c.deref_mut.ensures.value, c.chunks-chunks.ensures, stock_within s c.requires class (class_of_chunks s c.requires class some) some c.if-self.false)

pub stock-requires-clause-few : goal.stock-requires-clause-few
stock-requires-clause-few c =
    let s = c.args.self.now in
    let class = c.args.class in
    let some : 0 < get_or (layout s).chunks class 0 = omega (arith, c.if-chunks-eq0.false, c.chunks-chunks.ensures) in
    omega (arith, pages_few s c.requires, c.chunks-chunks.ensures, stock_few s c.requires class (class_of_chunks s c.requires class some) some c.if-self.false)

pub stock-requires-clause-room : goal.stock-requires-clause-room
stock-requires-clause-room c =
    let s = c.args.self.now in
    let class = c.args.class in
    let some : 0 < get_or (layout s).chunks class 0 = omega (arith, c.if-chunks-eq0.false, c.chunks-chunks.ensures) in
    let few = class_of_chunks s c.requires class some in
    omega (arith, stock_room s c.requires class few some c.if-self.false, stock_few s c.requires class few some c.if-self.false, c.chunks-chunks.ensures)

pub stock-requires-clause-lists : goal.stock-requires-clause-lists
stock-requires-clause-lists c = subst (λ rows. ∥ ((ls : ℕ → List ℕ) × Family c.args.self.now.classes.all rows ls) ∥₁) (sym c.deref_mut.ensures.value) (some_lists c.args.self.now c.requires)

pub stock-requires-clause-homeless : goal.stock-requires-clause-homeless
stock-requires-clause-homeless c = λ k lt.
    let s = c.args.self.now in
    let class = c.args.class in
    let some : 0 < get_or (layout s).chunks class 0 = omega (arith, c.if-chunks-eq0.false, c.chunks-chunks.ensures) in
    let few = class_of_chunks s c.requires class some in
    ap (λ xs. get_or (homes xs) (85 * s.given + k) 0) c.deref_mut.ensures.value ∙ homeless s c.requires class few some c.if-self.false k (omega (arith, c.chunks-chunks.ensures))

pub overflow_add-self : goal.overflow_add-self
overflow_add-self c =
    let s = c.args.self.now in
    let class = c.args.class in
    let is = sym c.chunks-chunks.ensures in
    let some : 0 < get_or (layout s).chunks class 0 = omega (arith, c.if-chunks-eq0.false) in
    let few = class_of_chunks s c.requires class some in
    omega (arith, share_room s c.requires class few some c.if-self.false c.stock.new.self.all c.stock.new.rows _ is c.stock.ensures.frames)

pub bounds-self-page : goal.bounds-self-page
bounds-self-page c = omega (arith, pages_few c.args.self.now c.requires)

pub returns-clause-sound : goal.returns-clause-sound
returns-clause-sound c =
    let s = c.args.self.now in
    let class = c.args.class in
    let free = c.if-self.false in
    let is = sym c.chunks-chunks.ensures in
    let some : 0 < get_or (layout s).chunks class 0 = omega (arith, c.if-chunks-eq0.false) in
    let few = class_of_chunks s c.requires class some in
    let lent = c.deref_mut.result.now in
    let ws = c.stock.new.rows in
    let mid = c.stock.new.self.all in
    let told = c.stock.ensures in
    let long : length ws ≡ s.rows.len = omega (arith, ap length told.rests, length-map ws rest, length-map lent rest, c.deref_mut.ensures.len) in
    let rows = vec_items (with_items s.rows ws) in
    let classes = set mid class (with_share (get_or mid class no_class) ((get_or mid class no_class).pages + 1)) in
    let n = c.chunks-chunks.result in
    subst (λ l. ∥ InOrder classes rows l ∥₁) (sym (layout_given s c.requires class few some free mid rows n is told.frames))
    (∥∥₁_map c.requires (order_page s.classes.all classes (vec_items s.rows) rows (layout s) class few some free
    (lists_given s c.requires class few some free mid rows n is told.frames (lists_back s.rows lent ws c.deref_mut.ensures.value long s.classes.all mid (stocked (85 * s.given) n (free_of class)) told.lists))
    (homes_back s.rows lent ws c.deref_mut.ensures.value long (filled (85 * s.given) n (free_of class)) told.homes ∙ ap (λ k. filled (85 * s.given) k (free_of class) (homes (vec_items s.rows))) (sym is))
    (rests_back s.rows lent ws c.deref_mut.ensures.value long told.rests)))

pub returns-clause-given : goal.returns-clause-given
returns-clause-given c =
    let s = c.args.self.now in
    let class = c.args.class in
    let free = c.if-self.false in
    let is = sym c.chunks-chunks.ensures in
    let some : 0 < get_or (layout s).chunks class 0 = omega (arith, c.if-chunks-eq0.false) in
    let few = class_of_chunks s c.requires class some in
    let lent = c.deref_mut.result.now in
    let ws = c.stock.new.rows in
    let mid = c.stock.new.self.all in
    let told = c.stock.ensures in
    let long : length ws ≡ s.rows.len = omega (arith, ap length told.rests, length-map ws rest, length-map lent rest, c.deref_mut.ensures.len) in
    let rows = vec_items (with_items s.rows ws) in
    let n = c.chunks-chunks.result in
    record {
      lists = lists_given s c.requires class few some free mid rows n is told.frames (lists_back s.rows lent ws c.deref_mut.ensures.value long s.classes.all mid (stocked (85 * s.given) n (free_of class)) told.lists);
      homes = homes_back s.rows lent ws c.deref_mut.ensures.value long (filled (85 * s.given) n (free_of class)) told.homes ∙ ap (λ k. filled (85 * s.given) k (free_of class) (homes (vec_items s.rows))) (sym is);
      layout = layout_given s c.requires class few some free mid rows n is told.frames;
    }
