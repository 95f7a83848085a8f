use Rattle.std.proofs.Common.{◌≡◌, ◌+◌, ◌-◌, suc, cond, length, get_or, set, refl, ap, ◌∙◌, subst, arith}
use native.Mathlib.Bridge.{le_prop}
use mathlib.Core.Logic.{∥∥₁_elim, ∥∥₁_map}
use lib.ListN.{length-map}
use Rattle.std.proofs.lemmas.Bool.{eq-eqb}
use Rattle.slabs.specs.declared.class.Stand.TheVariants.{Free}
use Rattle.slabs.specs.Rows.{homes, rest}
use Rattle.slabs.specs.Lists.{Family, free_of, into, stocked, filled}
use Rattle.slabs.proofs.Stocking.{Stocked, filled_above, stocked_long}
use Rattle.slabs.proofs.classes.Classes.stock.Goals as goal

pub enter-requires : goal.enter-requires
enter-requires c =
    let rows = c.args.rows.now in
    let first = c.args.first in
    let i = c.loop-i.i in
    let n = i - c.args.first in
    let at : i ≡ first + n = omega arith in
    let class = c.args.class in
    let h = free_of class in
    let inv = c.loop-i.invariant in
    let even = ap length inv.same_rests in
    record {
      class = c.requires.class;
      within = omega (arith, length-map c.loop-i.rows rest, length-map rows rest, c.requires.within);
      room = ∥∥₁_elim c.requires.lists le_prop (λ t.
          let now_is = (inv.lists t.0 t.1).counted class Free c.requires.class in
          let was = t.1.counted class Free c.requires.class in
          let long = stocked_long first n h t.0 h in
          let all = ap (λ b. cond b n 0) (eq-eqb h h refl) in
          omega (arith, c.requires.room));
      lists = ∥∥₁_map c.requires.lists (λ t. (stocked first n h t.0, inv.lists t.0 t.1));
      home = ap (λ hs. get_or hs i 0) inv.homes ∙ filled_above first n h (homes rows) i (omega arith) ∙ ap (λ k. get_or (homes rows) k 0) at ∙ c.requires.homeless n (omega arith);
    }

pub loop-i-preserved : goal.loop-i-preserved
loop-i-preserved c =
    let first = c.args.first in
    let i = c.loop-i.i in
    let n = i - c.args.first in
    let at : i ≡ first + n = omega arith in
    let h = free_of c.args.class in
    let inv = c.loop-i.invariant in
    let told = c.enter.ensures in
    let more : suc n ≡ (i + 1) - first = omega arith in
    subst (λ k. Stocked c.args.self.now.all c.enter.new.self.all c.args.rows.now c.enter.new.rows first k h) more
    (record {
      lists = λ ls f. subst (λ k. Family c.enter.new.self.all c.enter.new.rows (into k h (stocked first n h ls))) at (told.lists (stocked first n h ls) (inv.lists ls f));
      homes = told.homes ∙ ap (λ hs. set hs i h) inv.homes ∙ ap (λ k. set (filled first n h (homes c.args.rows.now)) k h) at;
      same_rests = told.rests ∙ inv.same_rests;
      same_frames = told.frames ∙ inv.same_frames;
    })
