use Rattle.std.proofs.Common.{◌≡◌, ℕ, List, map, get_or, set, refl, ap, ◌∙◌, arith}
use mathlib.Core.Logic.{∥∥₁_map}
use lib.ListN.{length-map}
use Rattle.recency.specs.Numbers.{count, without}
use Rattle.chained.specs.Growth.{slot}
use Rattle.chained.specs.Chains.{Holds, size}
use Rattle.chained.proofs.Changes.{first_out, later_out, home_chain, home_slot}
use Rattle.chained.proofs.Sound.{sound_of, least_of, home_of, few_of, holds_as, past_same}
use Rattle.chained.proofs.table.Chains.remove.Goals as goal

pub slot_of-home-requires : goal.slot_of-home-requires
slot_of-home-requires g c = least_of (sound_of c.requires.inside)

pub bounds-heads-home : goal.bounds-heads-home
bounds-heads-home g c = home_of c.hash_of.result (sound_of c.requires.inside) c.slot_of-home.ensures

pub bounds-heads-home-then-first-i : goal.bounds-heads-home-then-first-i
bounds-heads-home-then-first-i g c = home_of c.hash_of.result (sound_of c.requires.inside) c.slot_of-home.ensures

pub ahead_of-ahead-requires : goal.ahead_of-ahead-requires
ahead_of-ahead-requires g c =
    let te = c.slot_of-home.ensures ∙ ap (λ x. slot (size c.args.self.now) x) c.hash_of.ensures in
    record {
      few = omega (arith, few_of (sound_of c.requires.inside), length-map c.args.rows.now g.R.Chained.link_of);
      later = c.if-first-i.false;
      inside = ∥∥₁_map c.requires.inside (λ x. home_chain c.args.i x.1 te x.2);
    }

pub returns-then-first-i : goal.returns-then-first-i
returns-then-first-i g c =
    let heads = c.args.heads.now in
    let i = c.args.i in
    let link = map g.R.Chained.link_of c.args.rows.now in
    let hash = map g.R.Chained.hash_of c.args.rows.now in
    let s = size c.args.self.now in
    let t = c.slot_of-home.result in
    let te = c.slot_of-home.ensures ∙ ap (λ x. slot s x) c.hash_of.ensures in
    let held : (ids : List ℕ) → Holds s heads link hash ids → count i ids ≡ 1 → Holds s (set heads t c.link_of-behind.result) link hash (without i ids) =
    λ ids h here. holds_as s (without i ids) (ap (λ v. set heads t v) c.link_of-behind.ensures) refl refl (first_out i h te here c.if-first-i.true) in
    record {
      held = held;
      rest = refl;
      outside = λ ids h here k d out. refl;
      past = λ ids h here x past. past_same x h (held ids h here) refl past;
    }

pub returns-else-first-i : goal.returns-else-first-i
returns-else-first-i g c =
    let i = c.args.i in
    let link = map g.R.Chained.link_of c.args.rows.now in
    let hash = map g.R.Chained.hash_of c.args.rows.now in
    let s = size c.args.self.now in
    let t = c.slot_of-home.result in
    let te = c.slot_of-home.ensures ∙ ap (λ x. slot s x) c.hash_of.ensures in
    let p = c.ahead_of-ahead.result in
    let told = c.ahead_of-ahead.ensures in
    let aimed = c.aim.ensures in
    let among : (ids : List ℕ) → Holds s c.args.heads.now link hash ids → count i ids ≡ 1 → (slot s (get_or hash p 0) ≡ t) × (count p ids ≡ 1) =
    λ ids h here.
    let k = home_chain i h te here in
    home_slot i h te here p (told.among k.0 k.1 k.2 k.3) in
    record {
      held = λ ids h here.
          let q = among ids h here in
          holds_as s (without i ids) refl (aimed.links ∙ ap (λ v. set link p v) c.link_of-behind.ensures) aimed.hashes
          (later_out i h te here p q.0 q.1 told.names);
      rest = aimed.rest;
      outside = λ ids h here k d out. aimed.others k d (λ e. omega (arith, (among ids h here).1, ap (λ y. count y ids) e));
      past = λ ids h here x past. refl;
    }
