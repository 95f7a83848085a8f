use Rattle.std.proofs.Common.{◌≡◌, ℕ, List, ◌∷◌, map, set, refl, ap, ◌∙◌, arith}
use lib.ListN.{length-map}
use Rattle.recency.specs.Numbers.{count}
use Rattle.chained.specs.Growth.{slot}
use Rattle.chained.specs.Chains.{size, Holds}
use Rattle.chained.proofs.Sound.{sound_of, least_of, home_of, head_of, holds_as, past_same}
use Rattle.chained.proofs.Meanings.{one_row_more}
use Rattle.chained.proofs.Changes.{inserted}
use Rattle.chained.proofs.table.Chains.insert.Goals as goal

pub slot_of-home-requires : goal.slot_of-home-requires
slot_of-home-requires g c = least_of (sound_of c.requires.outside)

pub bounds-heads-home : goal.bounds-heads-home
bounds-heads-home g c = home_of c.hash_of.result (sound_of c.requires.outside) c.slot_of-home.ensures

pub bounds-heads-home-2 : goal.bounds-heads-home-2
bounds-heads-home-2 g c = home_of c.hash_of.result (sound_of c.requires.outside) c.slot_of-home.ensures

pub returns : goal.returns
returns g c =
    let rows = c.args.rows.now in
    let heads = c.args.heads.now in
    let i = c.args.i in
    let link = map g.R.Chained.link_of rows in
    let hash = map g.R.Chained.hash_of rows in
    let s = size c.args.self.now in
    let t = c.slot_of-home.result in
    let new = c.aim.new.rows in
    let link' = map g.R.Chained.link_of new in
    let hash' = map g.R.Chained.hash_of new in
    let held : (ids : List ℕ) → Holds s heads link hash ids → count i ids ≡ 0 → Holds s (set heads t i) link' hash' (i ∷ ids) =
    λ ids h out.
    let te = c.slot_of-home.ensures ∙ ap (λ x. slot s x) c.hash_of.ensures in
    let old = head_of c.hash_of.result (sound_of c.requires.outside) c.slot_of-home.ensures in
    holds_as s (i ∷ ids) refl (c.aim.ensures.links ∙ ap (λ v. set link i v) old) c.aim.ensures.hashes
    (inserted i h te (omega (arith, c.requires.within, length-map rows g.R.Chained.link_of)) out) in
    record {
      held = held;
      rest = c.aim.ensures.rest;
      others = c.aim.ensures.others;
      past = λ ids h out x past. past_same x h (held ids h out) refl past;
      keys = λ key_of ids blind. one_row_more g.R.Chained.bare key_of blind new rows c.aim.ensures.rest ids i;
    }
