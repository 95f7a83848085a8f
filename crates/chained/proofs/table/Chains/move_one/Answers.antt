use native.Mathlib.Bridge.{le_prop}
use Rattle.std.proofs.Common.{ℕ, ◌-◌, List, map, refl}
use mathlib.Core.Logic.{∥∥₁_elim, ∥∥₁_map}
use Rattle.chained.specs.Chains.{Holds, poured}
use Rattle.chained.proofs.Sound.{past_same}
use Rattle.chained.proofs.Moves.{less, recount, off, old_below, off_chain, off_apart, off_counts, cut_off}
use Rattle.chained.proofs.table.Chains.move_one.Goals as goal

pub bounds-heads-old : goal.bounds-heads-old
bounds-heads-old g c = ∥∥₁_elim c.requires le_prop (λ x. old_below x.1 c.if-self-gt0.true)

pub bounds-heads-old-then-self-gt0 : goal.bounds-heads-old-then-self-gt0
bounds-heads-old-then-self-gt0 g c = ∥∥₁_elim c.requires le_prop (λ x. old_below x.1 c.if-self-gt0.true)

pub insert_all-requires : goal.insert_all-requires
insert_all-requires g c =
    let some = c.if-self-gt0.true in
    ∥∥₁_map c.requires (λ x. (less (off x.1 some) x.0, off x.1 some, cut_off x.1 some, off_chain x.1 some, off_apart x.1 some))

pub returns-then-self-gt0 : goal.returns-then-self-gt0
returns-then-self-gt0 g c =
    let table = c.args.self.now in
    let some = c.if-self-gt0.true in
    let heads = c.args.heads.now in
    let link = map g.R.Chained.link_of c.args.rows.now in
    let hash = map g.R.Chained.hash_of c.args.rows.now in
    let new = c.insert_all.new.rows in
    let heads' = c.insert_all.new.heads in
    let link' = map g.R.Chained.link_of new in
    let hash' = map g.R.Chained.hash_of new in
    let held : (ids : List ℕ) → Holds (table.slots, table.unmoved) heads link hash ids → Holds (table.slots, table.unmoved - 1) heads' link' hash' ids =
    λ ids h.
    let cut = off h some in
    recount (table.slots, table.unmoved - 1) heads' link' hash' (poured cut (less cut ids)) ids (off_counts h some)
    (c.insert_all.ensures.held (less cut ids) cut (cut_off h some) (off_chain h some) (off_apart h some)) in
    record {
      moved = refl;
      held = held;
      rest = c.insert_all.ensures.rest;
      past = λ ids h x past. past_same x h (held ids h) refl past;
    }
