use mathlib.Core.Logic.{∥∥₁_map}
use Rattle.std.proofs.Common.{map, sym, refl}
use Rattle.chained.specs.Chains.{size}
use Rattle.slabs.specs.Slabs.{rows_of}
use Rattle.chained.proofs.Sound.{holds_as}
use Rattle.records.proofs.records.Records.grow_after.Goals as goal

pub grow_after-requires : goal.grow_after-requires
grow_after-requires c =
    let t = c.args.self.now in
    ∥∥₁_map c.args.self.now.indexed (λ ix. (map (λ row. row.chain) (rows_of t.slab), map (λ row. row.tag.hash) (rows_of t.slab), ix.ids, holds_as (size t.table) ix.ids c.deref.ensures.value refl refl ix.kept))

pub invariant_of-self-clause-indexed : goal.invariant_of-self-clause-indexed
invariant_of-self-clause-indexed c =
    let t = c.args.self.now in
    let links = map (λ row. row.chain) (rows_of t.slab) in
    let hashes = map (λ row. row.tag.hash) (rows_of t.slab) in
    let value = c.deref.ensures.value in
    ∥∥₁_map t.indexed (λ ix. record {
      ids = ix.ids;
      kept = holds_as (size c.grow_after.new.self) ix.ids (sym value) refl refl (c.grow_after.ensures.held links hashes ix.ids (holds_as (size t.table) ix.ids value refl refl ix.kept));
      exact = ix.exact;
    })
