use Rattle.std.proofs.Common.{cond, eqb, map, get_or, vec_items, sym, ap, ◌∙◌, subst}
use mathlib.Core.Logic.{∥∥₁_map}
use Rattle.chained.specs.Chains.{Holds, size}
use Rattle.slabs.specs.Lists.{held_of}
use Rattle.slabs.specs.Layouts.{class_at}
use Rattle.slabs.specs.Slabs.{rows_of, homes_of, layout}
use Rattle.records.proofs.Telling.{hashes_stay}
use Rattle.records.proofs.records.Records.retag.Goals as goal

pub invariant_of-self-clause-indexed : goal.invariant_of-self-clause-indexed
invariant_of-self-clause-indexed c =
    let t = c.args.self.now in
    let new = c.set_tag.new.self in
    let told = c.set_tag.ensures.retagged in
    let hashes = hashes_stay (rows_of t.slab) (rows_of new) c.args.i c.args.tag told.tags_are c.requires.hash in
    ∥∥₁_map t.indexed (λ ix.
    let ids = ix.ids in
    record {
      ids = ids;
      kept = subst (λ x. Holds (size t.table) (vec_items t.heads) x (map (λ row. row.tag.hash) (rows_of new)) ids) (sym told.chains_stay)
          (subst (λ x. Holds (size t.table) (vec_items t.heads) (map (λ row. row.chain) (rows_of t.slab)) x ids) (sym hashes) ix.kept);
      exact = λ k.
          ix.exact k
          ∙ ap (λ h. cond (eqb (get_or h k 0) (held_of (class_at (layout t.slab) k))) 1 0) (sym told.homes_stay)
          ∙ ap (λ l. cond (eqb (get_or (homes_of new) k 0) (held_of (class_at l k))) 1 0) (sym told.layout_stays);
    })
