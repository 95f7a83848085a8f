use Rattle.std.proofs.Common.{get_or, drop, ap, arith}
use Rattle.std.proofs.lemmas.List.{length-take}
use Rattle.slabs.specs.Rows.{blank}
use Rattle.slabs.specs.Layouts.{start}
use Rattle.slabs.specs.Slabs.{layout, rows_of}
use Rattle.store.proofs.store.RecordStore.view.Goals as goal

pub returns : goal.returns
returns c =
    let slab = c.args.self.now.records.slab in
    let i = c.args.found.row in
    let short = c.data.ensures.short in
    record {
      key = c.key.ensures;
      flags = ap (λ tag. tag.flags) c.tag-tag.ensures;
      expiry = ap (λ tag. tag.expiry) c.tag-tag.ensures;
      cas = ap (λ tag. tag.cas) c.tag-tag.ensures;
      «data» = c.data.ensures.«data»;
      short = omega (arith, length-take (get_or (rows_of slab) i blank).key_len (drop (start (layout slab) i) c.args.memory.now));
    }
