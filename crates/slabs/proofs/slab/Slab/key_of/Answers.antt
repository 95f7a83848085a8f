use Rattle.std.proofs.Common.{arith}
use Rattle.slabs.proofs.Telling.{record_end}
use Rattle.slabs.proofs.slab.Slab.key_of.Goals as goal

pub overflow_add-end : goal.overflow_add-end
overflow_add-end c =
    let end = record_end c.args.self.now c.requires.sound c.args.i c.requires.held in
    let few = end.1 in
    omega (arith, end.0, c.row-row.ensures.key, c.start-at.ensures)

pub slice_bounds-result-end : goal.slice_bounds-result-end
slice_bounds-result-end c =
    let end = record_end c.args.self.now c.requires.sound c.args.i c.requires.held in
    omega (arith, end.0, c.requires.memory, c.row-row.ensures.key, c.start-at.ensures)
