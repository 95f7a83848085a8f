use Rattle.std.proofs.Common.{arith}
use Rattle.slabs.proofs.Bytes.{written}
use Rattle.slabs.proofs.slab.records.write_record.Goals as goal

pub returns : goal.returns
returns c =
    written c.args.memory.now c.args.key.now c.args.block.now c.copy_from_slice.new.self c.copy_from_slice-2.new.self c.args.at _ _
    c.requires (omega arith) (omega arith) c.copy_from_slice.ensures.after c.copy_from_slice-2.ensures.after
