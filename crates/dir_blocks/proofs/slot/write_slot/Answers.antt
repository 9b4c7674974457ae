use Rattle.std.proofs.Common.{arith}
use Rattle.dir_blocks.proofs.WrittenSlots.{written_fields}
use Rattle.dir_blocks.proofs.slot.write_slot.Goals as goal

pub returns : goal.returns
returns c =
    written_fields c.args.slot.now c.as_slice-name.result.now c.args.out.now c.put_u32.new.out c.put_u16.new.out c.put_u16-2.new.out c.put_bytes.new.out c.put_zeros.new.out
    c.from.result c.args.at (omega arith) c.as_slice-name.ensures c.from.ensures c.put_u32.ensures c.put_u16.ensures c.put_u16-2.ensures c.put_bytes.ensures c.put_zeros.ensures
