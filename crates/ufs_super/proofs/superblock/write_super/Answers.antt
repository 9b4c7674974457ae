use Rattle.ufs_super.proofs.SuperblockBytes.{super_written}
use Rattle.ufs_super.proofs.superblock.write_super.Goals as goal

pub returns : goal.returns
returns c =
    super_written c.args.g.now c.total.result _ c.clear.new.out c.put_u32.new.out c.put_u32-2.new.out c.put_u32-3.new.out c.put_u32-4.new.out c.put_u32-5.new.out c.put_u32-6.new.out
    c.put_u32-7.new.out c.total.ensures c.requires.sector c.clear.ensures c.put_u32.ensures c.put_u32-2.ensures c.put_u32-3.ensures c.put_u32-4.ensures c.put_u32-5.ensures c.put_u32-6.ensures c.put_u32-7.ensures
