use Rattle.std.proofs.Common.{◌/◌, arith}
use Rattle.lufs_base.specs.Layout.{group_start, inode_address}
use Rattle.volume_laws.proofs.SameReading.{group_record_block, inode_record_block}
use Rattle.volume_laws.proofs.RecordChanges.{body_apart}
use Rattle.change_laws.proofs.claims.body_blocks.Goals as goal

pub returns-clause-group_blocks : goal.returns-clause-group_blocks
returns-clause-group_blocks c g b n ok body within = body_apart g b (group_start g n) 416 body (group_record_block g n ok within).1 (omega arith)

pub returns-clause-inode_blocks : goal.returns-clause-inode_blocks
returns-clause-inode_blocks c g b i ok body within = body_apart g b (inode_address g i / 4096) 4096 body (inode_record_block g i ok within).1 (omega arith)
