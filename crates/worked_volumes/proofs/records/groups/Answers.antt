use Rattle.std.proofs.Common.{refl}
use Rattle.lufs_base.specs.Fields.{number_in}
use Rattle.volume_model.specs.Format.{group_of, group_bytes, clear_bits}
use Rattle.worked_volumes.proofs.records.groups.Goals as goal

pub returns-clause-made : goal.returns-clause-made
unfolding number_in group_of group_bytes clear_bits
returns-clause-made c = refl

pub returns-clause-written : goal.returns-clause-written
unfolding number_in group_of group_bytes clear_bits
returns-clause-written c = refl

pub returns-clause-free_inodes : goal.returns-clause-free_inodes
unfolding number_in group_of group_bytes clear_bits
returns-clause-free_inodes c = refl

pub returns-clause-free_blocks : goal.returns-clause-free_blocks
unfolding number_in group_of group_bytes clear_bits
returns-clause-free_blocks c = refl

pub returns-clause-other_number : goal.returns-clause-other_number
unfolding number_in group_of group_bytes clear_bits
returns-clause-other_number c = refl

pub returns-clause-inode_past : goal.returns-clause-inode_past
unfolding number_in group_of group_bytes clear_bits
returns-clause-inode_past c = refl

pub returns-clause-block_past : goal.returns-clause-block_past
unfolding number_in group_of group_bytes clear_bits
returns-clause-block_past c = refl

pub returns-clause-inode_1_free : goal.returns-clause-inode_1_free
unfolding number_in group_of group_bytes clear_bits
returns-clause-inode_1_free c = refl

pub returns-clause-inode_block_free : goal.returns-clause-inode_block_free
unfolding number_in group_of group_bytes clear_bits
returns-clause-inode_block_free c = refl
