use Rattle.std.proofs.Common.{refl}
use Rattle.volume_model.specs.Format.{clear_bits, group_bytes, dinode_bytes}
use Rattle.volume_model.specs.Log.{header_bytes}
use Rattle.volume_model.specs.MkfsImage.{made_block}
use Rattle.std.specs.Fmt.{digits}
use Rattle.volume_model.specs.Texts.{mkfs_text}
use Rattle.worked_volumes.proofs.mkfs.new_volume.Goals as goal

pub returns-clause-text : goal.returns-clause-text
unfolding mkfs_text digits
returns-clause-text c = refl

pub returns-clause-inode_bits : goal.returns-clause-inode_bits
returns-clause-inode_bits c = refl

pub returns-clause-block_bits : goal.returns-clause-block_bits
returns-clause-block_bits c = refl

pub returns-clause-free_inodes : goal.returns-clause-free_inodes
unfolding clear_bits
returns-clause-free_inodes c = refl

pub returns-clause-free_blocks : goal.returns-clause-free_blocks
unfolding clear_bits
returns-clause-free_blocks c = refl

pub returns-clause-header : goal.returns-clause-header
unfolding made_block header_bytes
returns-clause-header c = refl

pub returns-clause-last_of_log : goal.returns-clause-last_of_log
unfolding made_block
returns-clause-last_of_log c = refl

pub returns-clause-group : goal.returns-clause-group
unfolding made_block group_bytes
returns-clause-group c = refl

pub returns-clause-root_mode : goal.returns-clause-root_mode
unfolding made_block dinode_bytes
returns-clause-root_mode c = refl

pub returns-clause-root_place : goal.returns-clause-root_place
unfolding made_block dinode_bytes
returns-clause-root_place c = refl

pub returns-clause-root_moment : goal.returns-clause-root_moment
unfolding made_block dinode_bytes
returns-clause-root_moment c = refl

pub returns-clause-root_chunk : goal.returns-clause-root_chunk
unfolding made_block
returns-clause-root_chunk c = refl

pub returns-clause-super_block : goal.returns-clause-super_block
unfolding made_block
returns-clause-super_block c = refl

pub returns-clause-free_block : goal.returns-clause-free_block
unfolding made_block
returns-clause-free_block c = refl

pub returns-clause-past_the_volume : goal.returns-clause-past_the_volume
unfolding made_block
returns-clause-past_the_volume c = refl
