use Rattle.std.proofs.Common.{refl}
use Rattle.lufs_base.specs.Fields.{number_in}
use Rattle.volume_model.specs.MkfsImage.{made_block}
use Rattle.volume_model.specs.Format.{clear_bits, group_bytes, group_of, dinode_bytes, dinode_of, numbers_in, slots_in}
use Rattle.volume_model.specs.Sound.{reading_of, tree_of, free_inodes_of, free_blocks_of, shape_of}
use Rattle.worked_volumes.proofs.volumes.trees.Goals as goal

pub returns-clause-new_root : goal.returns-clause-new_root
unfolding number_in made_block clear_bits group_bytes group_of dinode_bytes dinode_of numbers_in slots_in reading_of tree_of
returns-clause-new_root c = refl

pub returns-clause-new_free_blocks : goal.returns-clause-new_free_blocks
unfolding number_in made_block clear_bits group_bytes group_of dinode_bytes dinode_of numbers_in slots_in reading_of tree_of free_blocks_of
returns-clause-new_free_blocks c = refl

pub returns-clause-past_the_volume : goal.returns-clause-past_the_volume
unfolding number_in made_block clear_bits group_bytes group_of dinode_bytes dinode_of numbers_in slots_in reading_of tree_of
returns-clause-past_the_volume c = refl

pub returns-clause-root_of_two_groups : goal.returns-clause-root_of_two_groups
unfolding number_in made_block clear_bits group_bytes group_of dinode_bytes dinode_of numbers_in slots_in reading_of tree_of
returns-clause-root_of_two_groups c = refl

pub returns-clause-free_of_two_groups : goal.returns-clause-free_of_two_groups
unfolding number_in made_block clear_bits group_bytes group_of dinode_bytes dinode_of numbers_in slots_in reading_of tree_of
returns-clause-free_of_two_groups c = refl

pub returns-clause-free_blocks_of_two_groups : goal.returns-clause-free_blocks_of_two_groups
unfolding number_in made_block clear_bits group_bytes group_of dinode_bytes dinode_of numbers_in slots_in reading_of tree_of free_blocks_of
returns-clause-free_blocks_of_two_groups c = refl

pub returns-clause-free : goal.returns-clause-free
unfolding number_in made_block clear_bits group_bytes group_of dinode_bytes dinode_of numbers_in slots_in reading_of tree_of
returns-clause-free c = refl

pub returns-clause-root : goal.returns-clause-root
unfolding number_in made_block clear_bits group_bytes group_of dinode_bytes dinode_of numbers_in slots_in reading_of tree_of
returns-clause-root c = refl

pub returns-clause-file_with_holes : goal.returns-clause-file_with_holes
unfolding number_in made_block clear_bits group_bytes group_of dinode_bytes dinode_of numbers_in slots_in reading_of tree_of
returns-clause-file_with_holes c = refl

pub returns-clause-directory_of_two_chunks : goal.returns-clause-directory_of_two_chunks
unfolding number_in made_block clear_bits group_bytes group_of dinode_bytes dinode_of numbers_in slots_in reading_of tree_of
returns-clause-directory_of_two_chunks c = refl

pub returns-clause-symbolic_link : goal.returns-clause-symbolic_link
unfolding number_in made_block clear_bits group_bytes group_of dinode_bytes dinode_of numbers_in slots_in reading_of tree_of
returns-clause-symbolic_link c = refl

pub returns-clause-free_blocks : goal.returns-clause-free_blocks
unfolding number_in made_block clear_bits group_bytes group_of dinode_bytes dinode_of numbers_in slots_in reading_of tree_of free_blocks_of
returns-clause-free_blocks c = refl

pub returns-clause-shape : goal.returns-clause-shape
unfolding number_in made_block clear_bits group_bytes group_of dinode_bytes dinode_of numbers_in slots_in reading_of tree_of shape_of
returns-clause-shape c = refl

pub returns-clause-large_root : goal.returns-clause-large_root
unfolding number_in made_block clear_bits group_bytes group_of dinode_bytes dinode_of numbers_in slots_in reading_of tree_of free_blocks_of
returns-clause-large_root c = refl

pub returns-clause-one_chunk : goal.returns-clause-one_chunk
returns-clause-one_chunk c = refl

pub returns-clause-nine_chunks : goal.returns-clause-nine_chunks
returns-clause-nine_chunks c = refl

pub returns-clause-twelve_blocks : goal.returns-clause-twelve_blocks
returns-clause-twelve_blocks c = refl

pub returns-clause-thirteen_blocks : goal.returns-clause-thirteen_blocks
returns-clause-thirteen_blocks c = refl

pub returns-clause-free_inodes : goal.returns-clause-free_inodes
unfolding number_in made_block clear_bits group_bytes group_of dinode_bytes dinode_of numbers_in slots_in reading_of tree_of free_inodes_of
returns-clause-free_inodes c = refl

pub returns-clause-free_inodes_of_two_groups : goal.returns-clause-free_inodes_of_two_groups
unfolding number_in made_block clear_bits group_bytes group_of dinode_bytes dinode_of numbers_in slots_in reading_of tree_of free_inodes_of
returns-clause-free_inodes_of_two_groups c = refl
