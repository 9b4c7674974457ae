use Rattle.std.proofs.Common.{refl}
use Rattle.lufs_base.specs.Fields.{number_in}
use Rattle.volume_model.specs.MkfsImage.{made_block}
use Rattle.volume_model.specs.Format.{clear_bits, group_bytes, group_of, dinode_bytes, dinode_of, numbers_in, slots_in}
use Rattle.volume_model.specs.Sound.{reading_of, claims_of, finding_of, verdict_of}
use Rattle.worked_volumes.proofs.findings.findings_of_pointer_blocks.Goals as goal

pub returns-clause-pointer_block_of_the_log : goal.returns-clause-pointer_block_of_the_log
unfolding number_in made_block clear_bits group_bytes group_of dinode_bytes dinode_of numbers_in slots_in reading_of claims_of finding_of verdict_of
returns-clause-pointer_block_of_the_log c = refl

pub returns-clause-pointer_to_inodes : goal.returns-clause-pointer_to_inodes
unfolding number_in made_block clear_bits group_bytes group_of dinode_bytes dinode_of numbers_in slots_in reading_of claims_of finding_of verdict_of
returns-clause-pointer_to_inodes c = refl

pub returns-clause-pointer_past_the_size : goal.returns-clause-pointer_past_the_size
unfolding number_in made_block clear_bits group_bytes group_of dinode_bytes dinode_of numbers_in slots_in reading_of claims_of finding_of verdict_of
returns-clause-pointer_past_the_size c = refl

pub returns-clause-pointer_block_not_wanted : goal.returns-clause-pointer_block_not_wanted
unfolding number_in made_block clear_bits group_bytes group_of dinode_bytes dinode_of numbers_in slots_in reading_of claims_of finding_of verdict_of
returns-clause-pointer_block_not_wanted c = refl

pub returns-clause-pointer_block_in_itself : goal.returns-clause-pointer_block_in_itself
unfolding number_in made_block clear_bits group_bytes group_of dinode_bytes dinode_of numbers_in slots_in reading_of claims_of finding_of verdict_of
returns-clause-pointer_block_in_itself c = refl

pub returns-clause-directory_without_pointer_block : goal.returns-clause-directory_without_pointer_block
unfolding number_in made_block clear_bits group_bytes group_of dinode_bytes dinode_of numbers_in slots_in reading_of claims_of finding_of verdict_of
returns-clause-directory_without_pointer_block c = refl

pub returns-clause-free_inode_named_after_it : goal.returns-clause-free_inode_named_after_it
unfolding number_in made_block clear_bits group_bytes group_of dinode_bytes dinode_of numbers_in slots_in reading_of claims_of finding_of verdict_of
returns-clause-free_inode_named_after_it c = refl

pub returns-clause-pointer_block_of_an_empty_file : goal.returns-clause-pointer_block_of_an_empty_file
unfolding number_in made_block clear_bits group_bytes group_of dinode_bytes dinode_of numbers_in slots_in reading_of claims_of finding_of verdict_of
returns-clause-pointer_block_of_an_empty_file c = refl

pub returns-clause-pointer_block_of_twelve_blocks : goal.returns-clause-pointer_block_of_twelve_blocks
unfolding number_in made_block clear_bits group_bytes group_of dinode_bytes dinode_of numbers_in slots_in reading_of claims_of finding_of verdict_of
returns-clause-pointer_block_of_twelve_blocks c = refl
