use Rattle.std.proofs.Common.{refl}
use Rattle.lufs_base.specs.Fields.{number_in}
use Rattle.volume_model.specs.MkfsImage.{made_block}
use Rattle.volume_model.specs.Format.{clear_bits, group_bytes, group_of, dinode_bytes, dinode_of, numbers_in, slots_in}
use Rattle.volume_model.specs.Sound.{reading_of, claims_of, finding_of, verdict_of}
use Rattle.worked_volumes.proofs.findings.findings_of_records.Goals as goal

pub returns-clause-group_magic : goal.returns-clause-group_magic
unfolding number_in made_block clear_bits group_bytes group_of dinode_bytes dinode_of numbers_in slots_in reading_of claims_of finding_of verdict_of
returns-clause-group_magic c = refl

pub returns-clause-group_number : goal.returns-clause-group_number
unfolding number_in made_block clear_bits group_bytes group_of dinode_bytes dinode_of numbers_in slots_in reading_of claims_of finding_of verdict_of
returns-clause-group_number c = refl

pub returns-clause-inode_without_mode : goal.returns-clause-inode_without_mode
unfolding number_in made_block clear_bits group_bytes group_of dinode_bytes dinode_of numbers_in slots_in reading_of claims_of finding_of verdict_of
returns-clause-inode_without_mode c = refl

pub returns-clause-last_inode_without_mode : goal.returns-clause-last_inode_without_mode
unfolding number_in made_block clear_bits group_bytes group_of dinode_bytes dinode_of numbers_in slots_in reading_of claims_of finding_of verdict_of
returns-clause-last_inode_without_mode c = refl

pub returns-clause-inode_zero_in_use : goal.returns-clause-inode_zero_in_use
unfolding number_in made_block clear_bits group_bytes group_of dinode_bytes dinode_of numbers_in slots_in reading_of claims_of finding_of verdict_of
returns-clause-inode_zero_in_use c = refl

pub returns-clause-inode_one_in_use : goal.returns-clause-inode_one_in_use
unfolding number_in made_block clear_bits group_bytes group_of dinode_bytes dinode_of numbers_in slots_in reading_of claims_of finding_of verdict_of
returns-clause-inode_one_in_use c = refl

pub returns-clause-root_is_file : goal.returns-clause-root_is_file
unfolding number_in made_block clear_bits group_bytes group_of dinode_bytes dinode_of numbers_in slots_in reading_of claims_of finding_of verdict_of
returns-clause-root_is_file c = refl

pub returns-clause-root_is_free : goal.returns-clause-root_is_free
unfolding number_in made_block clear_bits group_bytes group_of dinode_bytes dinode_of numbers_in slots_in reading_of claims_of finding_of verdict_of
returns-clause-root_is_free c = refl

pub returns-clause-block_of_two_inodes : goal.returns-clause-block_of_two_inodes
unfolding number_in made_block clear_bits group_bytes group_of dinode_bytes dinode_of numbers_in slots_in reading_of claims_of finding_of verdict_of
returns-clause-block_of_two_inodes c = refl

pub returns-clause-block_at_two_indexes : goal.returns-clause-block_at_two_indexes
unfolding number_in made_block clear_bits group_bytes group_of dinode_bytes dinode_of numbers_in slots_in reading_of claims_of finding_of verdict_of
returns-clause-block_at_two_indexes c = refl
