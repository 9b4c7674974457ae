use Rattle.std.proofs.Common.{refl}
use Rattle.lufs_base.specs.Fields.{number_in}
use Rattle.volume_model.specs.MkfsImage.{made_block}
use Rattle.volume_model.specs.Format.{clear_bits, group_bytes, group_of, dinode_bytes, dinode_of, numbers_in, slots_in}
use Rattle.volume_model.specs.Sound.{reading_of, claims_of, finding_of, verdict_of}
use Rattle.worked_volumes.proofs.findings.findings_of_two_groups.Goals as goal

pub returns-clause-new_volume : goal.returns-clause-new_volume
unfolding number_in made_block clear_bits group_bytes group_of dinode_bytes dinode_of numbers_in slots_in reading_of claims_of finding_of verdict_of
returns-clause-new_volume c = refl

pub returns-clause-group_magic : goal.returns-clause-group_magic
unfolding number_in made_block clear_bits group_bytes group_of dinode_bytes dinode_of numbers_in slots_in reading_of claims_of finding_of verdict_of
returns-clause-group_magic c = refl

pub returns-clause-number_of_the_first_group : goal.returns-clause-number_of_the_first_group
unfolding number_in made_block clear_bits group_bytes group_of dinode_bytes dinode_of numbers_in slots_in reading_of claims_of finding_of verdict_of
returns-clause-number_of_the_first_group c = refl

pub returns-clause-inode_without_mode : goal.returns-clause-inode_without_mode
unfolding number_in made_block clear_bits group_bytes group_of dinode_bytes dinode_of numbers_in slots_in reading_of claims_of finding_of verdict_of
returns-clause-inode_without_mode c = refl

pub returns-clause-block_of_inodes : goal.returns-clause-block_of_inodes
unfolding number_in made_block clear_bits group_bytes group_of dinode_bytes dinode_of numbers_in slots_in reading_of claims_of finding_of verdict_of
returns-clause-block_of_inodes c = refl

pub returns-clause-first_body_block : goal.returns-clause-first_body_block
unfolding number_in made_block clear_bits group_bytes group_of dinode_bytes dinode_of numbers_in slots_in reading_of claims_of finding_of verdict_of
returns-clause-first_body_block c = refl

pub returns-clause-last_block : goal.returns-clause-last_block
unfolding number_in made_block clear_bits group_bytes group_of dinode_bytes dinode_of numbers_in slots_in reading_of claims_of finding_of verdict_of
returns-clause-last_block c = refl

pub returns-clause-block_past_the_volume : goal.returns-clause-block_past_the_volume
unfolding number_in made_block clear_bits group_bytes group_of dinode_bytes dinode_of numbers_in slots_in reading_of claims_of finding_of verdict_of
returns-clause-block_past_the_volume c = refl

pub returns-clause-file_without_name : goal.returns-clause-file_without_name
unfolding number_in made_block clear_bits group_bytes group_of dinode_bytes dinode_of numbers_in slots_in reading_of claims_of finding_of verdict_of
returns-clause-file_without_name c = refl

pub returns-clause-inode_bit : goal.returns-clause-inode_bit
unfolding number_in made_block clear_bits group_bytes group_of dinode_bytes dinode_of numbers_in slots_in reading_of claims_of finding_of verdict_of
returns-clause-inode_bit c = refl

pub returns-clause-block_bit : goal.returns-clause-block_bit
unfolding number_in made_block clear_bits group_bytes group_of dinode_bytes dinode_of numbers_in slots_in reading_of claims_of finding_of verdict_of
returns-clause-block_bit c = refl

pub returns-clause-last_block_bit : goal.returns-clause-last_block_bit
unfolding number_in made_block clear_bits group_bytes group_of dinode_bytes dinode_of numbers_in slots_in reading_of claims_of finding_of verdict_of
returns-clause-last_block_bit c = refl

pub returns-clause-count_of_inodes : goal.returns-clause-count_of_inodes
unfolding number_in made_block clear_bits group_bytes group_of dinode_bytes dinode_of numbers_in slots_in reading_of claims_of finding_of verdict_of
returns-clause-count_of_inodes c = refl
