use Rattle.std.proofs.Common.{refl}
use Rattle.lufs_base.specs.Fields.{number_in}
use Rattle.volume_model.specs.MkfsImage.{made_block}
use Rattle.volume_model.specs.Format.{clear_bits, group_bytes, group_of, dinode_bytes, dinode_of, numbers_in, slots_in}
use Rattle.volume_model.specs.Sound.{reading_of, claims_of, finding_of, verdict_of}
use Rattle.worked_volumes.proofs.findings.findings_of_bits.Goals as goal

pub returns-clause-bit_of_a_free_inode : goal.returns-clause-bit_of_a_free_inode
unfolding number_in made_block clear_bits group_bytes group_of dinode_bytes dinode_of numbers_in slots_in reading_of claims_of finding_of verdict_of
returns-clause-bit_of_a_free_inode c = refl

pub returns-clause-bit_of_the_last_inode : goal.returns-clause-bit_of_the_last_inode
unfolding number_in made_block clear_bits group_bytes group_of dinode_bytes dinode_of numbers_in slots_in reading_of claims_of finding_of verdict_of
returns-clause-bit_of_the_last_inode c = refl

pub returns-clause-no_bit_of_the_root : goal.returns-clause-no_bit_of_the_root
unfolding number_in made_block clear_bits group_bytes group_of dinode_bytes dinode_of numbers_in slots_in reading_of claims_of finding_of verdict_of
returns-clause-no_bit_of_the_root c = refl

pub returns-clause-no_bit_of_a_file : goal.returns-clause-no_bit_of_a_file
unfolding number_in made_block clear_bits group_bytes group_of dinode_bytes dinode_of numbers_in slots_in reading_of claims_of finding_of verdict_of
returns-clause-no_bit_of_a_file c = refl

pub returns-clause-no_bit_of_a_block : goal.returns-clause-no_bit_of_a_block
unfolding number_in made_block clear_bits group_bytes group_of dinode_bytes dinode_of numbers_in slots_in reading_of claims_of finding_of verdict_of
returns-clause-no_bit_of_a_block c = refl

pub returns-clause-bit_of_a_free_block : goal.returns-clause-bit_of_a_free_block
unfolding number_in made_block clear_bits group_bytes group_of dinode_bytes dinode_of numbers_in slots_in reading_of claims_of finding_of verdict_of
returns-clause-bit_of_a_free_block c = refl

pub returns-clause-bit_of_the_last_block : goal.returns-clause-bit_of_the_last_block
unfolding number_in made_block clear_bits group_bytes group_of dinode_bytes dinode_of numbers_in slots_in reading_of claims_of finding_of verdict_of
returns-clause-bit_of_the_last_block c = refl

pub returns-clause-no_bit_of_a_pointer_block : goal.returns-clause-no_bit_of_a_pointer_block
unfolding number_in made_block clear_bits group_bytes group_of dinode_bytes dinode_of numbers_in slots_in reading_of claims_of finding_of verdict_of
returns-clause-no_bit_of_a_pointer_block c = refl

pub returns-clause-no_bit_after_a_pointer_block : goal.returns-clause-no_bit_after_a_pointer_block
unfolding number_in made_block clear_bits group_bytes group_of dinode_bytes dinode_of numbers_in slots_in reading_of claims_of finding_of verdict_of
returns-clause-no_bit_after_a_pointer_block c = refl

pub returns-clause-count_of_inodes : goal.returns-clause-count_of_inodes
unfolding number_in made_block clear_bits group_bytes group_of dinode_bytes dinode_of numbers_in slots_in reading_of claims_of finding_of verdict_of
returns-clause-count_of_inodes c = refl

pub returns-clause-count_of_blocks : goal.returns-clause-count_of_blocks
unfolding number_in made_block clear_bits group_bytes group_of dinode_bytes dinode_of numbers_in slots_in reading_of claims_of finding_of verdict_of
returns-clause-count_of_blocks c = refl

pub returns-clause-bit_past_the_inodes : goal.returns-clause-bit_past_the_inodes
unfolding number_in made_block clear_bits group_bytes group_of dinode_bytes dinode_of numbers_in slots_in reading_of claims_of finding_of verdict_of
returns-clause-bit_past_the_inodes c = refl

pub returns-clause-bit_past_the_blocks : goal.returns-clause-bit_past_the_blocks
unfolding number_in made_block clear_bits group_bytes group_of dinode_bytes dinode_of numbers_in slots_in reading_of claims_of finding_of verdict_of
returns-clause-bit_past_the_blocks c = refl
