use Rattle.std.proofs.Common.{refl}
use Rattle.lufs_base.specs.Fields.{number_in}
use Rattle.volume_model.specs.MkfsImage.{made_block}
use Rattle.volume_model.specs.Format.{clear_bits, group_bytes, group_of, dinode_bytes, dinode_of, numbers_in, slots_in}
use Rattle.volume_model.specs.Sound.{reading_of, claims_of, finding_of, verdict_of}
use Rattle.worked_volumes.proofs.findings.findings_come_in_order.Goals as goal

pub returns-clause-two_inodes : goal.returns-clause-two_inodes
unfolding number_in made_block clear_bits group_bytes group_of dinode_bytes dinode_of numbers_in slots_in reading_of claims_of finding_of verdict_of
returns-clause-two_inodes c = refl

pub returns-clause-two_blocks : goal.returns-clause-two_blocks
unfolding number_in made_block clear_bits group_bytes group_of dinode_bytes dinode_of numbers_in slots_in reading_of claims_of finding_of verdict_of
returns-clause-two_blocks c = refl

pub returns-clause-group_and_inode : goal.returns-clause-group_and_inode
unfolding number_in made_block clear_bits group_bytes group_of dinode_bytes dinode_of numbers_in slots_in reading_of claims_of finding_of verdict_of
returns-clause-group_and_inode c = refl

pub returns-clause-inode_and_lower_fields : goal.returns-clause-inode_and_lower_fields
unfolding number_in made_block clear_bits group_bytes group_of dinode_bytes dinode_of numbers_in slots_in reading_of claims_of finding_of verdict_of
returns-clause-inode_and_lower_fields c = refl

pub returns-clause-fields_and_root : goal.returns-clause-fields_and_root
unfolding number_in made_block clear_bits group_bytes group_of dinode_bytes dinode_of numbers_in slots_in reading_of claims_of finding_of verdict_of
returns-clause-fields_and_root c = refl

pub returns-clause-twice_and_chunk : goal.returns-clause-twice_and_chunk
unfolding number_in made_block clear_bits group_bytes group_of dinode_bytes dinode_of numbers_in slots_in reading_of claims_of finding_of verdict_of
returns-clause-twice_and_chunk c = refl

pub returns-clause-name_and_parent : goal.returns-clause-name_and_parent
unfolding number_in made_block clear_bits group_bytes group_of dinode_bytes dinode_of numbers_in slots_in reading_of claims_of finding_of verdict_of
returns-clause-name_and_parent c = refl

pub returns-clause-links_and_bit : goal.returns-clause-links_and_bit
unfolding number_in made_block clear_bits group_bytes group_of dinode_bytes dinode_of numbers_in slots_in reading_of claims_of finding_of verdict_of
returns-clause-links_and_bit c = refl

pub returns-clause-bits : goal.returns-clause-bits
unfolding number_in made_block clear_bits group_bytes group_of dinode_bytes dinode_of numbers_in slots_in reading_of claims_of finding_of verdict_of
returns-clause-bits c = refl

pub returns-clause-bit_and_count : goal.returns-clause-bit_and_count
unfolding number_in made_block clear_bits group_bytes group_of dinode_bytes dinode_of numbers_in slots_in reading_of claims_of finding_of verdict_of
returns-clause-bit_and_count c = refl
