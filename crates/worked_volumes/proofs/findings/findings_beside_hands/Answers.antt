use Rattle.std.proofs.Common.{refl}
use Rattle.lufs_base.specs.Fields.{number_in}
use Rattle.volume_model.specs.MkfsImage.{made_block}
use Rattle.volume_model.specs.Format.{clear_bits, group_bytes, group_of, dinode_bytes, dinode_of, numbers_in, slots_in}
use Rattle.volume_model.specs.Sound.{reading_of, claims_of, finding_of}
use Rattle.worked_volumes.proofs.findings.findings_beside_hands.Goals as goal

pub returns-clause-nothing_held : goal.returns-clause-nothing_held
unfolding number_in made_block clear_bits group_bytes group_of dinode_bytes dinode_of numbers_in slots_in reading_of claims_of finding_of
returns-clause-nothing_held c = refl

pub returns-clause-inode_held : goal.returns-clause-inode_held
unfolding number_in made_block clear_bits group_bytes group_of dinode_bytes dinode_of numbers_in slots_in reading_of claims_of finding_of
returns-clause-inode_held c = refl

pub returns-clause-both_held : goal.returns-clause-both_held
unfolding number_in made_block clear_bits group_bytes group_of dinode_bytes dinode_of numbers_in slots_in reading_of claims_of finding_of
returns-clause-both_held c = refl

pub returns-clause-held_by_two : goal.returns-clause-held_by_two
unfolding number_in made_block clear_bits group_bytes group_of dinode_bytes dinode_of numbers_in slots_in reading_of claims_of finding_of
returns-clause-held_by_two c = refl

pub returns-clause-held_without_bits : goal.returns-clause-held_without_bits
unfolding number_in made_block clear_bits group_bytes group_of dinode_bytes dinode_of numbers_in slots_in reading_of claims_of finding_of
returns-clause-held_without_bits c = refl
