use Rattle.std.proofs.Common.{refl}
use Rattle.lufs_base.specs.Fields.{number_in}
use Rattle.volume_model.specs.MkfsImage.{made_block}
use Rattle.volume_model.specs.Format.{clear_bits, group_bytes, group_of, dinode_bytes, dinode_of, numbers_in, slots_in}
use Rattle.volume_model.specs.Sound.{reading_of, claims_of, finding_of, verdict_of}
use Rattle.worked_volumes.proofs.volumes.volumes_that_are_sound.Goals as goal

pub returns-clause-new_volume : goal.returns-clause-new_volume
unfolding number_in made_block clear_bits group_bytes group_of dinode_bytes dinode_of numbers_in slots_in reading_of claims_of finding_of verdict_of
returns-clause-new_volume c = refl

pub returns-clause-with_a_file : goal.returns-clause-with_a_file
unfolding number_in made_block clear_bits group_bytes group_of dinode_bytes dinode_of numbers_in slots_in reading_of claims_of finding_of verdict_of
returns-clause-with_a_file c = refl

pub returns-clause-with_a_directory : goal.returns-clause-with_a_directory
unfolding number_in made_block clear_bits group_bytes group_of dinode_bytes dinode_of numbers_in slots_in reading_of claims_of finding_of verdict_of
returns-clause-with_a_directory c = refl

pub returns-clause-with_all_types : goal.returns-clause-with_all_types
unfolding number_in made_block clear_bits group_bytes group_of dinode_bytes dinode_of numbers_in slots_in reading_of claims_of finding_of verdict_of
returns-clause-with_all_types c = refl

pub returns-clause-with_a_large_root : goal.returns-clause-with_a_large_root
unfolding number_in made_block clear_bits group_bytes group_of dinode_bytes dinode_of numbers_in slots_in reading_of claims_of finding_of verdict_of
returns-clause-with_a_large_root c = refl
