use Rattle.std.proofs.Common.{refl}
use Rattle.lufs_base.specs.Fields.{number_in}
use Rattle.volume_model.specs.MkfsImage.{made_block}
use Rattle.volume_model.specs.Format.{clear_bits, group_bytes, group_of, dinode_bytes, dinode_of, numbers_in, slots_in}
use Rattle.volume_model.specs.Sound.{reading_of, claims_of, finding_of, verdict_of}
use Rattle.worked_volumes.proofs.findings.findings_of_names.Goals as goal

pub returns-clause-slot_of_thirteen_bytes : goal.returns-clause-slot_of_thirteen_bytes
unfolding number_in made_block clear_bits group_bytes group_of dinode_bytes dinode_of numbers_in slots_in reading_of claims_of finding_of verdict_of
returns-clause-slot_of_thirteen_bytes c = refl

pub returns-clause-dot_is_another : goal.returns-clause-dot_is_another
unfolding number_in made_block clear_bits group_bytes group_of dinode_bytes dinode_of numbers_in slots_in reading_of claims_of finding_of verdict_of
returns-clause-dot_is_another c = refl

pub returns-clause-dot_too_long : goal.returns-clause-dot_too_long
unfolding number_in made_block clear_bits group_bytes group_of dinode_bytes dinode_of numbers_in slots_in reading_of claims_of finding_of verdict_of
returns-clause-dot_too_long c = refl

pub returns-clause-no_dot_dot : goal.returns-clause-no_dot_dot
unfolding number_in made_block clear_bits group_bytes group_of dinode_bytes dinode_of numbers_in slots_in reading_of claims_of finding_of verdict_of
returns-clause-no_dot_dot c = refl

pub returns-clause-dot_dot_unused : goal.returns-clause-dot_dot_unused
unfolding number_in made_block clear_bits group_bytes group_of dinode_bytes dinode_of numbers_in slots_in reading_of claims_of finding_of verdict_of
returns-clause-dot_dot_unused c = refl

pub returns-clause-name_twice : goal.returns-clause-name_twice
unfolding number_in made_block clear_bits group_bytes group_of dinode_bytes dinode_of numbers_in slots_in reading_of claims_of finding_of verdict_of
returns-clause-name_twice c = refl

pub returns-clause-name_in_two_chunks : goal.returns-clause-name_in_two_chunks
unfolding number_in made_block clear_bits group_bytes group_of dinode_bytes dinode_of numbers_in slots_in reading_of claims_of finding_of verdict_of
returns-clause-name_in_two_chunks c = refl

pub returns-clause-second_chunk_of_zeros : goal.returns-clause-second_chunk_of_zeros
unfolding number_in made_block clear_bits group_bytes group_of dinode_bytes dinode_of numbers_in slots_in reading_of claims_of finding_of verdict_of
returns-clause-second_chunk_of_zeros c = refl

pub returns-clause-names_free_inode : goal.returns-clause-names_free_inode
unfolding number_in made_block clear_bits group_bytes group_of dinode_bytes dinode_of numbers_in slots_in reading_of claims_of finding_of verdict_of
returns-clause-names_free_inode c = refl

pub returns-clause-names_no_inode : goal.returns-clause-names_no_inode
unfolding number_in made_block clear_bits group_bytes group_of dinode_bytes dinode_of numbers_in slots_in reading_of claims_of finding_of verdict_of
returns-clause-names_no_inode c = refl

pub returns-clause-free_inode_above : goal.returns-clause-free_inode_above
unfolding number_in made_block clear_bits group_bytes group_of dinode_bytes dinode_of numbers_in slots_in reading_of claims_of finding_of verdict_of
returns-clause-free_inode_above c = refl

pub returns-clause-another_above_the_root : goal.returns-clause-another_above_the_root
unfolding number_in made_block clear_bits group_bytes group_of dinode_bytes dinode_of numbers_in slots_in reading_of claims_of finding_of verdict_of
returns-clause-another_above_the_root c = refl

pub returns-clause-root_is_named : goal.returns-clause-root_is_named
unfolding number_in made_block clear_bits group_bytes group_of dinode_bytes dinode_of numbers_in slots_in reading_of claims_of finding_of verdict_of
returns-clause-root_is_named c = refl

pub returns-clause-directory_without_name : goal.returns-clause-directory_without_name
unfolding number_in made_block clear_bits group_bytes group_of dinode_bytes dinode_of numbers_in slots_in reading_of claims_of finding_of verdict_of
returns-clause-directory_without_name c = refl

pub returns-clause-directory_with_two_names : goal.returns-clause-directory_with_two_names
unfolding number_in made_block clear_bits group_bytes group_of dinode_bytes dinode_of numbers_in slots_in reading_of claims_of finding_of verdict_of
returns-clause-directory_with_two_names c = refl

pub returns-clause-another_above : goal.returns-clause-another_above
unfolding number_in made_block clear_bits group_bytes group_of dinode_bytes dinode_of numbers_in slots_in reading_of claims_of finding_of verdict_of
returns-clause-another_above c = refl

pub returns-clause-circle_of_one : goal.returns-clause-circle_of_one
unfolding number_in made_block clear_bits group_bytes group_of dinode_bytes dinode_of numbers_in slots_in reading_of claims_of finding_of verdict_of
returns-clause-circle_of_one c = refl

pub returns-clause-circle_of_two : goal.returns-clause-circle_of_two
unfolding number_in made_block clear_bits group_bytes group_of dinode_bytes dinode_of numbers_in slots_in reading_of claims_of finding_of verdict_of
returns-clause-circle_of_two c = refl

pub returns-clause-file_without_name : goal.returns-clause-file_without_name
unfolding number_in made_block clear_bits group_bytes group_of dinode_bytes dinode_of numbers_in slots_in reading_of claims_of finding_of verdict_of
returns-clause-file_without_name c = refl

pub returns-clause-file_with_two_names : goal.returns-clause-file_with_two_names
unfolding number_in made_block clear_bits group_bytes group_of dinode_bytes dinode_of numbers_in slots_in reading_of claims_of finding_of verdict_of
returns-clause-file_with_two_names c = refl

pub returns-clause-dot_not_counted : goal.returns-clause-dot_not_counted
unfolding number_in made_block clear_bits group_bytes group_of dinode_bytes dinode_of numbers_in slots_in reading_of claims_of finding_of verdict_of
returns-clause-dot_not_counted c = refl

pub returns-clause-dot_dot_not_counted : goal.returns-clause-dot_dot_not_counted
unfolding number_in made_block clear_bits group_bytes group_of dinode_bytes dinode_of numbers_in slots_in reading_of claims_of finding_of verdict_of
returns-clause-dot_dot_not_counted c = refl

pub returns-clause-dot_again : goal.returns-clause-dot_again
unfolding number_in made_block clear_bits group_bytes group_of dinode_bytes dinode_of numbers_in slots_in reading_of claims_of finding_of verdict_of
returns-clause-dot_again c = refl

pub returns-clause-file_above : goal.returns-clause-file_above
unfolding number_in made_block clear_bits group_bytes group_of dinode_bytes dinode_of numbers_in slots_in reading_of claims_of finding_of verdict_of
returns-clause-file_above c = refl
