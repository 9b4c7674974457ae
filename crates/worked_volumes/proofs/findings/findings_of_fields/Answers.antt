use Rattle.std.proofs.Common.{refl}
use Rattle.lufs_base.specs.Fields.{number_in}
use Rattle.volume_model.specs.MkfsImage.{made_block}
use Rattle.volume_model.specs.Format.{clear_bits, group_bytes, group_of, dinode_bytes, dinode_of, numbers_in, slots_in}
use Rattle.volume_model.specs.Sound.{reading_of, claims_of, finding_of, verdict_of}
use Rattle.worked_volumes.proofs.findings.findings_of_fields.Goals as goal

pub returns-clause-no_links : goal.returns-clause-no_links
unfolding number_in made_block clear_bits group_bytes group_of dinode_bytes dinode_of numbers_in slots_in reading_of claims_of finding_of verdict_of
returns-clause-no_links c = refl

pub returns-clause-most_links : goal.returns-clause-most_links
unfolding number_in made_block clear_bits group_bytes group_of dinode_bytes dinode_of numbers_in slots_in reading_of claims_of finding_of verdict_of
returns-clause-most_links c = refl

pub returns-clause-more_links : goal.returns-clause-more_links
unfolding number_in made_block clear_bits group_bytes group_of dinode_bytes dinode_of numbers_in slots_in reading_of claims_of finding_of verdict_of
returns-clause-more_links c = refl

pub returns-clause-largest_file : goal.returns-clause-largest_file
unfolding number_in made_block clear_bits group_bytes group_of dinode_bytes dinode_of numbers_in slots_in reading_of claims_of finding_of verdict_of
returns-clause-largest_file c = refl

pub returns-clause-larger_file : goal.returns-clause-larger_file
unfolding number_in made_block clear_bits group_bytes group_of dinode_bytes dinode_of numbers_in slots_in reading_of claims_of finding_of verdict_of
returns-clause-larger_file c = refl

pub returns-clause-empty_directory : goal.returns-clause-empty_directory
unfolding number_in made_block clear_bits group_bytes group_of dinode_bytes dinode_of numbers_in slots_in reading_of claims_of finding_of verdict_of
returns-clause-empty_directory c = refl

pub returns-clause-largest_directory : goal.returns-clause-largest_directory
returns-clause-largest_directory c = refl

pub returns-clause-larger_directory : goal.returns-clause-larger_directory
returns-clause-larger_directory c = refl

pub returns-clause-half_a_chunk : goal.returns-clause-half_a_chunk
unfolding number_in made_block clear_bits group_bytes group_of dinode_bytes dinode_of numbers_in slots_in reading_of claims_of finding_of verdict_of
returns-clause-half_a_chunk c = refl

pub returns-clause-link_without_text : goal.returns-clause-link_without_text
unfolding number_in made_block clear_bits group_bytes group_of dinode_bytes dinode_of numbers_in slots_in reading_of claims_of finding_of verdict_of
returns-clause-link_without_text c = refl

pub returns-clause-longest_link : goal.returns-clause-longest_link
unfolding number_in made_block clear_bits group_bytes group_of dinode_bytes dinode_of numbers_in slots_in reading_of claims_of finding_of verdict_of
returns-clause-longest_link c = refl

pub returns-clause-longer_link : goal.returns-clause-longer_link
unfolding number_in made_block clear_bits group_bytes group_of dinode_bytes dinode_of numbers_in slots_in reading_of claims_of finding_of verdict_of
returns-clause-longer_link c = refl

pub returns-clause-last_block : goal.returns-clause-last_block
unfolding number_in made_block clear_bits group_bytes group_of dinode_bytes dinode_of numbers_in slots_in reading_of claims_of finding_of verdict_of
returns-clause-last_block c = refl

pub returns-clause-block_past_the_volume : goal.returns-clause-block_past_the_volume
unfolding number_in made_block clear_bits group_bytes group_of dinode_bytes dinode_of numbers_in slots_in reading_of claims_of finding_of verdict_of
returns-clause-block_past_the_volume c = refl

pub returns-clause-block_of_inodes : goal.returns-clause-block_of_inodes
unfolding number_in made_block clear_bits group_bytes group_of dinode_bytes dinode_of numbers_in slots_in reading_of claims_of finding_of verdict_of
returns-clause-block_of_inodes c = refl

pub returns-clause-block_past_the_size : goal.returns-clause-block_past_the_size
unfolding number_in made_block clear_bits group_bytes group_of dinode_bytes dinode_of numbers_in slots_in reading_of claims_of finding_of verdict_of
returns-clause-block_past_the_size c = refl

pub returns-clause-hole_in_a_file : goal.returns-clause-hole_in_a_file
unfolding number_in made_block clear_bits group_bytes group_of dinode_bytes dinode_of numbers_in slots_in reading_of claims_of finding_of verdict_of
returns-clause-hole_in_a_file c = refl

pub returns-clause-hole_in_a_directory : goal.returns-clause-hole_in_a_directory
unfolding number_in made_block clear_bits group_bytes group_of dinode_bytes dinode_of numbers_in slots_in reading_of claims_of finding_of verdict_of
returns-clause-hole_in_a_directory c = refl

pub returns-clause-hole_in_a_link : goal.returns-clause-hole_in_a_link
unfolding number_in made_block clear_bits group_bytes group_of dinode_bytes dinode_of numbers_in slots_in reading_of claims_of finding_of verdict_of
returns-clause-hole_in_a_link c = refl

pub returns-clause-block_not_counted : goal.returns-clause-block_not_counted
unfolding number_in made_block clear_bits group_bytes group_of dinode_bytes dinode_of numbers_in slots_in reading_of claims_of finding_of verdict_of
returns-clause-block_not_counted c = refl

pub returns-clause-hole_counted : goal.returns-clause-hole_counted
unfolding number_in made_block clear_bits group_bytes group_of dinode_bytes dinode_of numbers_in slots_in reading_of claims_of finding_of verdict_of
returns-clause-hole_counted c = refl

pub returns-clause-root_counts_two_blocks : goal.returns-clause-root_counts_two_blocks
unfolding number_in made_block clear_bits group_bytes group_of dinode_bytes dinode_of numbers_in slots_in reading_of claims_of finding_of verdict_of
returns-clause-root_counts_two_blocks c = refl
