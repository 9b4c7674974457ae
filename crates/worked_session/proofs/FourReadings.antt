-- What is read of the worked volume after each of the four changes.
use Rattle.std.proofs.Common.{◌≡◌, refl}
use Rattle.lufs_base.specs.Fields.{number_in}
use Rattle.volume_model.specs.Format.{Blocks, super_bytes, group_bytes, dinode_bytes, clear_bits, group_of, dinode_of, numbers_in, slots_in}
use Rattle.volume_model.specs.MkfsImage.{made_block}
use Rattle.volume_model.specs.Log.{header_bytes}
use Rattle.volume_model.specs.Sound.{reading_of}
use Rattle.volume_model.specs.Worked.{smallest}
use Rattle.history_laws.specs.WorkedSession.{volume_as_made}
use Rattle.worked_session.specs.FourChanges.{mkdir_change, rmdir_change, create_change, write_change, new_reading, reading_of_directory, reading_of_file, reading_of_letters}
use Rattle.worked_session.proofs.LaidEach.{laid_each}

-- the blocks after each change; those of the new volume are as they were made
unfoldable pub blocks_of_directory : Blocks
blocks_of_directory = laid_each volume_as_made mkdir_change.deltas

pub new_is_read : reading_of smallest volume_as_made ≡ new_reading
unfolding number_in made_block super_bytes header_bytes clear_bits group_bytes group_of dinode_bytes dinode_of numbers_in slots_in reading_of
new_is_read = refl

pub directory_is_read : reading_of smallest blocks_of_directory ≡ reading_of_directory
unfolding blocks_of_directory number_in made_block super_bytes header_bytes clear_bits group_bytes group_of dinode_bytes dinode_of numbers_in slots_in reading_of
directory_is_read = refl

unfoldable pub blocks_of_removal : Blocks
blocks_of_removal = laid_each blocks_of_directory rmdir_change.deltas

pub removal_is_read : reading_of smallest blocks_of_removal ≡ new_reading
unfolding blocks_of_removal blocks_of_directory number_in made_block super_bytes header_bytes clear_bits group_bytes group_of dinode_bytes dinode_of numbers_in slots_in reading_of
removal_is_read = refl

unfoldable pub blocks_of_file : Blocks
blocks_of_file = laid_each blocks_of_removal create_change.deltas

pub file_is_read : reading_of smallest blocks_of_file ≡ reading_of_file
unfolding blocks_of_file blocks_of_removal blocks_of_directory number_in made_block super_bytes header_bytes clear_bits group_bytes group_of dinode_bytes dinode_of numbers_in slots_in reading_of
file_is_read = refl

unfoldable pub blocks_of_letters : Blocks
blocks_of_letters = laid_each blocks_of_file write_change.deltas

pub letters_are_read : reading_of smallest blocks_of_letters ≡ reading_of_letters
unfolding blocks_of_letters blocks_of_file blocks_of_removal blocks_of_directory number_in made_block super_bytes header_bytes clear_bits group_bytes group_of dinode_bytes dinode_of numbers_in slots_in reading_of
letters_are_read = refl
