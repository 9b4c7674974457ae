-- Each of the four changes is one that a store may take: by tests on the blocks of the volume.
use Rattle.std.proofs.Common.{◌≡◌, ℕ, Bool, false, ◌||◌, [], refl}
use Rattle.std.specs.Prelude.{None}
use Rattle.volume_model.specs.Format.{clear_bits, group_bytes, dinode_bytes}
use Rattle.volume_model.specs.Sound.{is_among, claims_of, metadata_length, finding_of}
use Rattle.volume_model.specs.Worked.{smallest}
use Rattle.meta_store.specs.declared.change.Change.{Change}
use Rattle.worked_session.specs.FourChanges.{mkdir_change, rmdir_change, create_change, write_change, new_reading, reading_of_directory, reading_of_file, reading_of_letters}
use Rattle.worked_session.proofs.Checks.{ArePassed}

-- the blocks that the transaction took: those of the change
abbrev pub taken_by : Change → ℕ → Bool
taken_by change b = false || is_among b change.taken

pub new_is_right : finding_of smallest new_reading [] ≡ None
unfolding clear_bits claims_of finding_of
new_is_right = refl

pub directory_is_right : finding_of smallest reading_of_directory [] ≡ None
unfolding clear_bits claims_of finding_of
directory_is_right = refl

pub file_is_right : finding_of smallest reading_of_file [] ≡ None
unfolding clear_bits claims_of finding_of
file_is_right = refl

pub letters_are_right : finding_of smallest reading_of_letters [] ≡ None
unfolding clear_bits claims_of finding_of
letters_are_right = refl

pub mkdir_passes : ArePassed smallest mkdir_change (taken_by mkdir_change) new_reading reading_of_directory
unfolding claims_of metadata_length group_bytes dinode_bytes
mkdir_passes = record { unwritten = refl; metadata = refl; suited = refl; grows = refl; given = refl; fresh = refl; stays = refl; comes = refl; bits = refl; freed = refl }

pub rmdir_passes : ArePassed smallest rmdir_change (taken_by rmdir_change) reading_of_directory new_reading
unfolding claims_of metadata_length group_bytes dinode_bytes
rmdir_passes = record { unwritten = refl; metadata = refl; suited = refl; grows = refl; given = refl; fresh = refl; stays = refl; comes = refl; bits = refl; freed = refl }

pub create_passes : ArePassed smallest create_change (taken_by create_change) new_reading reading_of_file
unfolding claims_of metadata_length group_bytes dinode_bytes
create_passes = record { unwritten = refl; metadata = refl; suited = refl; grows = refl; given = refl; fresh = refl; stays = refl; comes = refl; bits = refl; freed = refl }

pub write_passes : ArePassed smallest write_change (taken_by write_change) reading_of_file reading_of_letters
unfolding claims_of metadata_length group_bytes dinode_bytes
write_passes = record { unwritten = refl; metadata = refl; suited = refl; grows = refl; given = refl; fresh = refl; stays = refl; comes = refl; bits = refl; freed = refl }
