use Rattle.std.proofs.Common.{refl}
use Rattle.lufs_base.specs.Fields.{number_in}
use Rattle.volume_model.specs.MkfsImage.{made_block}
use Rattle.volume_model.specs.Format.{clear_bits, group_bytes, group_of, dinode_bytes, dinode_of, numbers_in, slots_in}
use Rattle.volume_model.specs.Sound.{reading_of, claims_of, read_length, metadata_length}
use Rattle.worked_volumes.proofs.volumes.bytes_read.Goals as goal

pub returns-clause-all : goal.returns-clause-all
unfolding number_in made_block clear_bits group_bytes group_of dinode_bytes dinode_of numbers_in slots_in reading_of claims_of read_length
returns-clause-all c = refl

pub returns-clause-metadata : goal.returns-clause-metadata
unfolding number_in made_block clear_bits group_bytes group_of dinode_bytes dinode_of numbers_in slots_in reading_of claims_of metadata_length
returns-clause-metadata c = refl

pub returns-clause-large_root : goal.returns-clause-large_root
unfolding number_in made_block clear_bits group_bytes group_of dinode_bytes dinode_of numbers_in slots_in reading_of claims_of read_length
returns-clause-large_root c = refl
