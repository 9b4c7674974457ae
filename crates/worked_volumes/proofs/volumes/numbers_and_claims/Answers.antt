use Rattle.std.proofs.Common.{refl}
use Rattle.lufs_base.specs.Fields.{number_in}
use Rattle.volume_model.specs.MkfsImage.{made_block}
use Rattle.volume_model.specs.Format.{clear_bits, group_bytes, dinode_bytes, numbers_in}
use Rattle.worked_volumes.proofs.volumes.numbers_and_claims.Goals as goal

pub returns-clause-no_pointer_block : goal.returns-clause-no_pointer_block
unfolding number_in made_block clear_bits group_bytes dinode_bytes numbers_in
returns-clause-no_pointer_block c = refl

pub returns-clause-pointer_block_of_zeros : goal.returns-clause-pointer_block_of_zeros
unfolding number_in made_block clear_bits group_bytes dinode_bytes numbers_in
returns-clause-pointer_block_of_zeros c = refl

pub returns-clause-claims : goal.returns-clause-claims
unfolding number_in made_block clear_bits group_bytes dinode_bytes numbers_in
returns-clause-claims c = refl
