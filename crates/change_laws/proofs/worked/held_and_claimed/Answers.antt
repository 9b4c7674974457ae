use Rattle.std.proofs.Common.{refl, arith}
use Rattle.lufs_base.specs.Fields.{number_in}
use Rattle.volume_model.specs.MkfsImage.{made_block}
use Rattle.volume_model.specs.Format.{clear_bits, group_bytes, group_of, dinode_bytes, dinode_of, numbers_in, slots_in}
use Rattle.volume_model.specs.Sound.{reading_of}
use Rattle.change_laws.proofs.worked.held_and_claimed.Goals as goal

pub returns-clause-claimed : goal.returns-clause-claimed
unfolding number_in made_block clear_bits group_bytes dinode_bytes numbers_in
returns-clause-claimed c = refl

pub returns-clause-made : goal.returns-clause-made
unfolding number_in made_block clear_bits group_bytes group_of dinode_bytes dinode_of numbers_in slots_in reading_of
returns-clause-made c = record {
  within = omega arith;
  right = record { usable = omega arith; numbers = refl; chunks = refl };
  blocks = λ b. refl;
  inodes = λ i. refl;
}

pub returns-clause-freed : goal.returns-clause-freed
unfolding number_in made_block clear_bits group_bytes group_of dinode_bytes dinode_of numbers_in slots_in reading_of
returns-clause-freed c = record {
  within = omega arith;
  right = tt;
  blocks = λ b. refl;
  inodes = λ i. refl;
}
