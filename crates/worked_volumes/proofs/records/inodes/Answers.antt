use Rattle.std.proofs.Common.{refl}
use Rattle.lufs_base.specs.Fields.{number_in}
use Rattle.volume_model.specs.Format.{numbers_in, dinode_of, dinode_bytes}
use Rattle.worked_volumes.proofs.records.inodes.Goals as goal

pub returns-clause-root : goal.returns-clause-root
unfolding number_in numbers_in dinode_of dinode_bytes
returns-clause-root c = refl

pub returns-clause-written : goal.returns-clause-written
unfolding number_in numbers_in dinode_of dinode_bytes
returns-clause-written c = refl

pub returns-clause-begins : goal.returns-clause-begins
unfolding number_in numbers_in dinode_of dinode_bytes
returns-clause-begins c = refl

pub returns-clause-begins_at_700 : goal.returns-clause-begins_at_700
unfolding number_in numbers_in dinode_of dinode_bytes
returns-clause-begins_at_700 c = refl

pub returns-clause-free : goal.returns-clause-free
unfolding number_in numbers_in dinode_of dinode_bytes
returns-clause-free c = refl

pub returns-clause-free_written : goal.returns-clause-free_written
unfolding number_in numbers_in dinode_of dinode_bytes
returns-clause-free_written c = refl

pub returns-clause-mode_0 : goal.returns-clause-mode_0
unfolding number_in numbers_in dinode_of dinode_bytes
returns-clause-mode_0 c = refl

pub returns-clause-other_type : goal.returns-clause-other_type
unfolding number_in numbers_in dinode_of dinode_bytes
returns-clause-other_type c = refl

pub returns-clause-bit_above_rights : goal.returns-clause-bit_above_rights
unfolding number_in numbers_in dinode_of dinode_bytes
returns-clause-bit_above_rights c = refl

pub returns-clause-third_indirect : goal.returns-clause-third_indirect
unfolding number_in numbers_in dinode_of dinode_bytes
returns-clause-third_indirect c = refl
