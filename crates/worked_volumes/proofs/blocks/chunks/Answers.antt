use Rattle.std.proofs.Common.{refl}
use Rattle.lufs_base.specs.Fields.{number_in}
use Rattle.volume_model.specs.Format.{slots_in}
use Rattle.worked_volumes.proofs.blocks.chunks.Goals as goal

pub returns-clause-read : goal.returns-clause-read
unfolding number_in slots_in
returns-clause-read c = refl

pub returns-clause-written : goal.returns-clause-written
unfolding number_in slots_in
returns-clause-written c = refl

pub returns-clause-odd_length : goal.returns-clause-odd_length
unfolding number_in slots_in
returns-clause-odd_length c = refl

pub returns-clause-room : goal.returns-clause-room
unfolding number_in slots_in
returns-clause-room c = refl

pub returns-clause-entered : goal.returns-clause-entered
unfolding number_in slots_in
returns-clause-entered c = refl

pub returns-clause-found : goal.returns-clause-found
unfolding number_in slots_in
returns-clause-found c = refl

pub returns-clause-removed : goal.returns-clause-removed
unfolding number_in slots_in
returns-clause-removed c = refl

pub returns-clause-first_removed : goal.returns-clause-first_removed
unfolding number_in slots_in
returns-clause-first_removed c = refl
