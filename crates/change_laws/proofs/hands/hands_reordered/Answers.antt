use Rattle.change_laws.proofs.SameHands.{hold_of_permutation, hold_of_both, hold_swapped, hold_to_front, hold_of_blocks}
use Rattle.change_laws.proofs.hands.hands_reordered.Goals as goal

pub returns-clause-joined : goal.returns-clause-joined
returns-clause-joined c = hold_of_both

pub returns-clause-swapped : goal.returns-clause-swapped
returns-clause-swapped c = hold_swapped

pub returns-clause-to_front : goal.returns-clause-to_front
returns-clause-to_front c = hold_to_front

pub returns-clause-permuted : goal.returns-clause-permuted
returns-clause-permuted c = hold_of_permutation

pub returns-clause-blocks : goal.returns-clause-blocks
returns-clause-blocks c = hold_of_blocks
