use Rattle.std.proofs.Common.{◌∷◌}
use Rattle.change_laws.proofs.OneGroup.{mark_stored}
use Rattle.change_laws.proofs.HandBits.{taken_marks}
use Rattle.change_laws.proofs.marks.hand_taken.Goals as goal

pub returns : goal.returns
returns c g r n hand hands old new ok stored within is counts of_group free put =
    mark_stored g r n new hands (hand ∷ hands) stored (taken_marks g r n hand hands old new ok within is counts of_group stored free put)
