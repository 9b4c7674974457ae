use Rattle.std.proofs.Common.{◌∷◌}
use Rattle.change_laws.proofs.OneGroup.{mark_stored}
use Rattle.change_laws.proofs.HandBits.{back_marks}
use Rattle.change_laws.proofs.marks.hand_put_back.Goals as goal

pub returns : goal.returns
returns c g r n hand hands old new ok stored within is counts of_group put =
    mark_stored g r n new (hand ∷ hands) hands stored (back_marks g r n hand hands old new ok within is counts of_group stored put)
