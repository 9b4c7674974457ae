use Rattle.history_model.specs.Edits.{edited}
use Rattle.dir_ops.proofs.edits.replace.Goals as goal

pub returns-clause-drawn : goal.returns-clause-drawn
unfolding edited
returns-clause-drawn g c = λ some. c.change_slot.ensures.drawn
