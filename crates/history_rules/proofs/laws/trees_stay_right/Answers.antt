-- By what each call changes of the names.
use Rattle.history_rules.proofs.AfterRightLaws.{right_after}
use Rattle.history_rules.proofs.laws.trees_stay_right.Goals as goal

pub returns : goal.returns
returns c = right_after
