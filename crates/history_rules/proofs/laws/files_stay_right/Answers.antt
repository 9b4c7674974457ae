-- By what each edit puts.
use Rattle.history_rules.proofs.RightFileLaws.{files_right}
use Rattle.history_rules.proofs.laws.files_stay_right.Goals as goal

pub returns : goal.returns
returns c = files_right
