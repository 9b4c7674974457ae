-- By what each edit changes of the links and the sizes, and by the words of a line.
use Rattle.history_rules.proofs.LinkRangeLaws.{links_kept}
use Rattle.history_rules.proofs.SizeLaws.{sizes_kept}
use Rattle.history_rules.proofs.TextLaws.{request_text}
use Rattle.history_rules.proofs.laws.numbers_stay_in_range.Goals as goal

pub returns-clause-links : goal.returns-clause-links
returns-clause-links c = links_kept

pub returns-clause-sizes : goal.returns-clause-sizes
returns-clause-sizes c = sizes_kept

pub returns-clause-texts : goal.returns-clause-texts
returns-clause-texts c = request_text
