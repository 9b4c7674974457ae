-- By the words between spaces.
use Rattle.call_ops.proofs.LineWords.{line_right, lines_right}
use Rattle.call_ops.proofs.laws.lines_have_right_words.Goals as goal

pub returns-clause-line : goal.returns-clause-line
returns-clause-line c = line_right

pub returns-clause-script : goal.returns-clause-script
returns-clause-script c = lines_right
