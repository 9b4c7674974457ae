use Rattle.std.proofs.Common.{take}
use Rattle.std.specs.List.{flat_map}
use Rattle.history_model.specs.HistoryText.{commit_line}
use Rattle.script_text.specs.Output.{Puts}
use Rattle.script_text.proofs.history.put_commits.Given as goal

abbrev pub invariant-loop-commit : goal.invariant-loop-commit
invariant-loop-commit g l = Puts (flat_map commit_line (take l.commit-index l.commits)) (g.O.Output.told l.fn.out) (g.O.Output.told l.out)
