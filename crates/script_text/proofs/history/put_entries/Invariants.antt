use Rattle.std.proofs.Common.{take}
use Rattle.std.specs.List.{flat_map}
use Rattle.history_model.specs.HistoryText.{entry_line}
use Rattle.script_text.specs.Output.{Puts}
use Rattle.script_text.proofs.history.put_entries.Given as goal

abbrev pub invariant-loop-entry : goal.invariant-loop-entry
invariant-loop-entry g l = Puts (flat_map (entry_line l.before) (take l.entry-index l.entries)) (g.O.Output.told l.fn.out) (g.O.Output.told l.out)
