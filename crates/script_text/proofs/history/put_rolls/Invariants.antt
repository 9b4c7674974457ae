use Rattle.std.proofs.Common.{take}
use Rattle.std.specs.List.{flat_map}
use Rattle.history_model.specs.HistoryText.{roll_line}
use Rattle.script_text.specs.Output.{Puts}
use Rattle.script_text.proofs.history.put_rolls.Given as goal

abbrev pub invariant-loop-roll : goal.invariant-loop-roll
invariant-loop-roll g l = Puts (flat_map roll_line (take l.roll-index l.rolls)) (g.O.Output.told l.fn.out) (g.O.Output.told l.out)
