use Rattle.std.proofs.Common.{take}
use Rattle.std.specs.List.{flat_map}
use Rattle.history_model.specs.ReplyText.{after_space}
use Rattle.script_text.specs.Output.{Puts}
use Rattle.script_text.proofs.replies.put_each_name.Given as goal

abbrev pub invariant-loop-name : goal.invariant-loop-name
invariant-loop-name g l = Puts (flat_map after_space (take l.name-index l.names)) (g.O.Output.told l.fn.out) (g.O.Output.told l.out)
