use Rattle.std.proofs.Common.{take}
use Rattle.history_model.specs.ReplyText.{hex_text}
use Rattle.script_text.specs.Output.{Puts}
use Rattle.script_text.proofs.replies.put_hex.Given as goal

abbrev pub invariant-loop-b : goal.invariant-loop-b
invariant-loop-b g l = Puts (hex_text (take l.b-index l.bytes)) (g.O.Output.told l.fn.out) (g.O.Output.told l.out)
