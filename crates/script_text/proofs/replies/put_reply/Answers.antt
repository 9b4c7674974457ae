use Rattle.std.proofs.Common.{arith}
use Rattle.history_model.specs.ReplyText.{text_of_reply}
use Rattle.script_text.proofs.LengthLemmas.{read_is_short}
use Rattle.script_text.proofs.replies.put_reply.Goals as goal

pub returns-in-Read-clause-short : goal.returns-in-Read-clause-short
unfolding text_of_reply
returns-in-Read-clause-short g c = rw c.in-Read.is (λ short. let read = read_is_short c.in-Read.bytes short in omega (arith, read))
