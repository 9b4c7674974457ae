use Rattle.std.proofs.Common.{ap, List, ℕ}
use Rattle.script_text.specs.Requests.{asked_by}
use Rattle.history_model.specs.Lines.{request_in}
use Rattle.script_text.proofs.RequestLemmas.{first_and_rest, ok_as}
use Rattle.script_text.proofs.lines.request_in.Goals as goal

pub returns-in-len1-up : goal.returns-in-len1-up
returns-in-len1-up c = ok_as c.request_with.result (ap (λ (words : List (List ℕ)). asked_by (request_in words)) (first_and_rest c.args.words.now _ c.in-len1-up.len_at_least)) c.request_with.ensures
