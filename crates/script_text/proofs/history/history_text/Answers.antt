use Rattle.std.proofs.Common.{ap}
use Rattle.history_model.specs.HistoryText.{history_text_of}
use Rattle.script_text.specs.Output.{Told}
use Rattle.script_text.proofs.PutLemmas.{puts_both, taken}
use Rattle.script_text.proofs.history.history_text.Goals as goal

pub returns : goal.returns
unfolding history_text_of
returns c =
    taken c.into_bytes.result (ap (λ (t : Told). t.text) c.new-out.ensures)
    (puts_both c.put_session.ensures (puts_both c.put_entries.ensures (puts_both c.put_commits.ensures c.put_rolls.ensures)))
    c.into_bytes.ensures.whole c.into_bytes.ensures.text
