use Rattle.std.proofs.Common.{ℕ, ◌-◌, length, ap, ◌∙◌}
use Rattle.history_model.specs.HistoryText.{told_count, session_text_of}
use Rattle.script_text.specs.HistoryParts.{summary_line}
use Rattle.script_text.specs.Output.{Told}
use Rattle.script_text.proofs.PutLemmas.{puts_as, taken}
use Rattle.script_text.proofs.history.session_text.Goals as goal

pub returns : goal.returns
unfolding session_text_of
returns c =
    let told = told_count c.args.entries.now in
    let commits = length c.args.commits.now in
    let rolls = length c.args.rolls.now in
    let counted = c.told_count-told.ensures in
    taken c.into_bytes.result (ap (λ (t : Told). t.text) c.new-out.ensures)
    (puts_as
    (ap (λ (n : ℕ). summary_line n c.saturating_sub-left.result commits rolls) counted
    ∙ ap (λ (n : ℕ). summary_line told n commits rolls) (c.saturating_sub-left.ensures ∙ ap (λ (n : ℕ). c.args.lines - n) counted))
    c.put_summary.ensures)
    c.into_bytes.ensures.whole c.into_bytes.ensures.text
