use Rattle.std.proofs.Common.{sym, ◌∙◌}
use Rattle.script_text.specs.Words.{texts}
use Rattle.script_text.proofs.RequestLemmas.{with_mark, ok_as}
use Rattle.script_text.proofs.lines.request_with.Goals as goal

pub returns-then-begins_with : goal.returns-then-begins_with
returns-then-begins_with c =
    ok_as c.marked_request.result (with_mark c.args.word.now (texts c.args.arguments.now) (sym c.begins_with.ensures ∙ c.if-begins_with.true)) c.marked_request.ensures
