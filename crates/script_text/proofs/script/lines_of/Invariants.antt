use Rattle.std.proofs.Common.{◌≡◌, ◌≤◌, ◌+◌, ◌++◌, length}
use Rattle.history_model.specs.Lines.{lines_of, texts_in}
use Rattle.script_text.proofs.ScriptLemmas.{lines_from}
use Rattle.script_text.proofs.script.lines_of.Given as goal

abbrev pub invariant-lines : goal.invariant-lines
invariant-lines l = record {
  lines : lines_of l.fn.script ≡ l.lines.items ++ lines_from (l.count + 1) (texts_in l.rest);
  count : length (texts_in l.fn.script) ≡ l.count + length (texts_in l.rest);
  within : l.count ≤ l.limit;
}

abbrev pub decreases-lines : goal.decreases-lines
decreases-lines l = length l.rest
