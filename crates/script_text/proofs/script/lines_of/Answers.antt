-- The lines that are read and those of what is left are the lines of the script.
use Rattle.std.proofs.Common.{◌≡◌, ◌++◌, ◌∙◌, ◌+◌, length, arith, sym}
use Rattle.history_model.specs.Lines.{lines_of, texts_in}
use Rattle.script_text.proofs.ScriptLemmas.{begun, some_lines, lines_from, not_empty, line_more, one_less}
use Rattle.script_text.proofs.script.lines_of.Goals as goal

pub lines-init : goal.lines-init
lines-init c = record { lines = rw (c.new-lines.ensures.items) (begun c.args.script.now); count = omega (arith); within = omega (arith) }

pub returns-then-count-limit-clause-too_many : goal.returns-then-count-limit-clause-too_many
returns-then-count-limit-clause-too_many c =
    let some = some_lines c.lines.rest.now (not_empty c.lines.rest.now (sym c.lines-test.true ∙ c.is_empty.ensures)) in
    λ same. omega (arith, some, c.lines.invariant.count, c.if-count-limit.true)

pub lines-preserved : goal.lines-preserved
lines-preserved c =
    let some = not_empty c.lines.rest.now (sym c.lines-test.true ∙ c.is_empty.ensures) in
    let less = one_less c.end_of_line-end.result c.lines.rest.now c.after_line-rest.result.now some c.end_of_line-end.ensures c.after_line-rest.ensures in
    record {
      lines = line_more _ c.lines.lines.items c.add_line.new.lines.items (c.lines.count + 1) c.end_of_line-end.result c.lines.rest.now c.after_line-rest.result.now some
          c.end_of_line-end.ensures c.after_line-rest.ensures c.lines.invariant.lines c.in_ok-add_line.ensures;
      count = omega (arith, less, c.lines.invariant.count);
      within = omega (arith, c.lines.invariant.within, c.if-count-limit.false);
    }
