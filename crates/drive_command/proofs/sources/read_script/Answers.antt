use Rattle.std.proofs.Common.{◌<◌, ℕ, List, length, Err, ap, subst}
use Rattle.history_model.specs.Lines.{texts_in}
use Rattle.drive_command.specs.Sources.{most_lines, no_source, no_lines}
use Rattle.drive_command.proofs.sources.read_script.Goals as goal

pub returns-in-Err : goal.returns-in-Err
returns-in-Err g c = no_source c.in-Err.ensures

pub returns : goal.returns
returns g c =
    no_lines c.in-Ok.script c.in-Err-lines_of.error c.in-Ok.ensures c.unparted.ensures
    (λ many. subst (λ (text : List ℕ). most_lines < length (texts_in text)) c.as_slice.ensures (c.in-Err-lines_of.ensures.too_many (ap (λ e. Err e) many)))
