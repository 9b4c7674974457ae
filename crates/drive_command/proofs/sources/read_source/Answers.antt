use Rattle.std.proofs.Common.{Err, ap}
use Rattle.drive_command.specs.Sources.{not_lent, unread}
use Rattle.drive_command.proofs.sources.read_source.Goals as goal

pub returns-in-Err : goal.returns-in-Err
returns-in-Err g c =
    not_lent c.in-Err.error c.source_refused.ensures (λ missing. c.in-Err.ensures.missing (ap (λ e. Err e) missing)) c.in-Err.ensures.after

pub returns : goal.returns
returns g c =
    unread c.in-Err-read_whole.error (g.H.S.Source.told c.in-Ok.source) (g.H.S.Source.told c.read_whole.new.source) c.unread.ensures
    (record { given = c.in-Ok.ensures.given; after = c.in-Ok.ensures.after }) c.in-Err-read_whole.ensures
