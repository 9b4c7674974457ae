use Rattle.std.proofs.Common.{◌∙◌, ap}
use Rattle.lufs_top.specs.Run.{whole, cut, status_if_cut}
use Rattle.lufs_top.proofs.report.report.Goals as goal

pub returns-in-Ok : goal.returns-in-Ok
returns-in-Ok g c = whole c.status.ensures c.in-Ok.ensures.ok

pub returns-in-Err : goal.returns-in-Err
returns-in-Err g c =
    let put = c.in-Err.ensures.err in
    cut put.0 (c.status_if_cut.ensures ∙ ap status_if_cut c.status-in-Err.ensures) put.1
