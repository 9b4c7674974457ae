use Rattle.std.proofs.Common.{Err, refl, ap}
use Rattle.lufs_top.specs.Borrowed.{not_lent, read}
use Rattle.lufs_top.proofs.CommandSteps.{lent_and_back, none_fails}
use Rattle.lufs_top.proofs.ScanSteps.{scan_stopped}
use Rattle.lufs_top.proofs.scan.scan_named.Goals as goal

pub returns-in-Err : goal.returns-in-Err
returns-in-Err g c =
    not_lent c.in-Err.error c.refused.ensures (record { none = λ missing. c.in-Err.ensures.missing (ap (λ e. Err e) missing); after = c.in-Err.ensures.after })

pub returns-in-Ok-ended : goal.returns-in-Ok-ended
returns-in-Ok-ended g c =
    let before = g.H.D.Disk.told c.in-Ok.disk in
    let now = g.H.D.Disk.told c.scan_volume-ended.new.disk in
    let outside = g.H.Host.outside in
    read before now (lent_and_back c.args.volume.now before now (outside c.args.host.now) (outside c.take_disk.new.self) (outside c.give_disk.new.self) c.in-Ok.ensures.given c.in-Ok.ensures.after c.give_disk.ensures)
    c.in-Ok-ended.ensures.unwritten (none_fails c.in-Ok-ended.ensures.failure (λ p. cc) (λ q. q)) (refl, c.in-Ok-ended.ensures.ended)

pub returns-in-Err-ended : goal.returns-in-Err-ended
returns-in-Err-ended g c =
    let before = g.H.D.Disk.told c.in-Ok.disk in
    let now = g.H.D.Disk.told c.scan_volume-ended.new.disk in
    let outside = g.H.Host.outside in
    let is = scan_stopped c.in-Err-ended.stop c.args.volume.now c.stopped.result before now c.stopped.ensures c.in-Err-ended.ensures.failure in
    read before now (lent_and_back c.args.volume.now before now (outside c.args.host.now) (outside c.take_disk.new.self) (outside c.give_disk.new.self) c.in-Ok.ensures.given c.in-Ok.ensures.after c.give_disk.ensures)
    c.in-Err-ended.ensures.unwritten is.0 is.1
