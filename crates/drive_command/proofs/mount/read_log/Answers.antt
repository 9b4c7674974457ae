use Rattle.std.proofs.Common.{Ok, Err, sym, subst}
use Rattle.std.specs.Prelude.{IfSome}
use Rattle.volume_model.specs.Format.{Image}
use Rattle.volume_model.specs.Log.{log_of}
use Rattle.log_scan.specs.Answers.{IsScan}
use Rattle.drive_command.specs.declared.mount.MountError.{MountError}
use Rattle.drive_command.specs.Volume.{IsHeaderRead, IsLogRead, unlisted}
use Rattle.drive_command.proofs.VolumeSteps.{if_then, if_both, header_refused, log_refused}
use Rattle.drive_command.proofs.mount.read_log.Goals as goal

pub returns-in-Err-clause-log : goal.returns-in-Err-clause-log
returns-in-Err-clause-log g c =
    let k = c.args.g.now in
    if_then (λ (i : Image). IsHeaderRead k i (Err c.in-Err.why)) (λ (i : Image). IsLogRead k i (Err c.in-Err.why)) (g.D.Disk.told c.args.disk.now).present (λ i is. header_refused k i c.in-Err.why is) c.in-Err.ensures.header

pub returns-in-Err-scan-clause-log : goal.returns-in-Err-scan-clause-log
returns-in-Err-scan-clause-log g c =
    let k = c.args.g.now in
    let present = (g.D.Disk.told c.args.disk.now).present in
    let error = c.in-Err-scan.error in
    subst (λ (why : MountError). IfSome present (λ image. IsLogRead k image (Err why))) (sym c.unlisted.ensures)
    (if_both (λ (i : Image). IsHeaderRead k i (Ok c.in-Ok.header)) (λ (i : Image). IsScan (log_of k i) (Err error)) (λ (i : Image). IsLogRead k i (Err (unlisted error)))
    (g.D.Disk.told c.read_log_header.new.disk).present present c.in-Ok.ensures.unwritten.content
    (λ i header scan. log_refused k i c.in-Ok.header error c.in-Ok.ensures.epoch header scan) c.in-Ok.ensures.header c.in-Err-scan.ensures.log)
