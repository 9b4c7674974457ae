use Rattle.std.proofs.Common.{◌≡◌, length, Some, None, arith}
use Rattle.log_scan.proofs.LogTold.{header_told}
use Rattle.drive_command.proofs.VolumeSteps.{if_then}
use Rattle.drive_command.proofs.mount.read_log_header.Goals as goal

pub returns-in-Err-clause-header : goal.returns-in-Err-clause-header
returns-in-Err-clause-header g c =
    let size : length c.read.new.out ≡ 512 = omega (arith, c.read.auto.out) in
    header_told c.args.g.now (g.D.Disk.told c.args.disk.now).present c.header_sector.result c.read.new.out None c.header_sector.ensures size c.in-Ok.ensures.bytes c.in-Err.ensures.value

pub returns-then-header-clause-header : goal.returns-then-header-clause-header
returns-then-header-clause-header g c =
    let size : length c.read.new.out ≡ 512 = omega (arith, c.read.auto.out) in
    if_then _ _ (g.D.Disk.told c.args.disk.now).present (λ image log. (c.in-Ok-read_header.header, log, c.if-header.true))
    (header_told c.args.g.now (g.D.Disk.told c.args.disk.now).present c.header_sector.result c.read.new.out (Some c.in-Ok-read_header.header) c.header_sector.ensures size c.in-Ok.ensures.bytes c.in-Ok-read_header.ensures.value)

pub returns-clause-header : goal.returns-clause-header
returns-clause-header g c =
    let size : length c.read.new.out ≡ 512 = omega (arith, c.read.auto.out) in
    header_told c.args.g.now (g.D.Disk.told c.args.disk.now).present c.header_sector.result c.read.new.out (Some c.in-Ok-read_header.header) c.header_sector.ensures size c.in-Ok.ensures.bytes c.in-Ok-read_header.ensures.value
