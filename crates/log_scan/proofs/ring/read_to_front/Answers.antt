use Rattle.std.proofs.Common.{◌≡◌, ◌*◌, length, drop, arith, length-take}
use Rattle.log_scan.proofs.RowsTold.{front_read}
use Rattle.log_scan.proofs.ring.read_to_front.Goals as goal

pub returns-clause-bytes : goal.returns-clause-bytes
returns-clause-bytes g c =
    let n = 512 * c.args.count in
    let size : length c.read.new.out ≡ 512 * c.args.count = omega (arith, c.read.auto.out, length-take n c.args.out.now, c.requires.room) in
    front_read c.read.result (g.D.Disk.told c.args.disk.now).present c.args.first c.args.count c.read.new.out (drop n c.args.out.now) size c.read.ensures.bytes
