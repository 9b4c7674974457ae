use Rattle.std.proofs.Common.{arith}
use Rattle.log_scan.proofs.RowsTold.{shown_told}
use Rattle.log_scan.proofs.ring.Piece.goes_on.Goals as goal

pub returns-clause-value : goal.returns-clause-value
returns-clause-value g c =
    shown_told c.args.g.now c.args.header.now.head c.args.header.now.epoch c.args.tid c.args.i (g.D.Disk.told c.args.disk.now).present c.show.new.self c.sector.result.now c.belongs_to.result
    c.in_ok-show.ensures.held c.in_ok-show.ensures.shown (omega arith) c.sector.ensures.value c.belongs_to.ensures.value
