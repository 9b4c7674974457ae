use Rattle.std.proofs.Common.{◌+◌, ◌*◌, refl, arith}
use Rattle.log_format.proofs.SectorSteps.{sector_made}
use Rattle.log_format.proofs.transaction.make_sector.Goals as goal

pub returns : goal.returns
returns c =
    sector_made c.args.out.now c.copy_within.new.self c.write_trailer.new.out c.args.trailer.now c.args.i _ (504 * c.args.i + 504) (omega arith) (omega arith) refl
    c.copy_within.ensures.after c.write_trailer.ensures
