use Rattle.std.proofs.Common.{arith, length-take}
use Rattle.log_scan.proofs.ring.Piece.carried.Goals as goal

pub slice_bounds-result-end : goal.slice_bounds-result-end
slice_bounds-result-end c = omega (arith, length-take 504 c.sector.result.now, c.sector.ensures.size)

pub returns-clause-size : goal.returns-clause-size
returns-clause-size c = omega (arith, length-take 504 c.sector.result.now, c.sector.ensures.size)
