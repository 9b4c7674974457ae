use Rattle.new_volume.proofs.Bits.{ArePut}
use Rattle.new_volume.proofs.blocks.first_bits.Given as goal

abbrev pub invariant-loop-i : goal.invariant-loop-i
invariant-loop-i g l = ArePut l.n g.row.N l.i l.bits
