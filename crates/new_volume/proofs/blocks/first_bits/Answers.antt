use Rattle.new_volume.proofs.Bits.{one_more, all_put}
use Rattle.new_volume.proofs.blocks.first_bits.Goals as goal

pub loop-i-preserved : goal.loop-i-preserved
loop-i-preserved g c = one_more c.args.n g.row.N c.loop-i.i c.first_byte.result c.loop-i.bits c.loop-i-test.true c.first_byte.ensures c.loop-i.invariant

pub returns : goal.returns
returns g c = all_put c.args.n g.row.N c.loop-i.i c.loop-i.bits c.loop-i-test.false c.loop-i.invariant
