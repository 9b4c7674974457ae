use Rattle.std.proofs.Common.{arith}
use Rattle.inode_table.proofs.Rows.{row_by_members}
use Rattle.inode_table.proofs.numbers.get_numbers.Goals as goal

pub returns-clause-value : goal.returns-clause-value
returns-clause-value g c = row_by_members g.row.N c.args.at c.args.bytes.now c.loop-i.numbers c.loop-i.invariant.0 (λ k below. c.loop-i.invariant.1 k (omega arith))
