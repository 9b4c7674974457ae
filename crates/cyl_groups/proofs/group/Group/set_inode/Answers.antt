use Rattle.std.proofs.Common.{arith}
use Rattle.cyl_groups.proofs.Counts.{one_less}
use Rattle.cyl_groups.proofs.group.Group.set_inode.Goals as goal

pub overflow_sub-self : goal.overflow_sub-self
overflow_sub-self c =
    let x = c.args.self.now in
    let step = one_less c.args.i x.ipg x.inode_bits c.set.new.bits c.set.ensures c.requires.free c.requires.range in
    omega arith

pub returns-clause-count : goal.returns-clause-count
returns-clause-count c =
    let x = c.args.self.now in
    let step = one_less c.args.i x.ipg x.inode_bits c.set.new.bits c.set.ensures c.requires.free c.requires.range in
    omega arith

pub returns-clause-counted : goal.returns-clause-counted
returns-clause-counted c =
    let x = c.args.self.now in
    let step = one_less c.args.i x.ipg x.inode_bits c.set.new.bits c.set.ensures c.requires.free c.requires.range in
    record { inodes = omega arith; blocks = c.requires.counted.blocks }
