use Rattle.std.proofs.Common.{◌<◌, ◌≤◌, ℕ, arith}
use Rattle.volume_model.specs.Format.{inodes_of}
use Rattle.cyl_groups.specs.Group.{record_of}
use Rattle.block_alloc.proofs.HandPut.{of_inode, inode_at_place, marked_inode}
use Rattle.block_alloc.proofs.marks.mark_inode.Goals as goal

pub put_inode-requires-clause-usable : goal.put_inode-requires-clause-usable
put_inode-requires-clause-usable c =
    let g = c.args.g.now in
    let i = c.in-Some.i in
    let usable = of_inode (λ (j : ℕ). (2 ≤ j) × (j < inodes_of g)) c.args.hand.now i c.in-Some.is c.requires.hand.usable in
    omega (arith, usable.0, inode_at_place g i c.args.group.now.number c.if-i-g.true)

pub returns-then-i-g-clause-put : goal.returns-then-i-g-clause-put
returns-then-i-g-clause-put c =
    let old = c.args.group.now in
    marked_inode c.args.g.now c.in-Some.i old.number c.args.hand.now.inode (record_of old) (record_of c.put_inode.new.group) c.in-Some.is c.if-i-g.true c.put_inode.ensures.put
