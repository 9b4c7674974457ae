use Rattle.std.proofs.Common.{ℕ, ◌*◌, ap, arith}
use Rattle.block_alloc.proofs.HandPut.{inode_at_place}
use Rattle.block_alloc.proofs.PartReturns.{inode_returns}
use Rattle.block_alloc.proofs.returning.without_inode.Goals as goal

pub put_inode-requires-clause-usable : goal.put_inode-requires-clause-usable
put_inode-requires-clause-usable c =
    let g = c.args.g.now in
    let i = c.args.i in
    let row = ap (λ (k : ℕ). k * g.ipg) c.counted-cleared.ensures.number in
    omega (arith, c.requires.usable, inode_at_place g i c.args.group.now.number c.requires.its_group, row)

pub returns-clause-returns : goal.returns-clause-returns
returns-clause-returns c =
    let x = c.args.group.now in
    inode_returns c.args.g.now c.args.i x.number x c.counted-cleared.result c.put_inode.new.group c.requires.geometry c.requires.within
    c.requires.its_group c.counted-cleared.ensures.number c.counted-cleared.ensures.inode_bits c.counted-cleared.ensures.block_bits c.put_inode.ensures.group
    c.put_inode.ensures.put
