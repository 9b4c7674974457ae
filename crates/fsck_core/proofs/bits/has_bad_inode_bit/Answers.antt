use Rattle.std.proofs.Common.{◌≡◌, None, Some, slice_get, slice_index_or, arith}
use Rattle.std.proofs.lemmas.Option.{slice_get-get_or}
use Rattle.fsck_core.proofs.BitSteps.{bad_inode_bit}
use Rattle.fsck_core.proofs.bits.has_bad_inode_bit.Goals as goal

pub returns-then-i-ge2 : goal.returns-then-i-ge2
returns-then-i-ge2 c = λ blocks groups inodes.
    let i = c.args.i in
    let records = c.args.inodes.now in
    let d = slice_index_or records i None in
    let here : slice_get records i ≡ Some d = slice_get-get_or records i None (omega (arith, c.requires.inodes, c.requires.inside)) in
    bad_inode_bit c.args.g.now blocks records i d c.inode_bit.result c.is_some.result inodes c.requires.inodes here c.if-i-ge2.true (c.inode_bit.ensures blocks groups) c.is_some.ensures
