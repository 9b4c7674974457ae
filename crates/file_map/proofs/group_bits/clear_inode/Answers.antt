use Rattle.std.proofs.Common.{◌<◌, ◌≤◌, ◌%◌, [], false, Option, IfSome, sym, subst, arith}
use Rattle.lufs_base.specs.declared.numbers.Ino.{Ino}
use Rattle.change_laws.specs.Marks.{HasHandPut}
use Rattle.cyl_groups.specs.Group.{record_of}
use Rattle.file_map.specs.Freed.{hand_of, IsInodeOf}
use Rattle.file_map.proofs.ClearedBits.{inode_at_place, inode_cleared}
use Rattle.file_map.proofs.CountedGroups.{inode_left}
use Rattle.file_map.proofs.group_bits.clear_inode.Goals as goal

pub returns-then-is_set-clause-group : goal.returns-then-is_set-clause-group
returns-then-is_set-clause-group c =
    let g = c.args.g.now in
    let old = c.args.group.now in
    let i = c.in-Some.i in
    let of_group = subst (λ (o : Option Ino). IfSome o (IsInodeOf g old.number)) c.in-Some.is c.requires.inode in
    let below : i.0 % g.ipg < g.ipg = search arith in
    inode_left g old c.clear_inode.new.self (i.0 % g.ipg) c.requires.geometry c.requires.group c.clear_inode.ensures.counted c.clear_inode.ensures.bit c.clear_inode.ensures.others
    (omega (arith, of_group.0, inode_at_place g i.0 old.number of_group.1)) below c.are_bytes.ensures.size c.are_bytes.ensures.bytes

pub returns-then-is_set-clause-put : goal.returns-then-is_set-clause-put
returns-then-is_set-clause-put c =
    let g = c.args.g.now in
    let old = c.args.group.now in
    let new = c.clear_inode.new.self in
    let i = c.in-Some.i in
    let of_group = subst (λ (o : Option Ino). IfSome o (IsInodeOf g old.number)) c.in-Some.is c.requires.inode in
    subst (λ (o : Option Ino). HasHandPut g old.number false (hand_of o []) (record_of old) (record_of new)) (sym c.in-Some.is)
    (inode_cleared g i.0 old.number (record_of old) (record_of new) of_group.1 (record { bit = c.clear_inode.ensures.bit.bit; others = c.clear_inode.ensures.bit.others })
    c.clear_inode.ensures.others.block_bits)
