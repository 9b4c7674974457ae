use Rattle.std.proofs.Common.{◌∙◌}
use Rattle.cyl_groups.specs.Group.{record_of}
use Rattle.file_map.proofs.ClearedBits.{next_cleared}
use Rattle.file_map.proofs.group_bits.cleared.Goals as goal

pub loop-f-preserved : goal.loop-f-preserved
loop-f-preserved c =
    let old = c.args.group.now in
    let l = c.loop-f in
    record {
      group = c.clear_block.ensures.group;
      number = c.clear_block.ensures.number ∙ l.invariant.number;
      put = next_cleared c.args.g.now old.number l.cleared.number c.args.inode c.args.freed.now l.f-index _ (record_of old) (record_of l.cleared) (record_of c.clear_block.new.group)
          c.loop-f-test.true l.invariant.number l.invariant.put c.clear_block.ensures.put;
    }
