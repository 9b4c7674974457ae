use Rattle.file_map.specs.Freed.{is_block_of}
use Rattle.file_map.proofs.FreedLists.{passing_more}
use Rattle.file_map.proofs.shares.share_of.Goals as goal

pub loop-f-preserved : goal.loop-f-preserved
loop-f-preserved c =
    let l = c.loop-f in
    passing_more (is_block_of c.args.g.now c.args.n) c.args.freed.now l.share.items c.push_if.new.list.items l.f-index _ c.loop-f-test.true l.invariant c.in_ok-push_if.ensures
