use Rattle.volume_model.specs.Log.{delta_bytes}
use Rattle.file_map.proofs.FreedLists.{freed_more, growth_more}
use Rattle.file_map.proofs.frees.free_blocks.Goals as goal

pub loop-f-preserved : goal.loop-f-preserved
loop-f-preserved c =
    let l = c.loop-f in
    let freed = c.args.freed.now in
    record {
      ok = freed_more c.args.draft.now.change l.draft.change c.free_block.new.draft.change freed l.f-index _ c.loop-f-test.true l.invariant.ok c.in_ok-free_block.ensures.ok;
      growth = growth_more (delta_bytes c.args.draft.now.change.deltas) (delta_bytes l.draft.change.deltas) (delta_bytes c.free_block.new.draft.change.deltas) freed l.f-index _ c.loop-f-test.true
          l.invariant.growth c.in_ok-free_block.ensures.growth;
    }
