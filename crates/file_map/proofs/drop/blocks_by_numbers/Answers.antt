use Rattle.std.proofs.Common.{true, not, slice_index}
use Rattle.volume_model.specs.Format.{is_file}
use Rattle.file_map.specs.Dropped.{freed_block}
use Rattle.file_map.proofs.DroppedBlocks.{indexes_by_code}
use Rattle.file_map.proofs.drop.blocks_by_numbers.Goals as goal

pub loop-k-preserved : goal.loop-k-preserved
loop-k-preserved c =
    let l = c.loop-k in
    let d = c.args.d.now in
    indexes_by_code (is_file d.mode) c.is_file-meta.result c.args.numbers.now l.k c.number_at.result (freed_block true (slice_index d.indirect 0)) l.list.items c.push_block-in-loop-k.new.list.items
    c.is_file-meta.ensures c.number_at.ensures l.invariant c.in_ok-push_block-2.ensures
