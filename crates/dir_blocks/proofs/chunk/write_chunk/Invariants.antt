use Rattle.std.proofs.Common.{◌≡◌, sum_by, take}
use Rattle.lufs_base.specs.Fields.{put_at}
use Rattle.volume_model.specs.Format.{chunk_bytes}
use Rattle.dir_blocks.proofs.chunk.write_chunk.Given as goal

-- the slots so far are written
abbrev pub invariant-loop-slot : goal.invariant-loop-slot
invariant-loop-slot l = record {
  at : l.at ≡ sum_by (λ s. s.len) (take l.slot-index l.slot-items);
  out : l.out ≡ put_at l.initial.out 0 (chunk_bytes (take l.slot-index l.slot-items));
}
