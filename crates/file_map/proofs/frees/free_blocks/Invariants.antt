use Rattle.std.proofs.Common.{◌≡◌, ◌≤◌, ◌+◌, ◌*◌, take}
use Rattle.volume_model.specs.Log.{delta_bytes}
use Rattle.draft_laws.specs.Freeing.{with_all_freed}
use Rattle.file_map.specs.Freed.{metadata_among}
use Rattle.file_map.proofs.frees.free_blocks.Given as goal

-- the blocks so far are freed
abbrev pub invariant-loop-f : goal.invariant-loop-f
invariant-loop-f l = record {
  ok : l.draft.change ≡ with_all_freed l.fn.draft.change (take l.f-index l.freed);
  growth : delta_bytes l.draft.change.deltas ≤ delta_bytes l.fn.draft.change.deltas + 16 * metadata_among (take l.f-index l.freed);
}
