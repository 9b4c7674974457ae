use Rattle.std.proofs.Common.{◌≤◌, ◌*◌, length, ap, ◌∙◌, arith}
use Rattle.lufs_base.specs.Layout.{blocks_of}
use Rattle.volume_model.specs.Format.{Image, block}
use Rattle.volume_model.specs.Crash.{image_after}
use Rattle.meta_store.specs.Changes.{writes_of, changed}
use Rattle.meta_store.proofs.MergedTable.{IsLoggable}
use Rattle.meta_draft.proofs.LaidTogether.{laid_together}
use Rattle.draft_laws.proofs.OneLaid.{blocks_with, length-changed}
use Rattle.draft_laws.proofs.laying.one_delta_laid.Goals as goal

pub returns : goal.returns
returns c g base change d room are raw beside table bytes lays =
    let whole : 4096 * blocks_of g ≤ length base = omega (arith, room) in
    let own : IsLoggable g d = record { table = table; bytes = bytes } in
    let size = length-changed g base change whole raw in
    ap (λ (image : Image). block image) (laid_together g change.deltas d (image_after base (writes_of change.raw)) are own beside lays)
    ∙ blocks_with g (changed change base) d (omega (arith, whole, size)) own lays
