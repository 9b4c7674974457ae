use Rattle.std.proofs.Common.{◌≡◌, ℕ, ◌/◌, ◌==◌, ◌&&◌, [], take, if◌then◌else◌}
use Rattle.std.specs.List.{list_any}
use Rattle.volume_model.specs.Log.{is_cancel}
use Rattle.meta_store.specs.Index.{deltas_of}
use Rattle.meta_store.proofs.laid.LaidDeltas.cancel_blocks.Given as goal

abbrev pub invariant-loop-delta : goal.invariant-loop-delta
invariant-loop-delta l =
    (b : ℕ) → deltas_of l.self b ≡ (if list_any (λ d. is_cancel d.kind && d.home / 4096 == b) (take l.delta-index l.deltas) then [] else deltas_of l.initial.self b)
