use Rattle.std.proofs.Common.{◌≡◌, ℕ, ◌++◌, take}
use Rattle.std.specs.List.{filter}
use Rattle.meta_store.specs.Index.{deltas_of}
use Rattle.meta_store.proofs.laid.LaidDeltas.push_deltas.Given as goal
use Rattle.volume_model.specs.Log.{lays_on}

abbrev pub invariant-loop-delta : goal.invariant-loop-delta
invariant-loop-delta l = (b : ℕ) → deltas_of l.self b ≡ deltas_of l.initial.self b ++ filter (lays_on b) (take l.delta-index l.deltas)
