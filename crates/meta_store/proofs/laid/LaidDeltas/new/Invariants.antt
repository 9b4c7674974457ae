use Rattle.std.proofs.Common.{◌≡◌, ℕ, take}
use Rattle.meta_store.specs.Laid.{laid_on}
use Rattle.meta_store.specs.Index.{deltas_of}
use Rattle.meta_store.proofs.laid.LaidDeltas.new.Given as goal

abbrev pub invariant-loop-tx : goal.invariant-loop-tx
invariant-loop-tx l = (b : ℕ) → deltas_of l.laid b ≡ laid_on (take l.tx-index l.tx-items) b
