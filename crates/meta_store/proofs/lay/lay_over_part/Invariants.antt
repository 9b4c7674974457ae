use Rattle.std.proofs.Common.{◌≡◌, ℕ, ◌<◌, ◌≤◌, slice_index}
use Rattle.std.specs.Option.{unwrap_or}
use Rattle.volume_model.specs.Log.{byte_of}
use Rattle.meta_store.proofs.lay.lay_over_part.Given as goal

abbrev pub invariant-loop-i : goal.invariant-loop-i
invariant-loop-i l =
    record {
      laid : (k : ℕ) → k < l.i → slice_index l.part k ≡ unwrap_or (byte_of l.delta k) (slice_index l.initial.part k);
      left : (k : ℕ) → l.i ≤ k → slice_index l.part k ≡ slice_index l.initial.part k;
    }
