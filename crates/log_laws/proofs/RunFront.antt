-- A run by the record at its front.
use Rattle.std.proofs.Common.{◌≡◌, ℕ, suc, ◌+◌, List, [], ◌∷◌, ◌++◌, drop, ap}
use Rattle.lufs_base.specs.declared.geometry.Geometry.{Geometry}
use Rattle.lufs_base.specs.declared.delta.Delta.{Delta}
use Rattle.volume_model.specs.Log.{logged_len, Front as RecordFront, front_of, run_at, run_after}

-- the run by what stands at its front
pub run_by_front : (g : Geometry) (tid n : ℕ) (before : List Delta) (bytes : List ℕ) (front : RecordFront) → front_of g tid before bytes ≡ front
    → run_after g tid (suc n) before bytes ≡ run_at front before (λ d. run_after g tid n (before ++ d ∷ []) (drop (16 + logged_len d.kind d.len) bytes))
unfolding run_after
run_by_front g tid n before bytes front is =
    ap (λ (f : RecordFront). run_at f before (λ d. run_after g tid n (before ++ d ∷ []) (drop (16 + logged_len d.kind d.len) bytes))) is
