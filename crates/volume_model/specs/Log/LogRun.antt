-- A run: the payload of the sectors of one transaction, as far as they stand in the ring.
use Rattle.std.specs.Prelude.{ℕ, zero, suc, ◌+◌, ◌==◌, nat_lt, Bool, ◌&&◌, if◌then◌else◌, List, [], ◌∷◌, ◌++◌, length, take, drop, Option, Some, None}
use Rattle.std.specs.List.{list_all}
use Rattle.lufs_base.specs.Fields.{u32_at, u64_at, are_zeros}
use Rattle.lufs_base.specs.Layout.{payload_size}
use Rattle.lufs_base.specs.declared.geometry.Geometry.{Geometry}
use Rattle.lufs_base.specs.declared.delta.Delta.{Delta}
use Rattle.lufs_base.specs.declared.delta.DeltaKind.{DeltaKind}
use Rattle.volume_model.specs.Log.LogRecord.{commit_type, kind_of, logged_len, may_be_logged, may_precede}

-- A whole run is a committed transaction; a short one ends before its commit record, and a bad one
-- breaks a rule of the log first.
pub data Run : Type 0 where
  Whole : List Delta → Run
  Short : Run
  Bad : Run

-- the delta at the front of the bytes
abbrev pub front_delta : DeltaKind → List ℕ → Delta
front_delta kind bytes =
    record { kind = kind; home = u64_at bytes 0; len = u32_at bytes 8; bytes = take (logged_len kind (u32_at bytes 8)) (drop 16 bytes) }

-- the commit record at the front names the transaction and the deltas before it, it ends in the
-- run's last sector, and zeros follow it
abbrev pub is_commit : ℕ → List Delta → List ℕ → Bool
is_commit tid before bytes =
    u64_at bytes 0 == tid && u32_at bytes 8 == length before && nat_lt (length (drop 16 bytes)) payload_size && are_zeros (drop 16 bytes)

-- a delta of this kind may stand at the front of the bytes, after these deltas
abbrev pub is_delta : Geometry → DeltaKind → List Delta → List ℕ → Bool
is_delta g kind before bytes =
    may_be_logged g kind (u64_at bytes 0) (u32_at bytes 8) && list_all (λ d. may_precede d kind (u64_at bytes 0)) before

-- what stands at the front of the bytes, after these deltas of transaction tid
pub data Front : Type 0 where
  Logged : Delta → Front
  Commit : Front
  -- the bytes end before the record does
  Cut : Front
  -- a record that breaks a rule
  Wrong : Front

abbrev pub front_of_kind : Geometry → List Delta → List ℕ → Option DeltaKind → Front
front_of_kind g before bytes None = Wrong
front_of_kind g before bytes (Some kind) =
    if is_delta g kind before bytes
    then (if nat_lt (length bytes) (16 + logged_len kind (u32_at bytes 8)) then Cut else Logged (front_delta kind bytes))
    else Wrong

unfoldable pub front_of : Geometry → ℕ → List Delta → List ℕ → Front
front_of g tid before bytes =
    if nat_lt (length bytes) 16 then Cut
    else (if u32_at bytes 12 == commit_type then (if is_commit tid before bytes then Commit else Wrong)
    else front_of_kind g before bytes (kind_of (u32_at bytes 12)))

-- the run whose next record is this; `more` is the run after a delta
abbrev pub run_at : Front → List Delta → (Delta → Run) → Run
run_at (Logged d) before more = more d
run_at Commit before more = Whole before
run_at Cut before more = Short
run_at Wrong before more = Bad

-- The run after these deltas. Each record takes bytes, so a run has no more records than bytes.
unfoldable pub run_after : Geometry → ℕ → ℕ → List Delta → List ℕ → Run
run_after g tid zero before bytes = Short
run_after g tid (suc records) before bytes =
    run_at (front_of g tid before bytes) before
    (λ d. run_after g tid records (before ++ d ∷ []) (drop (16 + logged_len d.kind d.len) bytes))

-- the run that a payload is
abbrev pub run_of : Geometry → ℕ → List ℕ → Run
run_of g tid payload = run_after g tid (suc (length payload)) [] payload
