-- What the answers of this crate say. Lack of memory says nothing of the log.
use Rattle.std.specs.Prelude.{◌≡◌, ℕ, ◌+◌, ◌≤◌, List, Result, Ok, Err, true, length}
use Rattle.std.specs.List.{list_all}
use Rattle.lufs_base.specs.declared.geometry.Geometry.{Geometry}
use Rattle.lufs_base.specs.declared.delta.Delta.{Delta}
use Rattle.volume_model.specs.Log.{logged_len, may_precede, Run, Short as short_run, Bad as bad_run, Whole as whole_run, Front as RecordFront, Logged as delta_front, Commit as commit_front, Cut as cut_front, Wrong as wrong_front}
use Rattle.log_format.specs.InOrder.{MayBeLogged}
use Rattle.log_format.specs.declared.records.Front.{Front}
use Rattle.log_format.specs.declared.records.Front.TheVariants.{Logged, Commit, Cut, Wrong}
use Rattle.log_format.specs.declared.records.Run.{Run as ReadRun}
use Rattle.log_format.specs.declared.records.Run.TheVariants.{Whole, Short}
use Rattle.log_format.specs.declared.records.RunError.{RunError}
use Rattle.log_format.specs.declared.records.RunError.TheVariants.{Bad, Mem}

-- the answer tells what stands at the front of the bytes
abbrev pub IsFront : RecordFront → Front → Type 0
IsFront front (Logged d) = front ≡ delta_front d
IsFront front Commit = front ≡ commit_front
IsFront front Cut = front ≡ cut_front
IsFront front Wrong = front ≡ wrong_front

-- a delta at the front may be logged after these deltas, and its bytes are there
pub record IsNext (g : Geometry) (before : List Delta) (bytes : List ℕ) (d : Delta) : Type 0 where
  pub may : MayBeLogged g d
  pub follows : list_all (λ e. may_precede e d.kind d.home) before ≡ true
  pub fits : 16 + logged_len d.kind d.len ≤ length bytes

abbrev pub LoggedIsNext : Geometry → List Delta → List ℕ → Front → Type 0
LoggedIsNext g before bytes (Logged d) = IsNext g before bytes d
LoggedIsNext g before bytes Commit = Unit {0}
LoggedIsNext g before bytes Cut = Unit {0}
LoggedIsNext g before bytes Wrong = Unit {0}

-- the answer tells the run
abbrev pub IsRun : Run → Result ReadRun RunError → Type 0
IsRun run (Ok (Whole deltas)) = run ≡ whole_run deltas
IsRun run (Ok Short) = run ≡ short_run
IsRun run (Err Bad) = run ≡ bad_run
IsRun run (Err Mem) = Unit {0}
