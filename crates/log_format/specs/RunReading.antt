-- A run that is read as its payload comes, of whose deltas only a tally is kept.
use Rattle.std.specs.Prelude.{◌≡◌, ℕ, suc, ◌+◌, ◌*◌, ◌≤◌, if◌then◌else◌, Bool, List, ◌++◌, length, drop, Option, Some, None, option_map}
use Rattle.lufs_base.specs.declared.geometry.Geometry.{Geometry}
use Rattle.lufs_base.specs.declared.delta.Delta.{Delta}
use Rattle.volume_model.specs.Log.{logged_len, delta_bytes, Run, Whole, Short, Bad, Front, Logged, Commit as commit_front, Cut as cut_front, Wrong as wrong_front, front_of, run_after, run_of}
use Rattle.log_format.specs.InOrder.{InOrder, last_of}
use Rattle.log_format.specs.Heads.{head_of, delta_at}
use Rattle.log_format.specs.Answers.{IsNext}
use Rattle.log_format.specs.declared.run_reader.Tally.{Tally}
use Rattle.log_format.specs.declared.run_reader.Found.{Found}
use Rattle.log_format.specs.declared.run_reader.Found.TheVariants.{Logged as delta_found, Commit, Cut, Wrong}
use Rattle.log_format.specs.declared.run_reader.RunReader.{RunReader}

-- the tally is that of these deltas, which are in the order of the log
pub record IsTally (g : Geometry) (deltas : List Delta) (tally : Tally) : Type 0 where
  pub order : InOrder g deltas
  pub count : tally.deltas ≡ length deltas
  pub bytes : tally.bytes ≡ delta_bytes deltas
  pub last : tally.last ≡ option_map head_of (last_of deltas)

-- what was found is what stands at the front of the bytes
abbrev pub IsFound : Geometry → List Delta → List ℕ → Front → Found → Type 0
IsFound g before bytes front (delta_found head) = (front ≡ Logged (delta_at head bytes)) × IsNext g before bytes (delta_at head bytes)
IsFound g before bytes front Commit = front ≡ commit_front
IsFound g before bytes front Cut = front ≡ cut_front
IsFound g before bytes front Wrong = front ≡ wrong_front

-- the record of a delta that was found lies within the bytes
abbrev pub FitsIn : List ℕ → Found → Type 0
FitsIn bytes (delta_found head) = 16 + logged_len head.kind head.len ≤ length bytes
FitsIn bytes Commit = Unit {0}
FitsIn bytes Cut = Unit {0}
FitsIn bytes Wrong = Unit {0}

-- the run after these deltas, of which the bytes are the rest
abbrev pub rest_of_run : Geometry → ℕ → List Delta → List ℕ → Run
rest_of_run g tid before bytes = run_after g tid (suc (length bytes)) before bytes

-- what stands where no delta does: the commit record, or the front of a record that is cut
abbrev pub stop_at : Bool → Front
stop_at committed = if committed then commit_front else cut_front

-- after all deltas at the front of the bytes, whose tally comes after the old one, byte `at` is next
abbrev pub HasSkipped : Geometry → (tid : ℕ) → List ℕ → (at : ℕ) → (old new : Tally) → Type 0
HasSkipped g tid bytes at old new =
    (before : List Delta) → IsTally g before old
    → (after : List Delta) × IsTally g after new × ((more : List ℕ) → rest_of_run g tid before (bytes ++ more) ≡ rest_of_run g tid after (drop at bytes ++ more))

-- no delta stands there, but what this says
abbrev pub StopsAt : Geometry → (tid : ℕ) → List ℕ → (committed : Bool) → Tally → Type 0
StopsAt g tid rest committed tally = (before : List Delta) → IsTally g before tally → front_of g tid before rest ≡ stop_at committed

-- after deltas of this tally the bytes are those of a bad run, whatever follows them
abbrev pub IsBadAfter : Geometry → (tid : ℕ) → List ℕ → Tally → Type 0
IsBadAfter g tid bytes tally = (before : List Delta) → IsTally g before tally → (more : List ℕ) → rest_of_run g tid before (bytes ++ more) ≡ Bad

-- The reader has read these bytes at the front of a payload: after some deltas, of which it has the tally,
-- the run goes on in the bytes that it keeps.
pub record HasRead (g : Geometry) (read : List ℕ) (reader : RunReader) : Type 0 where
  pub before : List Delta
  pub tally : IsTally g before reader.tally
  pub run : (more : List ℕ) → run_of g reader.tid (read ++ more) ≡ rest_of_run g reader.tid before (reader.kept.items ++ more)
  pub front : front_of g reader.tid before reader.kept.items ≡ stop_at reader.committed

-- how many bytes it has read
abbrev pub bytes_read : RunReader → ℕ
bytes_read reader = reader.tally.bytes + length reader.kept.items

-- each delta takes 16 bytes and more
abbrev pub IsCounted : Tally → Type 0
IsCounted tally = 16 * tally.deltas ≤ tally.bytes

-- it has read these bytes more
pub record HasReadMore (g : Geometry) (bytes : List ℕ) (old new : RunReader) : Type 0 where
  pub tid : new.tid ≡ old.tid
  pub count : bytes_read new ≡ bytes_read old + length bytes
  pub read : (read : List ℕ) → HasRead g read old → HasRead g (read ++ bytes) new

-- these bytes more make the run bad, whatever follows them
abbrev pub IsBadWith : Geometry → List ℕ → RunReader → Type 0
IsBadWith g bytes reader = (read : List ℕ) → HasRead g read reader → (more : List ℕ) → run_of g reader.tid ((read ++ bytes) ++ more) ≡ Bad

-- the tally is that of the whole run, if there is one
abbrev pub IsTotal : Run → Option Tally → Type 0
IsTotal run (Some tally) = (deltas : List Delta) × (run ≡ Whole deltas) × (tally.deltas ≡ length deltas) × (tally.bytes ≡ delta_bytes deltas)
IsTotal run None = run ≡ Short
