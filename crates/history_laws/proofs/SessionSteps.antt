-- By induction over a session, each volume that it comes to keeps its history.
use Rattle.std.proofs.Common.{ℕ, length}
use Rattle.lufs_base.specs.declared.geometry.Geometry.{Geometry}
use Rattle.volume_model.specs.Crash.{Record}
use Rattle.volume_model.specs.Sound.{Tree}
use Rattle.history_laws.specs.Volumes.{Volume, KeepsHistory}
use Rattle.history_laws.specs.VolumeSteps.{VolumeStep, Quiet, Leaves, Writes, Takes, Applies, Passes, CommitBegins, CommitEnds, Begins, Tells, Notes}
use Rattle.history_laws.specs.Sessions.{Session, Opens, Steps}
use Rattle.history_laws.proofs.QuietSteps.{quiet_keeps}
use Rattle.history_laws.proofs.CallSteps.{leaving_keeps, writing_keeps}
use Rattle.history_laws.proofs.ChangeSteps.{taking_keeps, applying_keeps, passing_keeps}
use Rattle.history_laws.proofs.CommitSteps.{seal_keeps, publish_keeps}
use Rattle.history_laws.proofs.HistorySteps.{beginning_keeps, telling_keeps, noting_keeps}
use Rattle.history_laws.proofs.OpenedVolumes.{opened_keeps}

pub volume_step_keeps : (g : Geometry) (moment : ℕ) (opening : Tree) (first : ℕ) (v w : Volume) → KeepsHistory g moment opening first v → VolumeStep g moment opening v w
    → KeepsHistory g moment opening first w
volume_step_keeps g moment opening first v _ keeps (Quiet calls k step quiet) = quiet_keeps g moment opening first v keeps calls k step quiet
volume_step_keeps g moment opening first v _ keeps (Leaves members unspent left one some none idle) = leaving_keeps g moment opening first v keeps members unspent left one some none idle
volume_step_keeps g moment opening first v _ keeps (Writes start bytes may touched) = writing_keeps g moment opening first v keeps start bytes may touched
volume_step_keeps g moment opening first v _ keeps (Takes to k hands step inside running same) = taking_keeps g moment opening first v keeps to k hands step inside running same
volume_step_keeps g moment opening first v _ keeps (Applies to k hands step inside running applied) = applying_keeps g moment opening first v keeps to k hands step inside running applied
volume_step_keeps g moment opening first v _ keeps (Passes passing) = passing_keeps g moment opening first v keeps passing
volume_step_keeps g moment opening first v _ keeps (CommitBegins cause k step) = seal_keeps g moment opening first v keeps cause k step
volume_step_keeps g moment opening first v _ keeps (CommitEnds calls k step) = publish_keeps g moment opening first v keeps calls k step
volume_step_keeps g moment opening first v _ keeps (Begins e is) = beginning_keeps g moment opening first v keeps e is
volume_step_keeps g moment opening first v _ keeps (Tells k may) = telling_keeps g moment opening first v keeps k may
volume_step_keeps g moment opening first v _ keeps (Notes note) = noting_keeps g moment opening first v keeps note

pub session_keeps : (g : Geometry) (moment : ℕ) (opening : Tree) (start : Record) (v : Volume) → Session g moment opening start v → KeepsHistory g moment opening (length start.calls) v
session_keeps g moment opening start _ (Opens found role owners r may mounts begins are) = opened_keeps g moment opening found start may role owners r mounts begins are
session_keeps g moment opening start _ (Steps v w session step) = volume_step_keeps g moment opening (length start.calls) v w (session_keeps g moment opening start v session) step
