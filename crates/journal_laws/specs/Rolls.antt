-- The steps of a roll, and the versions that a mount may recover.
use Rattle.std.specs.Prelude.{Bool, true, false, List, length}
use Rattle.lufs_base.specs.declared.geometry.Geometry.{Geometry}
use Rattle.volume_model.specs.declared.device_call.DeviceCall.{DeviceCall}
use Rattle.volume_model.specs.Format.{Image}
use Rattle.volume_model.specs.Crash.{Record, Outcome, present_of}
use Rattle.journal_model.specs.Journals.{Journal}
use Rattle.journal_model.specs.Versions.{Version}
use Rattle.journal_model.specs.BlockRoles.{Roles, Move}
use Rattle.journal_model.specs.Recovery.{Recovers}
use Rattle.journal_model.specs.Steps.{Step, Admit, Leave, Apply, RawWrite, Seal, LogWrite, Publish, Pick, RollWrite, RollFlush, Trim, TrimFlush}

-- the step is one of a roll
abbrev pub is_roll_step : {g : Geometry} {roles : Roles} {home : Image} {j k : Journal} {move : Move} {calls : List DeviceCall} → Step g roles home j move calls k → Bool
is_roll_step (Admit need fits) = false
is_roll_step (Leave members unspent left in_members in_unspent none) = false
is_roll_step (Apply change to running roles deltas) = false
is_roll_step (RawWrite first bytes may) = false
is_roll_step (Seal none idle fits number) = false
is_roll_step (LogWrite s n is turn) = false
is_roll_step (Publish s is whole) = false
is_roll_step (Pick held idle some is) = true
is_roll_step (RollWrite batch b left writing next) = true
is_roll_step (RollFlush batch writing done) = true
is_roll_step (Trim batch home) = true
is_roll_step (TrimFlush batch trimmed) = true

-- a mount of what a crash leaves now may recover this version
pub record MayRecover (g : Geometry) (roles : Roles) (r : Record) (j : Journal) (v : Version) : Type 0 where
  pub image : Image
  pub outcome : Outcome r (length r.calls) image
  pub recovers : Recovers g roles (present_of r) j image v
