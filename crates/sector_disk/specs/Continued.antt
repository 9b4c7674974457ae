-- What a crash may leave of a stretch of a disk's calls: by these calls alone, and by all of its calls.
use Rattle.std.specs.Prelude.{◌≡◌, ◌-◌, List, length, Some, IfSome, IsSome, option_map}
use Rattle.volume_model.specs.declared.device_call.DeviceCall.{DeviceCall}
use Rattle.volume_model.specs.Format.{Image}
use Rattle.volume_model.specs.Crash.{with_calls, IsSettled, present_of, AtEachMoment, record_since}
use Rattle.sector_disk.specs.Disk.{DiskTold}

-- a disk that tells its calls tells their number, and what it holds
abbrev pub IsCounted : DiskTold → Type 0
IsCounted told = IfSome told.listed (λ r. (told.calls ≡ length r.calls) × IsSome told.present)

-- Nothing is pending on the disk, and its content is what its calls leave.
pub record IsAtRest (told : DiskTold) : Type 0 where
  pub settled : IfSome told.listed IsSettled
  pub content : IfSome told.listed (λ r. IfSome told.present (λ image. image ≡ present_of r))

-- the list of calls goes on with these
abbrev pub GoesOnWith : List DeviceCall → DiskTold → DiskTold → Type 0
GoesOnWith since old new = new.listed ≡ option_map (λ r. with_calls r since) old.listed

-- Whenever a crash comes in the calls from the old to the new, P holds of the content before and of what it leaves.
pub record CrashLeaves (P : Image → Image → Type 0) (old new : DiskTold) : Type 0 where
  -- by these calls alone
  pub own : IfSome old.present (λ before. AtEachMoment (record_since (Some before) old.calls new.listed) 0 (new.calls - old.calls) (λ _. P before))
  -- by all calls of the disk, where it was at rest
  pub whole : IsAtRest old → IfSome old.present (λ before. AtEachMoment new.listed old.calls new.calls (λ _. P before))
