-- A disk in memory, as its calls see it.
use Rattle.std.specs.Prelude.{ℕ, Bool, if◌then◌else◌, List, [], ◌∷◌, ◌++◌, length, Vec, Option, Some, None}
use Rattle.std.specs.declared.alloc.Global.{Global}
use Rattle.lufs_base.specs.Causes.{counted}
use Rattle.volume_model.specs.declared.device_call.DeviceCall.{DeviceCall}
use Rattle.volume_model.specs.declared.device_call.DeviceCall.TheVariants.{Flush}
use Rattle.volume_model.specs.Format.{Image, sectors_of}
use Rattle.volume_model.specs.Crash.{Record}
use Rattle.sector_disk.specs.declared.mem_disk.Fail.{Fail}
use Rattle.sector_disk.specs.Disk.{DiskTold, failed_again}

pub record State : Type 0 where
  pub image : Image
  pub opening : Image
  pub calls : List DeviceCall
  pub fails : List Fail
  -- the calls of each kind so far
  pub reads : ℕ
  pub writes : ℕ
  pub flushes : ℕ
  pub faults : ℕ
  -- the calls that failed, where 0 comes after the last number of 64 bits
  pub failures : ℕ
  -- how many listed calls there were when a call last failed
  pub failed_at : ℕ
  -- those that failed since memory ran out
  pub starved : ℕ

-- a new disk of this image, of which these calls are to fail
abbrev pub new_state : Image → List Fail → State
new_state image fails = record {
  image = image;
  opening = image;
  calls = [];
  fails = fails;
  reads = 0;
  writes = 0;
  flushes = 0;
  faults = 0;
  failures = 0;
  failed_at = 0;
  starved = 0;
}

-- how the disk stood before the first listed call, if that was kept, and else how it stands
abbrev pub opening_of : Option (Vec ℕ Global) → List ℕ → Image
opening_of None image = image
opening_of (Some kept) image = kept.items

-- what a disk of these parts tells of its listed calls
abbrev pub told_record : Option (Vec ℕ Global) → List ℕ → List DeviceCall → Record
told_record opening image calls = record { opening = opening_of opening image; calls = calls }

-- a write was called and listed, and left this image
abbrev pub after_write : DeviceCall → Image → State → State
after_write call image s = record s { image = image; calls = s.calls ++ call ∷ []; writes = counted s.writes }

-- a flush was called and listed
abbrev pub after_flush : State → State
after_flush s = record s { calls = s.calls ++ Flush ∷ []; flushes = counted s.flushes }

-- a call failed
abbrev pub faulted_more : State → State
faulted_more s = record s { faults = counted s.faults; failures = failed_again s.failures; failed_at = length s.calls }

-- a read was called, and failed or not
abbrev pub after_read : Bool → State → State
after_read failed s = let called : State = record s { reads = counted s.reads } in if failed then faulted_more called else called

-- a call failed since memory ran out, and changed nothing else
abbrev pub starved_more : State → State
starved_more s = faulted_more (record s { starved = counted s.starved })

-- what the disk tells of its listed calls
abbrev pub record_of : State → Record
record_of s = record { opening = s.opening; calls = s.calls }

-- what it tells as a disk
abbrev pub told_of : State → DiskTold
told_of s = record {
  sectors = sectors_of s.image;
  present = Some s.image;
  listed = Some (record_of s);
  calls = length s.calls;
  failures = s.failures;
  failed_at = s.failed_at;
  faults = s.faults;
}
