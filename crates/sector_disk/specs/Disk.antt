-- What a disk tells of itself, and what its calls do to that.
use Rattle.std.specs.Prelude.{◌≡◌, ◌<◌, ◌≤◌, ◌⊎◌, ℕ, ◌+◌, ◌-◌, ◌*◌, ◌/◌, ◌%◌, ◌^◌, min, List, [], ◌∷◌, length, take, replicate, Option, IfSome, option_map, is_some, Contains, Result, OnOk, MatchResult}
use Rattle.lufs_base.specs.Causes.{Rose, counted}
use Rattle.volume_model.specs.declared.device_call.DeviceCall.{DeviceCall}
use Rattle.volume_model.specs.declared.device_call.DeviceCall.TheVariants.{Write}
use Rattle.volume_model.specs.Format.{Image, sector, sectors_from}
use Rattle.volume_model.specs.Crash.{Record, with_calls, IsOfSectors, image_after, present_of, written_to, IsPartlyWritten}

-- What a disk tells of itself at one moment.
pub record DiskTold : Type 0 where
  -- how many sectors it has
  pub sectors : ℕ
  -- what reads give, where it tells it
  pub present : Option Image
  -- how it stood at first, and the writes and flushes since, where it tells them
  pub listed : Option Record
  -- how many writes and flushes went
  pub calls : ℕ
  -- how many of its calls answered an error: after the last number of 64 bits comes 0 again
  pub failures : ℕ
  -- how many writes and flushes had gone when one of its calls last answered an error
  pub failed_at : ℕ
  -- how many faults it met, which is the count that its code can tell
  pub faults : ℕ

-- whole sectors, at least one
abbrev pub IsWhole : ℕ → Type 0
IsWhole bytes = (0 < bytes) × (bytes % 512 ≡ 0)

-- the bytes are what stands in the sectors from `first` on
abbrev pub IsRead : ℕ → List ℕ → DiskTold → Type 0
IsRead first out told = IfSome told.present (λ image. out ≡ sectors_from image first (length out / 512))

-- no write and no flush was made
pub record IsUnwritten (old new : DiskTold) : Type 0 where
  pub sectors : new.sectors ≡ old.sectors
  pub content : new.present ≡ old.present
  pub listed : new.listed ≡ old.listed
  pub calls : new.calls ≡ old.calls

-- the count after so many more, which stands still at the last number of 64 bits
abbrev pub counted_more : ℕ → ℕ → ℕ
counted_more count more = min (count + more) (2 ^ 64 - 1)

-- These calls went, one after the other: they are listed and counted, and the content is as they leave it.
pub record HasMade (calls : List DeviceCall) (old new : DiskTold) : Type 0 where
  pub sectors : new.sectors ≡ old.sectors
  pub content : new.present ≡ option_map (λ image. image_after image calls) old.present
  pub listed : new.listed ≡ option_map (λ r. with_calls r calls) old.listed
  pub count : new.calls ≡ counted_more old.calls (length calls)

-- A write that failed is listed and counted, and each of its sectors is old or new.
pub record HasMadePartly (first : ℕ) (bytes : List ℕ) (old new : DiskTold) : Type 0 where
  pub sectors : new.sectors ≡ old.sectors
  pub tells : is_some new.present ≡ is_some old.present
  pub content : IfSome old.present (λ before. IfSome new.present (IsPartlyWritten first bytes before))
  pub listed : new.listed ≡ option_map (λ r. with_calls r (Write first bytes ∷ [])) old.listed
  pub count : new.calls ≡ counted old.calls

-- At Ok all of these calls went, and else no others than the first of them are listed.
pub record Makes {T E : Type 0} (calls : List DeviceCall) (result : Result T E) (old new : DiskTold) : Type 0 where
  pub ok : OnOk result (HasMade calls old new)
  pub sectors : new.sectors ≡ old.sectors
  pub tells : is_some new.present ≡ is_some old.present
  pub listed : (n : ℕ) × (new.listed ≡ option_map (λ r. with_calls r (take n calls)) old.listed)
  pub count : old.calls ≤ new.calls

-- the count of failures with one more
abbrev pub failed_again : ℕ → ℕ
failed_again failures = (failures + 1) % 2 ^ 64

-- no call answered an error
pub record NoneFailed (old new : DiskTold) : Type 0 where
  pub failures : new.failures ≡ old.failures
  pub failed_at : new.failed_at ≡ old.failed_at
  pub faults : old.faults ≤ new.faults

-- one call answered an error, which was a fault, and no write and no flush went after it
pub record FailedLast (old new : DiskTold) : Type 0 where
  pub failures : new.failures ≡ failed_again old.failures
  pub failed_at : new.failed_at ≡ new.calls
  pub faults : Rose old.faults new.faults

-- at Ok no call failed, and else just the last one
abbrev pub CountsFailure : {T E : Type 0} → Result T E → DiskTold → DiskTold → Type 0
CountsFailure result old new = MatchResult result (λ _. NoneFailed old new) (λ _. FailedLast old new)

-- just the last call failed where the answer is a failure of the disk, and else none
pub record FailsJustAt (disk_failed : Type 0) (old new : DiskTold) : Type 0 where
  pub failed : disk_failed → FailedLast old new
  pub none : ¬ disk_failed → NoneFailed old new

-- What stands on a disk after these calls, of which some may have failed: each sector as it was at first, or as a
-- write was to leave it. While the disk has met no fault, it is what the calls leave.
pub record GoesWith (r : Record) (faults : ℕ) (image : Image) : Type 0 where
  pub record_is : IsOfSectors r
  pub size : length image ≡ length r.opening
  pub each : (k : ℕ) → (sector image k ≡ sector r.opening k) ⊎ Contains (written_to k r.calls) (sector image k)
  pub last : faults ≡ 0 → image ≡ present_of r

-- the content that is told goes with the calls that are told
abbrev pub IsTold : DiskTold → Type 0
IsTold told = IfSome told.listed (λ r. IfSome told.present (GoesWith r told.faults))

-- the content that is told is whole sectors, as many as the disk has
abbrev pub IsOfItsSectors : DiskTold → Type 0
IsOfItsSectors told = IfSome told.present (λ image. length image ≡ 512 * told.sectors)

-- A disk that was just made: so many sectors of zeros, and no call before.
pub record IsZeroDisk (sectors : ℕ) (told : DiskTold) : Type 0 where
  pub size : told.sectors ≡ sectors
  pub zeros : IfSome told.present (λ image. image ≡ replicate (512 * sectors) 0)
  pub no_call : IfSome told.listed (λ r. r.calls ≡ [])
  pub calls : told.calls ≡ 0
  pub failures : told.failures ≡ 0
  pub failed_at : told.failed_at ≡ 0
  pub faults : told.faults ≡ 0
