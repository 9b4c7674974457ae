-- What a crash may leave: each sector, by itself, as it was at the last flush or as a write since then was to leave it.
use Rattle.std.specs.Prelude.{◌≡◌, ◌⊎◌, ℕ, ◌+◌, ◌-◌, nat_le, nat_lt, Bool, true, false, ◌&&◌, if◌then◌else◌, List, [], ◌∷◌, length, take, drop, Option, Some, None, Contains}
use Rattle.std.specs.List.{list_any, filter_map}
use Rattle.volume_model.specs.declared.device_call.DeviceCall.{DeviceCall}
use Rattle.volume_model.specs.declared.device_call.DeviceCall.TheVariants.{Write, Flush}
use Rattle.volume_model.specs.Format.{Image, sectors_of, sector, overwritten}
use Rattle.volume_model.specs.Crash.Records.{Record, up_to}

-- the content after these calls: the image with their writes laid over it in order
abbrev pub image_after : Image → List DeviceCall → Image
image_after image [] = image
image_after image (Write first bytes ∷ calls) = image_after (overwritten image first bytes) calls
image_after image (Flush ∷ calls) = image_after image calls

-- the content after all calls of a record
abbrev pub present_of : Record → Image
present_of r = image_after r.opening r.calls

abbrev pub is_flush : DeviceCall → Bool
is_flush (Write first bytes) = false
is_flush Flush = true

-- the calls up to the last flush; none, if none is a flush
abbrev pub flushed : List DeviceCall → List DeviceCall
flushed [] = []
flushed (call ∷ calls) = if list_any is_flush (call ∷ calls) then call ∷ flushed calls else []

-- the calls after the last flush; all of them, if none is a flush
abbrev pub pending : List DeviceCall → List DeviceCall
pending [] = []
pending (call ∷ calls) = if list_any is_flush (call ∷ calls) then pending calls else call ∷ calls

-- no write is after the last flush
abbrev pub IsSettled : Record → Type 0
IsSettled r = pending r.calls ≡ []

-- the record that begins after the first n calls
abbrev pub record_from : Record → ℕ → Record
record_from r n = record { opening = present_of (up_to r n); calls = drop n r.calls }

-- what a call writes to sector k, if it writes there
abbrev pub written_by : ℕ → DeviceCall → Option (List ℕ)
written_by k (Write first bytes) = if nat_le first k && nat_lt k (first + sectors_of bytes) then Some (sector bytes (k - first)) else None
written_by k Flush = None

-- what calls write to sector k, in order
abbrev pub written_to : ℕ → List DeviceCall → List (List ℕ)
written_to k calls = filter_map (written_by k) calls

-- the content at the last flush among the first n calls of a record; the opening, if there is none
abbrev pub kept_at : Record → ℕ → Image
kept_at r n = image_after r.opening (flushed (take n r.calls))

-- what the first n calls wrote to sector k since that flush, in order
abbrev pub written_since : Record → ℕ → ℕ → List (List ℕ)
written_since r n k = written_to k (pending (take n r.calls))

-- A crash after the first n calls of the record may leave this image.
pub record Outcome (r : Record) (n : ℕ) (image : Image) : Type 0 where
  pub size : length image ≡ length r.opening
  pub each : (k : ℕ) → (sector image k ≡ sector (kept_at r n) k) ⊎ Contains (written_since r n k) (sector image k)

-- each sector is old, or new as the write was to leave it
pub record IsPartlyWritten (first : ℕ) (bytes : List ℕ) (old new : Image) : Type 0 where
  pub size : length new ≡ length old
  pub each : (k : ℕ) → (sector new k ≡ sector old k) ⊎ (sector new k ≡ sector (overwritten old first bytes) k)
