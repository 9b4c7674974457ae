-- What happened on a disk since a moment: how it stood then, and the listed calls since.
use Rattle.std.specs.Prelude.{◌≡◌, ◌≤◌, ℕ, ◌+◌, ◌*◌, ◌%◌, List, ◌++◌, ◌∷◌, [], length, take}
use Rattle.std.specs.List.{AllByRecursion}
use Rattle.volume_model.specs.declared.device_call.DeviceCall.{DeviceCall}
use Rattle.volume_model.specs.declared.device_call.DeviceCall.TheVariants.{Write, Flush}
use Rattle.volume_model.specs.Format.{Image}

pub record Record : Type 0 where
  pub opening : Image
  pub calls : List DeviceCall

-- the record with one call more
abbrev pub with_call : Record → DeviceCall → Record
with_call r call = record { opening = r.opening; calls = r.calls ++ call ∷ [] }

-- the record of its first n calls
abbrev pub up_to : Record → ℕ → Record
up_to r n = record { opening = r.opening; calls = take n r.calls }

-- the record with these calls more
abbrev pub with_calls : Record → List DeviceCall → Record
with_calls r more = record { opening = r.opening; calls = r.calls ++ more }

-- a write is of whole sectors, inside an image of so many bytes
abbrev pub IsInside : ℕ → DeviceCall → Type 0
IsInside size (Write first bytes) = (length bytes % 512 ≡ 0) × (512 * first + length bytes ≤ size)
IsInside size Flush = Unit {0}

-- the opening and each write are whole sectors, and no write goes past the opening's end
pub record IsOfSectors (r : Record) : Type 0 where
  pub opening : length r.opening % 512 ≡ 0
  pub calls : AllByRecursion (IsInside (length r.opening)) r.calls
