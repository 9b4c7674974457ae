-- What a crash leaves where the value of each sector is chosen.
use Rattle.std.specs.Prelude.{◌≢◌, ℕ, zero, suc, List, [], ◌∷◌, take, slice_get, Option, Some, None, Result, Ok, Err}
use Rattle.std.specs.List.{AllByRecursion}
use Rattle.volume_model.specs.declared.device_call.DeviceCall.{DeviceCall}
use Rattle.volume_model.specs.Format.{Image, overwritten}
use Rattle.volume_model.specs.Crash.{Record, pending, written_to, kept_at}
use Rattle.sector_disk.specs.declared.crash.CrashError.{CrashError}
use Rattle.sector_disk.specs.declared.crash.CrashError.TheVariants.{NoSuch}

-- the j-th value, from 1, that these calls write to sector k
abbrev pub nth_written : List DeviceCall → (k j : ℕ) → Option (List ℕ)
nth_written calls k zero = None
nth_written calls k (suc i) = slice_get (written_to k calls) i

-- goes on with the value of sector k that was chosen, if it is there
abbrev pub with_value : (k j : ℕ) → Option (List ℕ) → (List ℕ → Result Image CrashError) → Result Image CrashError
with_value k j None more = Err (NoSuch k j)
with_value k j (Some value) more = more value

-- the image with the chosen values of these calls laid over it, or the first choice that isn't there
abbrev pub with_choice : List DeviceCall → Image → List (ℕ × ℕ) → Result Image CrashError
with_choice calls image [] = Ok image
with_choice calls image (chosen ∷ choice) =
    with_value chosen.0 chosen.1 (nth_written calls chosen.0 chosen.1) (λ value. with_choice calls (overwritten image chosen.0 value) choice)

-- What a crash after the first n calls leaves, where each sector that is named has the value of this number since the
-- last flush, and every other sector its value at that flush.
abbrev pub crash_of : Record → ℕ → List (ℕ × ℕ) → Result Image CrashError
crash_of r n choice = with_choice (pending (take n r.calls)) (kept_at r n) choice

-- no pair names sector k
abbrev pub IsUnnamed : ℕ → List (ℕ × ℕ) → Type 0
IsUnnamed k choice = AllByRecursion (λ chosen. chosen.0 ≢ k) choice
