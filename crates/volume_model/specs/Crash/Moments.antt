-- What holds of each image that a crash may leave, at any moment of a stretch of calls.
use Rattle.std.specs.Prelude.{ℕ, ◌≤◌, drop, Option, IfSome, option_map, option_and_then}
use Rattle.volume_model.specs.Format.{Image}
use Rattle.volume_model.specs.Crash.Records.{Record}
use Rattle.volume_model.specs.Crash.Outcomes.{Outcome}

-- the record of a command: what the disk told of its content when it was taken, after so many listed calls, and the
-- calls that it lists since then
abbrev pub record_since : Option Image → ℕ → Option Record → Option Record
record_since taken calls listed = option_and_then (λ image. option_map (λ r. record { opening = image; calls = drop calls r.calls }) listed) taken

-- Whenever from the first to the last of these numbers of listed calls a crash comes, P holds of that number and
-- of what is left; of a disk that tells its calls.
abbrev pub AtEachMoment : Option Record → (first last : ℕ) → (ℕ → Image → Type 0) → Type 0
AtEachMoment listed first last P =
    IfSome listed (λ r. (n : ℕ) → first ≤ n → n ≤ last → (image : Image) → Outcome r n image → P n image)
