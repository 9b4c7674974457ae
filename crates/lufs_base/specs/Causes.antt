-- Counts of failures, which show that an answer of a failure had its cause.
use Rattle.std.specs.Prelude.{◌≤◌, ℕ, ◌+◌, ◌-◌, ◌^◌, min}

-- a count with one more, which stands still at the last number of 64 bits
abbrev pub counted : ℕ → ℕ
counted n = min (n + 1) (2 ^ 64 - 1)

-- the count rose, or it stands at its last number
abbrev pub Rose : ℕ → ℕ → Type 0
Rose before now = counted before ≤ now
