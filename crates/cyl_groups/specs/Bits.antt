-- What a search of bits finds.
use Rattle.std.specs.Prelude.{◌≡◌, ◌<◌, ◌≤◌, ℕ, Bool, true, false, List, Option, Some, None}
use Rattle.volume_model.specs.Format.{bit_at}

-- the first clear bit from bit `from` on, before bit `end`
abbrev pub IsFirstClear : List ℕ → (from end : ℕ) → Option ℕ → Type 0
IsFirstClear bits from end (Some i) =
    (from ≤ i) × (i < end) × (bit_at bits i ≡ false) × ((j : ℕ) → from ≤ j → j < i → bit_at bits j ≡ true)
IsFirstClear bits from end None = (j : ℕ) → from ≤ j → j < end → bit_at bits j ≡ true
