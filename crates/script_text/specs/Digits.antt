-- The numbers of digits, read from the first to the last.
use Rattle.std.specs.Prelude.{ℕ, ◌+◌, ◌-◌, ◌*◌, ◌^◌, nat_lt, ◌&&◌, if◌then◌else◌, List, Option, Some, None}
use Rattle.std.specs.List.{list_all}
use Rattle.history_model.specs.Numbers.{is_digit, digits_from}

-- the number with one more digit, if the byte is one and the number has 64 bits
abbrev pub with_digit : (n b : ℕ) → Option ℕ
with_digit n b = if is_digit b && nat_lt (10 * n + (b - 48)) (2 ^ 64) then Some (10 * n + (b - 48)) else None

-- the number that these digits give after those of n, if they are digits and it has 64 bits
abbrev pub digits_after : (n : ℕ) → List ℕ → Option ℕ
digits_after n bytes = if list_all is_digit bytes && nat_lt (digits_from n bytes) (2 ^ 64) then Some (digits_from n bytes) else None
