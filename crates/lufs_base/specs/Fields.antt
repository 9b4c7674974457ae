-- Big-endian numbers in bytes.
use Rattle.std.specs.Prelude.{◌<◌, ℕ, ◌+◌, Bool, ◌==◌, List, ◌++◌, length, take, drop, slice_index}
use Rattle.std.specs.List.{list_all}
use Rattle.byteorder.specs.Endian.{big_bytes, big_number}

-- the number in the first n bytes
unfoldable pub number_in : ℕ → List ℕ → ℕ
number_in n bytes = big_number n bytes

-- the numbers of two, four and eight bytes from byte `at`
abbrev pub u16_at : List ℕ → ℕ → ℕ
u16_at bytes at = number_in 2 (drop at bytes)

abbrev pub u32_at : List ℕ → ℕ → ℕ
u32_at bytes at = number_in 4 (drop at bytes)

abbrev pub u64_at : List ℕ → ℕ → ℕ
u64_at bytes at = number_in 8 (drop at bytes)

-- the bytes of a number, in a field of n bytes
abbrev pub field_bytes : ℕ → ℕ → List ℕ
field_bytes n value = big_bytes n value

-- the list with these bytes from byte `at`, and its other bytes as they were
abbrev pub put_at : List ℕ → ℕ → List ℕ → List ℕ
put_at old at bytes = take at old ++ (bytes ++ drop (at + length bytes) old)

-- each is a byte
abbrev pub AreBytes : List ℕ → Type 0
AreBytes xs = (i : ℕ) → slice_index xs i < 256

-- each byte is 0
abbrev pub are_zeros : List ℕ → Bool
are_zeros bytes = list_all (λ b. b == 0) bytes
