-- The numbers, modes and bytes in the words of a line.
use Rattle.std.specs.Prelude.{ℕ, ◌+◌, ◌-◌, ◌*◌, ◌%◌, ◌==◌, nat_le, nat_lt, Bool, true, not, ◌&&◌, ◌||◌, if◌then◌else◌, List, [], ◌∷◌, length, Option, Some, None}
use Rattle.std.specs.List.{list_all}

abbrev pub is_digit : ℕ → Bool
is_digit b = nat_le 48 b && nat_le b 57

-- the number that decimal digits give, after the digits of n
abbrev pub digits_from : (n : ℕ) → List ℕ → ℕ
digits_from n [] = n
digits_from n (b ∷ bytes) = digits_from (10 * n + (b - 48)) bytes

-- the word is 0, or its first digit isn't 0
abbrev pub has_no_leading_zero : List ℕ → Bool
has_no_leading_zero [] = true
has_no_leading_zero (b ∷ bytes) = not (b == 48) || length bytes == 0

-- the number that the word is, if it is one below the limit: decimal digits without a leading zero
unfoldable pub number_below : (limit : ℕ) → (word : List ℕ) → Option ℕ
number_below limit word =
    if nat_lt 0 (length word) && list_all is_digit word && has_no_leading_zero word && nat_lt (digits_from 0 word) limit
    then Some (digits_from 0 word) else None

abbrev pub is_octal : ℕ → Bool
is_octal b = nat_le 48 b && nat_le b 55

abbrev pub rights_of : (owner group others : ℕ) → Option ℕ
rights_of owner group others =
    if is_octal owner && is_octal group && is_octal others then Some (64 * (owner - 48) + 8 * (group - 48) + (others - 48)) else None

-- the rights that the word is: three octal digits, or 0 and three
unfoldable pub mode_of : (word : List ℕ) → Option ℕ
mode_of (a ∷ (b ∷ (c ∷ []))) = rights_of a b c
mode_of (z ∷ (a ∷ (b ∷ (c ∷ [])))) = if z == 48 then rights_of a b c else None
mode_of word = None

-- a hexadecimal digit of either case
abbrev pub is_hex_digit : ℕ → Bool
is_hex_digit b = is_digit b || (nat_le 65 b && nat_le b 70) || (nat_le 97 b && nat_le b 102)

abbrev pub hex_value : ℕ → ℕ
hex_value b = if is_digit b then b - 48 else (if nat_le b 70 then b - 55 else b - 87)

-- the bytes of which each two digits are one
abbrev pub bytes_in_pairs : List ℕ → List ℕ
bytes_in_pairs [] = []
bytes_in_pairs (b ∷ []) = []
bytes_in_pairs (b ∷ (c ∷ bytes)) = (16 * hex_value b + hex_value c) ∷ bytes_in_pairs bytes

-- the most bytes that one line may write
abbrev pub most_written : ℕ
most_written = 16384

-- the bytes that the word gives: at least one, two hexadecimal digits for each
unfoldable pub bytes_of_hex : (word : List ℕ) → Option (List ℕ)
bytes_of_hex word =
    if list_all is_hex_digit word && length word % 2 == 0 && nat_lt 0 (length word) && nat_le (length word) (2 * most_written)
    then Some (bytes_in_pairs word) else None

abbrev pub hex_digit : ℕ → ℕ
hex_digit n = if nat_lt n 10 then 48 + n else 87 + n
