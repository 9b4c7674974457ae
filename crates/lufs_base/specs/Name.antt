-- The names that a directory gives.
use Rattle.std.specs.Prelude.{ℕ, ◌==◌, nat_le, Bool, not, ◌&&◌, List, length, IsTrue}
use Rattle.std.specs.List.{list_all}

-- a visible ASCII character other than the slash
abbrev pub is_name_byte : ℕ → Bool
is_name_byte b = nat_le 0x21 b && nat_le b 0x7E && not (b == 0x2F)

-- 1 to 255 such characters
abbrev pub is_name : List ℕ → Bool
is_name bytes = nat_le 1 (length bytes) && nat_le (length bytes) 255 && list_all is_name_byte bytes

-- a directory may give this name
abbrev pub IsName : List ℕ → Type 0
IsName bytes = IsTrue (is_name bytes)
