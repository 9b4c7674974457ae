-- The numbers in the words of a command, and the ranges of a new volume's numbers.
use Rattle.std.specs.Prelude.{ℕ, ◌+◌, ◌-◌, ◌*◌, ◌^◌, ◌==◌, nat_lt, Bool, not, ◌&&◌, if◌then◌else◌, List, [], ◌∷◌, length, slice_index, Option, Some, None, codes}
use Rattle.std.specs.Str.{all_ascii_digits}
use Rattle.lufs_base.specs.declared.geometry.Geometry.{Geometry}
use Rattle.lufs_base.specs.Layout.{is_step}
use Rattle.lufs_top.specs.declared.numbers.VolumeNumbers.{VolumeNumbers}
use Rattle.lufs_top.specs.declared.numbers.BadNumber.{BadNumber}
use Rattle.lufs_top.specs.declared.numbers.GeometryWord.{GeometryWord}
use Rattle.lufs_top.specs.declared.numbers.GeometryWord.TheVariants.{Groups, Bpg, Ipg, Log, Sectors}

-- the number that digits give, after the digits of n
abbrev pub digits_from : ℕ → List ℕ → ℕ
digits_from n [] = n
digits_from n (c ∷ cs) = digits_from (10 * n + (c - 48)) cs

abbrev pub digits_number : List ℕ → ℕ
digits_number text = digits_from 0 text

abbrev pub has_leading_zero : List ℕ → Bool
has_leading_zero text = nat_lt 1 (length text) && slice_index text 0 == 48

-- digits alone, without a leading zero, of a number that fits in 64 bits
abbrev pub is_number : List ℕ → Bool
is_number text = all_ascii_digits text && nat_lt 0 (length text) && not (has_leading_zero text) && nat_lt (digits_number text) (2 ^ 64)

unfoldable pub number_of : List ℕ → Option ℕ
number_of text = if is_number text then Some (digits_number text) else None

-- The first number that leaves its range, in this order. A group's metadata then has room in it: at
-- most 1 + 1024 / 32 blocks, and a group has at least 64.
unfoldable pub first_out_of_range : VolumeNumbers → Option BadNumber
first_out_of_range n =
    if not (is_step 1 64 1 n.groups) then Some (record { word = Groups; number = n.groups })
    else if not (is_step 64 2048 8 n.bpg) then Some (record { word = Bpg; number = n.bpg })
    else if not (is_step 32 1024 32 n.ipg) then Some (record { word = Ipg; number = n.ipg })
    else if not (is_step 256 65536 8 n.log) then Some (record { word = Log; number = n.log })
    else None

-- the geometry of these numbers
abbrev pub geometry_from : VolumeNumbers → Geometry
geometry_from n = record { version = 1; groups = n.groups; bpg = n.bpg; ipg = n.ipg; log = n.log }

-- what a number of a new volume is called
abbrev pub name_of_number : GeometryWord → List ℕ
name_of_number Groups = codes "G"
name_of_number Bpg = codes "bpg"
name_of_number Ipg = codes "ipg"
name_of_number Log = codes "L"
name_of_number Sectors = codes "sectors"
