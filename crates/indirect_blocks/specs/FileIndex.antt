-- Where the number of a file's block stands: 12 numbers in the inode, then 1,024 in its pointer block,
-- then 1,024 pointer blocks after its double one.
use Rattle.std.specs.Prelude.{◌≡◌, ◌<◌, ◌≤◌, ℕ, ◌+◌, ◌-◌, ◌*◌, ◌/◌, ◌%◌, nat_lt, if◌then◌else◌}
use Rattle.indirect_blocks.specs.declared.place.Place.{Place}
use Rattle.indirect_blocks.specs.declared.place.Place.TheVariants.{Direct, Single, Double, Past}

-- the place of the number of the block at this index
abbrev pub place_of : ℕ → Place
place_of index =
    if nat_lt index 12 then Direct index
    else (if nat_lt index 1036 then Single (index - 12)
    else (if nat_lt index 1049612 then Double ((index - 1036) / 1024) ((index - 1036) % 1024)
    else Past))

-- the index at which the number of this place stands
abbrev pub IsPlace : ℕ → Place → Type 0
IsPlace index (Direct n) = (n < 12) × (index ≡ n)
IsPlace index (Single entry) = (entry < 1024) × (index ≡ 12 + entry)
IsPlace index (Double block entry) = (block < 1024) × (entry < 1024) × (index ≡ 12 + 1024 + (1024 * block + entry))
IsPlace index Past = 12 + 1024 + 1024 * 1024 ≤ index
