-- The block of an inode at an index.
use Rattle.std.specs.Prelude.{ℕ, ◌==◌, nat_lt, not, ◌&&◌, if◌then◌else◌, slice_index, Option, Some, None, option_and_then}
use Rattle.volume_model.specs.Sound.{UsedInode, Reading, used_at}

-- a block of this number, which isn't 0
abbrev pub numbered : ℕ → Option ℕ
numbered number = if number == 0 then None else Some number

-- the same, if it is one of so many blocks
abbrev pub numbered_within : (total : ℕ) → ℕ → Option ℕ
numbered_within total number = if not (number == 0) && nat_lt number total then Some number else None

-- the number of the block that inode i has at this index, if it is in use and has one there
abbrev pub block_mapped : Reading → (i index : ℕ) → Option ℕ
block_mapped r i index = option_and_then (λ u. numbered (slice_index u.numbers index)) (used_at r i)
