-- The rules of a sound volume about the bits of its groups and the counts of those that are clear.
use Rattle.std.specs.Prelude.{ℕ, ◌-◌, ◌/◌, ◌%◌, ◌==◌, nat_le, Bool, false, not, ◌&&◌, ◌||◌, if◌then◌else◌, List, sum_by, is_some}
use Rattle.std.specs.List.{range_with_len}
use Rattle.std.specs.Option.{option_map_or}
use Rattle.lufs_base.specs.Layout.{group_start}
use Rattle.lufs_base.specs.declared.geometry.Geometry.{Geometry}
use Rattle.volume_model.specs.declared.hand.Hand.{Hand}
use Rattle.volume_model.specs.Format.{is_body, GroupRecord, bit_at, clear_bits}
use Rattle.volume_model.specs.Sound.Readings.{Reading, record_at, used_at}
use Rattle.volume_model.specs.Sound.Claims.{is_claimed}
use Rattle.volume_model.specs.Sound.Hands.{held_inodes, held_blocks, is_among}

-- the bit of inode i
abbrev pub inode_bit : Geometry → Reading → ℕ → Bool
inode_bit g r i = option_map_or (λ group. bit_at group.inode_bits (i % g.ipg)) (record_at r (i / g.ipg)) false

-- the bit of block b of a group
abbrev pub block_bit : Geometry → Reading → ℕ → Bool
block_bit g r b =
    option_map_or (λ group. bit_at group.block_bits ((b - group_start g 0) % g.bpg)) (record_at r ((b - group_start g 0) / g.bpg)) false

-- the two tests give different answers
abbrev pub differ : Bool → Bool → Bool
differ p q = if p then not q else q

-- the bit of inode i doesn't say whether it is in use or held
abbrev pub has_bad_inode_bit : Geometry → Reading → List Hand → ℕ → Bool
has_bad_inode_bit g r hands i =
    nat_le 2 i && differ (inode_bit g r i) (is_some (used_at r i) || is_among i (held_inodes hands))

-- b is a body block, and its bit doesn't say whether it is claimed or held
abbrev pub has_bad_block_bit : Geometry → Reading → List Hand → ℕ → Bool
has_bad_block_bit g r hands b =
    is_body g b && differ (block_bit g r b) (is_claimed r b || is_among b (held_blocks hands))

-- both counts are those of the clear bits
abbrev pub has_right_counts : Geometry → GroupRecord → Bool
has_right_counts g group =
    group.free_inodes == clear_bits group.inode_bits g.ipg && group.free_blocks == clear_bits group.block_bits g.bpg

abbrev pub has_bad_count : Geometry → Reading → ℕ → Bool
has_bad_count g r n = option_map_or (λ group. not (has_right_counts g group)) (record_at r n) false

-- the bits of group n's blocks that are clear
abbrev pub clear_in : Geometry → Reading → ℕ → ℕ
clear_in g r n = option_map_or (λ group. clear_bits group.block_bits g.bpg) (record_at r n) 0

-- the bits of blocks that are clear, in all groups
abbrev pub clear_blocks_of : Geometry → Reading → ℕ
clear_blocks_of g r = sum_by (clear_in g r) (range_with_len 0 g.groups)

-- the bits of group n's inodes that are clear
abbrev pub clear_inodes_in : Geometry → Reading → ℕ → ℕ
clear_inodes_in g r n = option_map_or (λ group. clear_bits group.inode_bits g.ipg) (record_at r n) 0

-- the bits of inodes that are clear, in all groups
abbrev pub clear_inodes_of : Geometry → Reading → ℕ
clear_inodes_of g r = sum_by (clear_inodes_in g r) (range_with_len 0 g.groups)
