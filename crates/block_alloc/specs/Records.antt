-- The records of the groups of a volume, as they are kept in memory.
use Rattle.std.specs.Prelude.{◌≡◌, ℕ, ◌-◌, ◌/◌, ◌%◌, Bool, false, not, ◌&&◌, List, map, sum_by, slice_get, Option, Some, None, option_map}
use Rattle.std.specs.Option.{option_flatten, option_map_or}
use Rattle.lufs_base.specs.Layout.{group_start}
use Rattle.lufs_base.specs.declared.geometry.Geometry.{Geometry}
use Rattle.volume_model.specs.Format.{Blocks, bit_at, clear_bits, is_body, IsGroup}
use Rattle.volume_model.specs.Sound.{Reading, reading_of, clear_blocks_of, clear_inodes_of}
use Rattle.cyl_groups.specs.declared.group.Group.{Group}
use Rattle.cyl_groups.specs.Group.{record_of, HasSizesOf}

-- these are the records of all groups, None of one that can't be read
abbrev pub AreRecords : Reading → List (Option Group) → Type 0
AreRecords r records = map (λ x. option_map record_of x) records ≡ r.groups

-- the bits of a group's inodes that are clear, and those of its blocks
abbrev pub clear_inodes_in_record : Geometry → Option Group → ℕ
clear_inodes_in_record g x = option_map_or (λ group. clear_bits group.inode_bits g.ipg) x 0

abbrev pub clear_blocks_in_record : Geometry → Option Group → ℕ
clear_blocks_in_record g x = option_map_or (λ group. clear_bits group.block_bits g.bpg) x 0

-- the clear bits of all these groups
abbrev pub clear_inodes_among : Geometry → List (Option Group) → ℕ
clear_inodes_among g records = sum_by (clear_inodes_in_record g) records

abbrev pub clear_blocks_among : Geometry → List (Option Group) → ℕ
clear_blocks_among g records = sum_by (clear_blocks_in_record g) records

-- so many bits of inodes and of blocks are clear in the records of a volume
abbrev pub AreClear : Geometry → Blocks → (inodes blocks : ℕ) → Type 0
AreClear g volume inodes blocks = (inodes ≡ clear_inodes_of g (reading_of g volume)) × (blocks ≡ clear_blocks_of g (reading_of g volume))

-- this may be what was read of group n: its record with the sizes of the volume, or None where it can't be read
abbrev pub IsReadGroup : Geometry → ℕ → Option Group → Type 0
IsReadGroup g n None = Unit {0}
IsReadGroup g n (Some x) = HasSizesOf g x × IsGroup g n (record_of x)

-- each record at its place
abbrev pub AreReadGroups : Geometry → List (Option Group) → Type 0
AreReadGroups g records = (n : ℕ) → IsReadGroup g n (option_flatten (slice_get records n))

-- the bit of inode i is clear in the record of its group
abbrev pub is_clear_inode : Geometry → List (Option Group) → ℕ → Bool
is_clear_inode g records i =
    option_map_or (λ x. not (bit_at x.inode_bits (i % g.ipg))) (option_flatten (slice_get records (i / g.ipg))) false

-- the same of a block of a group
abbrev pub is_clear_block : Geometry → List (Option Group) → ℕ → Bool
is_clear_block g records b =
    option_map_or (λ x. not (bit_at x.block_bits ((b - group_start g 0) % g.bpg))) (option_flatten (slice_get records ((b - group_start g 0) / g.bpg))) false

-- b is a body block whose bit is clear, and that may be given out now
abbrev pub may_give : Geometry → List (Option Group) → (may : ℕ → Bool) → ℕ → Bool
may_give g records may b = is_body g b && is_clear_block g records b && may b
