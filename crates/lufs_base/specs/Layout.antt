-- Where the parts of a volume lie.
use Rattle.std.specs.Prelude.{◌≡◌, ◌<◌, ◌≤◌, ℕ, ◌+◌, ◌-◌, ◌*◌, ◌/◌, ◌%◌, ◌==◌, nat_lt, nat_le, Bool, true, false, ◌&&◌, if◌then◌else◌}
use Rattle.lufs_base.specs.declared.geometry.Geometry.{Geometry}
use Rattle.lufs_base.specs.declared.geometry.Region.{Region}
use Rattle.lufs_base.specs.declared.geometry.Region.TheVariants.{Boot, Super, Log, GroupBlock, Inodes, Body}

-- the bytes of a sector, of a block, and of a log sector before its trailer
abbrev pub sector_size : ℕ
sector_size = 512

abbrev pub block_size : ℕ
block_size = 4096

abbrev pub payload_size : ℕ
payload_size = 504

-- a number from `low` to `high` that is a multiple of a step
abbrev pub is_step : (low high step : ℕ) → ℕ → Bool
is_step low high step n = nat_le low n && nat_le n high && n % step == 0

-- the numbers are in their ranges
pub record IsGeometry (g : Geometry) : Type 0 where
  pub version : g.version ≡ 1
  pub groups_low : 1 ≤ g.groups
  pub groups_high : g.groups ≤ 64
  pub bpg_low : 64 ≤ g.bpg
  pub bpg_high : g.bpg ≤ 2048
  pub bpg_step : g.bpg % 8 ≡ 0
  pub ipg_low : 32 ≤ g.ipg
  pub ipg_high : g.ipg ≤ 1024
  pub ipg_step : g.ipg % 32 ≡ 0
  pub log_low : 256 ≤ g.log
  pub log_high : g.log ≤ 65536
  pub log_step : g.log % 8 ≡ 0
  -- a group has its group block, its inode blocks and at least one body block
  pub room : 2 + g.ipg / 32 ≤ g.bpg

-- the first block of group n
abbrev pub group_start : Geometry → ℕ → ℕ
group_start g n = 3 + g.log / 8 + n * g.bpg

-- the blocks of the volume
abbrev pub blocks_of : Geometry → ℕ
blocks_of g = group_start g g.groups

-- the sectors of the ring
abbrev pub ring_of : Geometry → ℕ
ring_of g = g.log - 1

-- the sector of the superblock, that of the log's header, and that of a place of the ring
abbrev pub superblock_sector : ℕ
superblock_sector = 16

abbrev pub header_sector : Geometry → ℕ
header_sector g = 24

abbrev pub ring_place : Geometry → ℕ → ℕ
ring_place g place = 25 + place

-- the bytes of deltas that a changing call reserves
abbrev pub need_of : Geometry → ℕ
need_of g = 8000 + 432 * g.groups

-- the byte address of an inode's record: 128 bytes each, from the block after the group block on
abbrev pub inode_address : Geometry → ℕ → ℕ
inode_address g i = 4096 * (group_start g (i / g.ipg) + 1) + 128 * (i % g.ipg)

-- what a block of a group is for, by its place in the group
abbrev pub region_in : Geometry → ℕ → ℕ → Region
region_in g n place = if place == 0 then GroupBlock n else (if nat_le place (g.ipg / 32) then Inodes n else Body n)

-- what a block is for
abbrev pub region_of : Geometry → ℕ → Region
region_of g b =
    if nat_lt b 2 then Boot
    else (if nat_lt b 3 then Super
    else (if nat_lt b (3 + g.log / 8) then Log
    else region_in g ((b - (3 + g.log / 8)) / g.bpg) ((b - (3 + g.log / 8)) % g.bpg)))

-- the block lies where such blocks lie
abbrev pub InRegion : Geometry → ℕ → Region → Type 0
InRegion g b Boot = b < 2
InRegion g b Super = b ≡ 2
InRegion g b Log = (3 ≤ b) × (b < group_start g 0)
InRegion g b (GroupBlock n) = (n < g.groups) × (b ≡ group_start g n)
InRegion g b (Inodes n) = (n < g.groups) × (group_start g n < b) × (b ≤ group_start g n + g.ipg / 32)
InRegion g b (Body n) = (n < g.groups) × (group_start g n + g.ipg / 32 < b) × (b < group_start g (n + 1))

-- how many inodes the volume has, in use or not
abbrev pub inodes_of : Geometry → ℕ
inodes_of g = g.groups * g.ipg

abbrev pub is_body_region : Region → Bool
is_body_region (Body n) = true
is_body_region r = false

-- block b is a body block of the volume
abbrev pub is_body : Geometry → ℕ → Bool
is_body g b = nat_lt b (blocks_of g) && is_body_region (region_of g b)
