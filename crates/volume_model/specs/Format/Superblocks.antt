-- The superblock: sector 16 of the volume.
use Rattle.std.specs.Prelude.{ℕ, ◌+◌, ◌*◌, ◌/◌, ◌==◌, nat_le, Bool, ◌&&◌, if◌then◌else◌, List, ◌++◌, drop, replicate, Option, Some, None}
use Rattle.lufs_base.specs.Fields.{u32_at, are_zeros, field_bytes}
use Rattle.lufs_base.specs.Layout.{superblock_sector, is_step, blocks_of}
use Rattle.lufs_base.specs.declared.geometry.Geometry.{Geometry}
use Rattle.volume_model.specs.Format.Images.{Image, sector, sectors_of}

-- the numbers of a geometry are in their ranges
abbrev pub is_geometry : Geometry → Bool
is_geometry g =
    g.version == 1 && is_step 1 64 1 g.groups && is_step 64 2048 8 g.bpg && is_step 32 1024 32 g.ipg && is_step 256 65536 8 g.log
    && nat_le (2 + g.ipg / 32) g.bpg

-- the numbers that a sector names
abbrev pub named_geometry : List ℕ → Geometry
named_geometry s = record { version = u32_at s 4; groups = u32_at s 8; bpg = u32_at s 12; ipg = u32_at s 16; log = u32_at s 20 }

-- the sector is the superblock of a volume on a disk of so many sectors
abbrev pub is_super : List ℕ → ℕ → Bool
is_super s sectors =
    u32_at s 0 == 0x00011954 && is_geometry (named_geometry s) && u32_at s 24 == blocks_of (named_geometry s)
    && are_zeros (drop 28 s) && nat_le (8 * blocks_of (named_geometry s)) sectors

-- the geometry that it gives
unfoldable pub super_of : List ℕ → ℕ → Option Geometry
super_of s sectors = if is_super s sectors then Some (named_geometry s) else None

-- the geometry of a volume, if the image is one
abbrev pub geometry_of : Image → Option Geometry
geometry_of image = super_of (sector image superblock_sector) (sectors_of image)

-- the sector that a superblock is written as
unfoldable pub super_bytes : Geometry → List ℕ
super_bytes g =
    field_bytes 4 0x00011954 ++ (field_bytes 4 g.version ++ (field_bytes 4 g.groups ++ (field_bytes 4 g.bpg ++ (field_bytes 4 g.ipg
    ++ (field_bytes 4 g.log ++ (field_bytes 4 (blocks_of g) ++ replicate 484 0))))))
