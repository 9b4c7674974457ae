-- The home blocks of a volume: those of its groups. All else is the superblock, the log and what no volume reads.
use Rattle.std.specs.Prelude.{◌≡◌, ◌≢◌, ◌<◌, ◌≤◌, ◌⊎◌, ℕ, ◌-◌, ◌*◌, Bool, not, List, bytes_eq}
use Rattle.std.specs.List.{filter, range_with_len}
use Rattle.lufs_base.specs.Layout.{header_sector, group_start, blocks_of}
use Rattle.lufs_base.specs.declared.geometry.Geometry.{Geometry}
use Rattle.volume_model.specs.Format.{Image, Blocks, block}

-- block b is one of the groups
pub record IsHome (g : Geometry) (b : ℕ) : Type 0 where
  pub low : group_start g 0 ≤ b
  pub high : b < blocks_of g

-- all of them, in rising order
abbrev pub home_blocks : Geometry → List ℕ
home_blocks g = range_with_len (group_start g 0) (blocks_of g - group_start g 0)

-- the two have the same home blocks
abbrev pub HaveSameHomes : Geometry → (blocks others : Blocks) → Type 0
HaveSameHomes g blocks others = (b : ℕ) → IsHome g b → others b ≡ blocks b

-- block b of the image isn't what stood there before
abbrev pub differs : (image before : Image) → ℕ → Bool
differs image before b = not (bytes_eq (block before b) (block image b))

-- the home blocks in which the image differs
abbrev pub changed_blocks : Geometry → (image before : Image) → List ℕ
changed_blocks g image before = filter (differs image before) (home_blocks g)

-- the sector is in no home block, and isn't the log's header
abbrev pub IsBesides : Geometry → ℕ → Type 0
IsBesides g k = ((k < 8 * group_start g 0) × (k ≢ header_sector g)) ⊎ (8 * blocks_of g ≤ k)
