-- What a store tells of itself, and what reading does to that.
use Rattle.std.specs.Prelude.{◌≡◌, ◌<◌, ℕ, ◌+◌, ◌*◌, ◌%◌, List, length, Option, Some, None, IfSome}
use Rattle.lufs_base.specs.declared.geometry.Geometry.{Geometry}
use Rattle.volume_model.specs.Format.{Image, block}
use Rattle.sector_disk.specs.Disk.{DiskTold, IsUnwritten}

-- What a store tells of itself at one moment.
pub record StoreTold : Type 0 where
  pub geometry : Geometry
  -- what its blocks hold, where it tells it
  pub content : Option Image
  -- what the disk under it tells
  pub disk : DiskTold

-- what a store without a disk has as its disk: one of no sectors, of which no call was made
abbrev pub no_disk : DiskTold
no_disk = record { sectors = 0; present = None; listed = None; calls = 0; failures = 0; failed_at = 0; faults = 0 }

-- the bytes are those of block b
abbrev pub IsBlockRead : ℕ → List ℕ → StoreTold → Type 0
IsBlockRead b out told = IfSome told.content (λ image. out ≡ block image b)

-- so many bytes are one block or more
abbrev pub AreBlocks : ℕ → Type 0
AreBlocks n = (0 < n) × (n % 4096 ≡ 0)

-- the bytes are those of the blocks from `first` on
abbrev pub AreBlocksRead : ℕ → List ℕ → StoreTold → Type 0
AreBlocksRead first out told = IfSome told.content (λ image. (k : ℕ) → 4096 * k < length out → block out k ≡ block image (first + k))

-- The blocks are as they were, and the disk under them was not written.
pub record IsUnchanged (old new : StoreTold) : Type 0 where
  pub geometry : new.geometry ≡ old.geometry
  pub content : new.content ≡ old.content
  pub disk : IsUnwritten old.disk new.disk

-- what a store of this image in memory tells
abbrev pub plain_told : Geometry → Image → StoreTold
plain_told g image = record { geometry = g; content = Some image; disk = no_disk }
