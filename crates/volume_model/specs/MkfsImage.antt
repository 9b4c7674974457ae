-- What `mkfs` makes of a disk: an empty volume.
use Rattle.std.specs.Prelude.{◌≡◌, ◌≢◌, ℕ, ◌+◌, ◌-◌, ◌*◌, ◌/◌, ◌^◌, min, ◌==◌, nat_lt, if◌then◌else◌, List, ◌∷◌, length, map, replicate, Option, Some, None, IfSome}
use Rattle.std.specs.List.{range_with_len}
use Rattle.lufs_base.specs.Fields.{put_at}
use Rattle.lufs_base.specs.Layout.{block_size, superblock_sector, blocks_of, group_start, region_of}
use Rattle.lufs_base.specs.declared.geometry.Geometry.{Geometry}
use Rattle.lufs_base.specs.declared.geometry.Region.{Region}
use Rattle.lufs_base.specs.declared.geometry.Region.TheVariants.{Boot, Super, Log, GroupBlock, Inodes, Body}
use Rattle.volume_model.specs.declared.inode.Dinode.{Dinode}
use Rattle.volume_model.specs.declared.log.Header.{Header}
use Rattle.volume_model.specs.Format.{Image, sector, block, super_bytes, GroupRecord, group_bytes, dinode_bytes, new_directory, chunk_bytes}
use Rattle.volume_model.specs.Log.{header_bytes}

-- bytes of which the first n bits are set
abbrev pub first_bits : (n bytes : ℕ) → List ℕ
first_bits n bytes = map (λ i. 2 ^ min 8 (n - 8 * i) - 1) (range_with_len 0 bytes)

-- the inodes of group n that are in use: 0 and 1, which are never free, and the root
abbrev pub used_inodes : ℕ → ℕ
used_inodes n = if n == 0 then 3 else 0

-- the blocks of group n that are in use: its group block, its inode blocks, and that of the root
abbrev pub used_blocks : Geometry → ℕ → ℕ
used_blocks g n = 1 + g.ipg / 32 + (if n == 0 then 1 else 0)

-- the lowest body block is that of the root
abbrev pub root_block : Geometry → ℕ
root_block g = group_start g 0 + 1 + g.ipg / 32

-- the log header of a new volume
abbrev pub made_header : Header
made_header = record { epoch = 1; head = 0; tid = 1 }

abbrev pub made_group : Geometry → ℕ → GroupRecord
made_group g n = record {
  number = n;
  free_inodes = g.ipg - used_inodes n;
  free_blocks = g.bpg - used_blocks g n;
  inode_bits = first_bits (used_inodes n) 128;
  block_bits = first_bits (used_blocks g n) 256;
}

-- the root: a directory of mode 755 with one chunk, made at this moment
abbrev pub made_root : Geometry → ℕ → Dinode
made_root g moment = record {
  mode = 0x41ed;
  links = 2;
  uid = 0;
  gid = 0;
  size = 512;
  mtime = moment;
  direct = root_block g ∷ replicate 11 0;
  indirect = replicate 3 0;
  blocks = 1;
}

-- a block with these bytes from its byte `at`, and zeros elsewhere
abbrev pub block_with : ℕ → List ℕ → List ℕ
block_with at bytes = put_at (replicate block_size 0) at bytes

-- what is made of a block, by what it is for: the record of inode 2 is the third of its block
abbrev pub made_in : Geometry → ℕ → ℕ → Region → Option (List ℕ)
made_in g moment b Boot = None
made_in g moment b Super = None
made_in g moment b Log = Some (if b == 3 then block_with 0 (header_bytes made_header) else replicate block_size 0)
made_in g moment b (GroupBlock n) = Some (block_with 0 (group_bytes (made_group g n)))
made_in g moment b (Inodes n) = Some (if b == group_start g 0 + 1 then block_with 256 (dinode_bytes (Some (made_root g moment))) else replicate block_size 0)
made_in g moment b (Body n) = if b == root_block g then Some (block_with 0 (chunk_bytes (new_directory 2 2))) else None

-- what is made of a block, if anything
unfoldable pub made_block : Geometry → ℕ → ℕ → Option (List ℕ)
made_block g moment b = if nat_lt b (blocks_of g) then made_in g moment b (region_of g b) else None

-- The image `new` is what a new volume of this geometry, made at this moment, makes of the image `old`:
-- besides the superblock's sector, all that no block is made of stays.
pub record IsMkfsImage (g : Geometry) (moment : ℕ) (old new : Image) : Type 0 where
  pub size : length new ≡ length old
  pub superblock : sector new superblock_sector ≡ super_bytes g
  pub made : (b : ℕ) → IfSome (made_block g moment b) (λ bytes. block new b ≡ bytes)
  pub kept : (k : ℕ) → k ≢ superblock_sector → made_block g moment (k / 8) ≡ None → sector new k ≡ sector old k
