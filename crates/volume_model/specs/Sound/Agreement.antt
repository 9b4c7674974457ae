-- How many bytes of each block a reading and a tree depend on.
use Rattle.std.specs.Prelude.{◌≡◌, ℕ, ◌-◌, ◌*◌, min, max, ◌==◌, nat_lt, Bool, false, if◌then◌else◌, List, [], ◌∷◌, length, take}
use Rattle.std.specs.Option.{option_map_or}
use Rattle.lufs_base.specs.Layout.{block_size, blocks_of, region_of}
use Rattle.lufs_base.specs.declared.geometry.Geometry.{Geometry}
use Rattle.lufs_base.specs.declared.geometry.Region.{Region}
use Rattle.lufs_base.specs.declared.geometry.Region.TheVariants.{GroupBlock, Inodes}
use Rattle.volume_model.specs.Format.{Blocks, is_file, is_directory}
use Rattle.volume_model.specs.Sound.Readings.{UsedInode, Reading, reading_of, used_at}
use Rattle.volume_model.specs.Sound.Claims.{Claim, Part, AtIndex, AtPointer, claims_of}

-- How many bytes are read of the block at an index of an inode: of a file's all, of a directory's its chunks, and of a
-- link's the text.
abbrev pub index_length : UsedInode → ℕ → ℕ
index_length u index =
    if is_file u.inode.mode then block_size
    else (if is_directory u.inode.mode then 512 * min 8 (length u.chunks - 8 * index) else u.inode.size - block_size * index)

-- of a block that is claimed as this part of it
abbrev pub part_length : UsedInode → Part → ℕ
part_length u (AtIndex index) = index_length u index
part_length u (AtPointer name) = block_size

abbrev pub claim_length : Reading → Claim → ℕ
claim_length r claim = option_map_or (λ u. part_length u claim.part) (used_at r claim.inode) 0

-- the claim is of bytes of a file
abbrev pub is_of_file : UsedInode → Part → Bool
is_of_file u (AtIndex index) = is_file u.inode.mode
is_of_file u (AtPointer name) = false

-- the same without bytes of files
abbrev pub metadata_claim_length : Reading → Claim → ℕ
metadata_claim_length r claim = option_map_or (λ u. if is_of_file u claim.part then 0 else part_length u claim.part) (used_at r claim.inode) 0

-- the greatest of these lengths of claims on block b
abbrev pub greatest_on : (Claim → ℕ) → List Claim → ℕ → ℕ
greatest_on f [] b = 0
greatest_on f (claim ∷ claims) b = max (if claim.block == b then f claim else 0) (greatest_on f claims b)

-- how many bytes of a group block or an inode block are read: the record, or all
abbrev pub record_length : Region → ℕ
record_length (GroupBlock n) = 416
record_length (Inodes n) = block_size
record_length r = 0

abbrev pub length_of_records : Geometry → ℕ → ℕ
length_of_records g b = if nat_lt b (blocks_of g) then record_length (region_of g b) else 0

-- how many bytes of block b are read
unfoldable pub read_length : Geometry → Reading → ℕ → ℕ
read_length g r b = max (length_of_records g b) (greatest_on (claim_length r) (claims_of r) b)

-- how many of them are not bytes of files
unfoldable pub metadata_length : Geometry → Reading → ℕ → ℕ
metadata_length g r b = max (length_of_records g b) (greatest_on (metadata_claim_length r) (claims_of r) b)

-- The two have the same bytes where the first one is read.
abbrev pub AgreeWhereRead : Geometry → Blocks → Blocks → Type 0
AgreeWhereRead g blocks others =
    (b : ℕ) → take (read_length g (reading_of g blocks) b) (others b) ≡ take (read_length g (reading_of g blocks) b) (blocks b)

-- the same but in the bytes of files
abbrev pub AgreeButInFileBytes : Geometry → Blocks → Blocks → Type 0
AgreeButInFileBytes g blocks others =
    (b : ℕ) → take (metadata_length g (reading_of g blocks) b) (others b) ≡ take (metadata_length g (reading_of g blocks) b) (blocks b)
