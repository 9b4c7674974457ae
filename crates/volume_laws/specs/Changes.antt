-- A change of a few bytes of one block, and the entry of a reading that it changes.
use Rattle.std.specs.Prelude.{◌≡◌, ◌≢◌, ℕ, ◌+◌, ◌==◌, true, false, List, take, drop, Option, slice_set}
use Rattle.lufs_base.specs.Fields.{put_at}
use Rattle.lufs_base.specs.declared.geometry.Geometry.{Geometry}
use Rattle.volume_model.specs.declared.directory.Slot.{Slot}
use Rattle.volume_model.specs.Format.{Blocks, GroupRecord}
use Rattle.volume_model.specs.Sound.{UsedInode, InodeState, Reading, reading_of, read_length, metadata_length, FileNode}

-- the blocks with these bytes in block b, from byte `at` on
abbrev pub with_bytes : Blocks → (b at : ℕ) → List ℕ → Blocks
with_bytes blocks b at bytes c = elim (c == b) [ true ↦ put_at (blocks c) at bytes | false ↦ blocks c ]

-- Of each block the two have the same bytes at the front, as many as `lengths` says, but perhaps not the n bytes of
-- block b from byte `at` on.
pub record AgreeBut (lengths : ℕ → ℕ) (blocks others : Blocks) (b at n : ℕ) : Type 0 where
  pub elsewhere : (c : ℕ) → c ≢ b → take (lengths c) (others c) ≡ take (lengths c) (blocks c)
  pub before : take at (take (lengths b) (others b)) ≡ take at (take (lengths b) (blocks b))
  pub after : drop (at + n) (take (lengths b) (others b)) ≡ drop (at + n) (take (lengths b) (blocks b))

-- they have the same bytes where the first one is read, but perhaps not these n
abbrev pub AgreeWhereReadBut : Geometry → (blocks others : Blocks) → (b at n : ℕ) → Type 0
AgreeWhereReadBut g blocks others b at n = AgreeBut (read_length g (reading_of g blocks)) blocks others b at n

-- the same but in the bytes of files
abbrev pub AgreeInMetadataBut : Geometry → (blocks others : Blocks) → (b at n : ℕ) → Type 0
AgreeInMetadataBut g blocks others b at n = AgreeBut (metadata_length g (reading_of g blocks)) blocks others b at n

-- the reading with another state of inode i
abbrev pub with_state : Reading → (i : ℕ) → InodeState → Reading
with_state r i state = record r { inodes = slice_set r.inodes i state }

-- the reading with another record of group n, or none
abbrev pub with_group : Reading → (n : ℕ) → Option GroupRecord → Reading
with_group r n group = record r { groups = slice_set r.groups n group }

-- the inode with another chunk k
abbrev pub with_chunk : UsedInode → (k : ℕ) → Option (List Slot) → UsedInode
with_chunk u k chunk = record u { chunks = slice_set u.chunks k chunk }

-- the inode with another number at an index
abbrev pub with_number : UsedInode → (index number : ℕ) → UsedInode
with_number u index number = record u { numbers = slice_set u.numbers index number }

-- the inode with these numbers from an index on
abbrev pub with_numbers : UsedInode → (index : ℕ) → (numbers : List ℕ) → UsedInode
with_numbers u index numbers = record u { numbers = put_at u.numbers index numbers }

-- the file with these bytes at an index
abbrev pub with_block : FileNode → (index : ℕ) → Option (List ℕ) → FileNode
with_block file index bytes = record file { blocks = slice_set file.blocks index bytes }
