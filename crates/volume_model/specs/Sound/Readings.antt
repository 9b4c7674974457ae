-- What the records of a volume say: those of its groups and of its inodes, with the pointer blocks and the directories.
use Rattle.std.specs.Prelude.{ℕ, ◌*◌, ◌/◌, ◌%◌, ◌==◌, if◌then◌else◌, List, [], ◌∷◌, ◌++◌, length, take, drop, map, replicate, slice_index, slice_get, Option, Some, None, option_and_then}
use Rattle.std.specs.List.{flat_map, range_with_len}
use Rattle.std.specs.Option.{option_flatten}
use Rattle.lufs_base.specs.Layout.{group_start, inode_address}
use Rattle.lufs_base.specs.declared.geometry.Geometry.{Geometry}
use Rattle.volume_model.specs.declared.inode.Dinode.{Dinode}
use Rattle.volume_model.specs.declared.directory.Slot.{Slot}
use Rattle.volume_model.specs.Format.{Blocks, inodes_of, GroupRecord, group_of, dinode_of, is_directory, chunk_of, pointers_of}

-- the direct blocks of an inode, and the numbers of a pointer block
abbrev pub direct_blocks : ℕ
direct_blocks = 12

abbrev pub pointers_of_block : ℕ
pointers_of_block = 1024

-- the name of a pointer block of an inode
pub data PointerName : Type 0 where
  -- the one whose number stands in the inode's record, with the numbers from index 12 on
  Single : PointerName

-- a pointer block that an inode may have, and its number, 0 for none
pub record NamedPointer : Type 0 where
  pub name : PointerName
  pub block : ℕ

-- An inode in use: its record, each pointer block that it may have, in the order of the indexes that they serve, the
-- number of the block at each index, 0 for none, and the chunks of a directory, of which one that is no chunk is None.
pub record UsedInode : Type 0 where
  pub inode : Dinode
  pub pointers : List NamedPointer
  pub numbers : List ℕ
  pub chunks : List (Option (List Slot))

-- what stands in the place of an inode's record
pub data InodeState : Type 0 where
  NoRecord : InodeState
  Unused : InodeState
  InUse : UsedInode → InodeState

-- the record of each group, if it is one, and what each inode is
pub record Reading : Type 0 where
  pub groups : List (Option GroupRecord)
  pub inodes : List InodeState

-- the record of group n
abbrev pub group_at : Geometry → Blocks → ℕ → Option GroupRecord
group_at g blocks n = group_of g n (take 416 (blocks (group_start g n)))

-- the record of inode i
abbrev pub inode_at : Geometry → Blocks → ℕ → Option (Option Dinode)
inode_at g blocks i = dinode_of g.version (take 128 (drop (inode_address g i % 4096) (blocks (inode_address g i / 4096))))

-- the pointer blocks that an inode may have
abbrev pub named_pointers : Dinode → List NamedPointer
named_pointers d = record { name = Single; block = slice_index d.indirect 0 } ∷ []

-- the block of this number; nothing where it is 0, which stands for none
abbrev pub block_numbered : Blocks → ℕ → List ℕ
block_numbered blocks number = if number == 0 then [] else blocks number

-- the numbers of a pointer block; zeros where there is none
abbrev pub pointers_at : Blocks → ℕ → List ℕ
pointers_at blocks number = if number == 0 then replicate pointers_of_block 0 else pointers_of (blocks number)

-- the number of the block at each index: the direct ones, and after them those of the pointer blocks
abbrev pub numbers_of : Blocks → Dinode → List ℕ
numbers_of blocks d = d.direct ++ flat_map (λ p. pointers_at blocks p.block) (named_pointers d)

-- chunk k of a directory: there are eight to a block
abbrev pub chunk_at : Blocks → List ℕ → ℕ → Option (List Slot)
chunk_at blocks numbers k = chunk_of (take 512 (drop (512 * (k % 8)) (block_numbered blocks (slice_index numbers (k / 8)))))

abbrev pub chunks_at : Blocks → Dinode → List (Option (List Slot))
chunks_at blocks d = if is_directory d.mode then map (chunk_at blocks (numbers_of blocks d)) (range_with_len 0 (d.size / 512)) else []

abbrev pub used_inode : Blocks → Dinode → UsedInode
used_inode blocks d = record { inode = d; pointers = named_pointers d; numbers = numbers_of blocks d; chunks = chunks_at blocks d }

abbrev pub state_of : Blocks → Option (Option Dinode) → InodeState
state_of blocks None = NoRecord
state_of blocks (Some None) = Unused
state_of blocks (Some (Some d)) = InUse (used_inode blocks d)

-- what stands in the place of inode i's record
abbrev pub state_at : Geometry → Blocks → ℕ → InodeState
state_at g blocks i = state_of blocks (inode_at g blocks i)

-- what the records of a volume say
unfoldable pub reading_of : Geometry → Blocks → Reading
reading_of g blocks = record {
  groups = map (group_at g blocks) (range_with_len 0 g.groups);
  inodes = map (state_at g blocks) (range_with_len 0 (inodes_of g));
}

-- how many inodes there are, in use or not
abbrev pub inodes_in : Reading → ℕ
inodes_in r = length r.inodes

abbrev pub used_of : InodeState → Option UsedInode
used_of NoRecord = None
used_of Unused = None
used_of (InUse u) = Some u

-- inode i, if it is in use
abbrev pub used_at : Reading → ℕ → Option UsedInode
used_at r i = option_and_then used_of (slice_get r.inodes i)

-- the record of group n, if there is one
abbrev pub record_at : Reading → ℕ → Option GroupRecord
record_at r n = option_flatten (slice_get r.groups n)
