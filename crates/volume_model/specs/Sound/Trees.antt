-- The tree of a volume as its users see it: files, directories and links by the numbers of their inodes. Block numbers
-- don't occur in it.
use Rattle.std.specs.Prelude.{ℕ, ◌+◌, ◌-◌, ◌/◌, ◌==◌, nat_lt, true, false, if◌then◌else◌, List, [], length, map, sum_by, Option, Some, None, is_some, option_map}
use Rattle.std.specs.List.{count_by, flat_map, range_with_len}
use Rattle.std.specs.Option.{option_map_or}
use Rattle.lufs_base.specs.declared.geometry.Geometry.{Geometry}
use Rattle.volume_model.specs.declared.directory.Slot.{Slot}
use Rattle.volume_model.specs.Format.{inodes_of, body_blocks_of}
use Rattle.volume_model.specs.Sound.Readings.{PointerName}
use Rattle.volume_model.specs.Sound.NameRules.{Names}

-- the rights of an inode, its owner, and when it was last changed, in seconds since 1970
pub record Attributes : Type 0 where
  pub rights : ℕ
  pub uid : ℕ
  pub gid : ℕ
  pub mtime : ℕ

-- A file: its size in bytes, the 4,096 bytes at each index of a block below the size, or none at a hole, and its pointer
-- blocks.
pub record FileNode : Type 0 where
  pub attributes : Attributes
  pub size : ℕ
  pub blocks : List (Option (List ℕ))
  pub pointers : List PointerName

-- a directory: its chunks, each a list of slots
pub record DirectoryNode : Type 0 where
  pub attributes : Attributes
  pub chunks : List (List Slot)

-- a symbolic link and its text
pub record LinkNode : Type 0 where
  pub attributes : Attributes
  pub text : List ℕ

pub data Node : Type 0 where
  File : FileNode → Node
  Directory : DirectoryNode → Node
  Link : LinkNode → Node

-- The node of each inode number, or none where no such inode is in use. How many inodes the volume has doesn't show, so
-- a volume that grows keeps its tree.
abbrev pub Tree : Type 0
Tree = ℕ → Option Node

-- the tree with another node, or none, of inode i (by `elim`, which computes only the node that is asked for)
abbrev pub with_node : Tree → (i : ℕ) → Option Node → Tree
with_node tree i node k = elim (k == i) [ true ↦ node | false ↦ tree k ]

-- the blocks of a directory of so many chunks, eight to a block, and a pointer block where these are more than twelve
abbrev pub directory_blocks : ℕ → ℕ
directory_blocks chunks = (chunks + 7) / 8 + (if nat_lt 12 ((chunks + 7) / 8) then 1 else 0)

-- how many blocks a node claims
abbrev pub claimed_by : Node → ℕ
claimed_by (File file) = count_by is_some file.blocks + length file.pointers
claimed_by (Directory directory) = directory_blocks (length directory.chunks)
claimed_by (Link link) = 1

-- how many blocks inode i claims
abbrev pub claimed_at : Tree → ℕ → ℕ
claimed_at tree i = option_map_or claimed_by (tree i) 0

-- how many blocks the inodes of the volume claim, and how many of them are in use
abbrev pub claimed_in_tree : Geometry → Tree → ℕ
claimed_in_tree g tree = sum_by (claimed_at tree) (range_with_len 0 (inodes_of g))

abbrev pub used_in_tree : Geometry → Tree → ℕ
used_in_tree g tree = count_by (λ i. is_some (tree i)) (range_with_len 0 (inodes_of g))

-- The inodes that are not in use, of those that may be: all but 0 and 1.
unfoldable pub free_inodes_of : Geometry → Tree → ℕ
free_inodes_of g tree = inodes_of g - 2 - used_in_tree g tree

-- the body blocks that no node claims
unfoldable pub free_blocks_of : Geometry → Tree → ℕ
free_blocks_of g tree = body_blocks_of g - claimed_in_tree g tree

-- which blocks a file has, without their bytes
abbrev pub shape_of_block : Option (List ℕ) → Option (List ℕ)
shape_of_block bytes = option_map (λ _. []) bytes

abbrev pub shape_of_node : Node → Node
shape_of_node (File file) = File (record file { blocks = map shape_of_block file.blocks })
shape_of_node (Directory directory) = Directory directory
shape_of_node (Link link) = Link link

-- The shape of a tree: all of it but the bytes of files.
unfoldable pub shape_of : Tree → Tree
shape_of tree i = option_map shape_of_node (tree i)

-- the slots of a node, chunk by chunk, if it is a directory
abbrev pub slots_of_node : Node → Option (List Slot)
slots_of_node (File file) = None
slots_of_node (Directory directory) = Some (flat_map (λ chunk. chunk) directory.chunks)
slots_of_node (Link link) = None

abbrev pub names_in_tree : Tree → Names
names_in_tree tree i = option_map slots_of_node (tree i)
