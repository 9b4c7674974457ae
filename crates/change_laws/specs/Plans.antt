-- What a step of a plan writes, and how the record of the one inode that it changes may differ after.
use Rattle.std.specs.Prelude.{◌≡◌, ◌<◌, ℕ, ◌+◌, ◌-◌, ◌/◌, ◌%◌, ◌==◌, nat_le, not, if◌then◌else◌, map, drop, List, [], ◌++◌, length, replicate, slice_index, Option, Some}
use Rattle.std.specs.List.{filter}
use Rattle.std.specs.Option.{option_map}
use Rattle.lufs_base.specs.Layout.{IsGeometry, inode_address}
use Rattle.lufs_base.specs.declared.geometry.Geometry.{Geometry}
use Rattle.volume_model.specs.declared.hand.Hand.{Hand}
use Rattle.volume_model.specs.declared.inode.Dinode.{Dinode}
use Rattle.volume_model.specs.Format.{Blocks, inodes_of}
use Rattle.volume_model.specs.Sound.{direct_blocks, UsedInode, InodeState, reading_of, inode_at, state_at, used_of, used_at, held_inodes, held_blocks, IsStored, Attributes, Node, File, Directory, Link, with_node, node_of, tree_of}
use Rattle.volume_laws.specs.Changes.{AgreeWhereReadBut, with_state}
use Rattle.change_laws.specs.Hands.{HaveTheSame}

-- Of two contents only inode i differs: in the reading what stands in its place, and in the tree its node.
pub record OnlyInodeChanges (g : Geometry) (blocks others : Blocks) (i : ℕ) : Type 0 where
  pub within : i < inodes_of g
  pub reading : reading_of g others ≡ with_state (reading_of g blocks) i (state_at g others i)
  pub tree : tree_of g others ≡ with_node (tree_of g blocks) i (option_map (node_of others) (used_of (state_at g others i)))

-- Of a volume that is stored right while these are held, inode i is in use, and this is its node.
pub record HasInode (g : Geometry) (blocks : Blocks) (hands : List Hand) (i : ℕ) (u : UsedInode) (node : Node) : Type 0 where
  pub geometry : IsGeometry g
  pub stored : IsStored g (reading_of g blocks) hands
  pub used : used_at (reading_of g blocks) i ≡ Some u
  pub stands : tree_of g blocks i ≡ Some node

-- Inode i has another state and another node after, or none. What is stored is right with the hands after, and of the reading
-- and the tree all else is as it was.
pub record ChangesInode (g : Geometry) (blocks others : Blocks) (i : ℕ) (state : InodeState) (node : Option Node) (after : List Hand) : Type 0 where
  pub reading : reading_of g others ≡ with_state (reading_of g blocks) i state
  pub stored : IsStored g (reading_of g others) after
  pub tree : tree_of g others ≡ with_node (tree_of g blocks) i node

-- The record of inode i is this one in the second, and all else that is read in the first is as it was. Blocks that the first
-- doesn't claim may have other bytes.
pub record WritesRecord (g : Geometry) (blocks others : Blocks) (i : ℕ) (d : Option Dinode) : Type 0 where
  pub within : i < inodes_of g
  pub agree : AgreeWhereReadBut g blocks others (inode_address g i / 4096) (inode_address g i % 4096) 128
  pub there : inode_at g others i ≡ Some d

-- a record of the same type and size, with the same numbers of blocks
pub record KeepsBlocks (old new : Dinode) : Type 0 where
  pub type : new.mode / 512 ≡ old.mode / 512
  pub size : new.size ≡ old.size
  pub direct : new.direct ≡ old.direct
  pub indirect : new.indirect ≡ old.indirect
  pub blocks : new.blocks ≡ old.blocks

-- a record of the same type, with room for one chunk more
pub record GrowsByChunk (old new : Dinode) : Type 0 where
  pub type : new.mode / 512 ≡ old.mode / 512
  pub size : new.size ≡ old.size + 512

-- a record with just these blocks, from index 0 on
pub record HasJustBlocks (d : Dinode) (numbers : List ℕ) : Type 0 where
  pub direct : d.direct ≡ numbers ++ replicate (12 - length numbers) 0
  pub indirect : slice_index d.indirect 0 ≡ 0
  pub blocks : d.blocks ≡ length numbers

-- beyond what the others hold, the hands hold just these inodes and blocks
pub record HoldMore (hands others : List Hand) (more_inodes more_blocks : List ℕ) : Type 0 where
  pub inodes : HaveTheSame (held_inodes hands) (more_inodes ++ held_inodes others)
  pub blocks : HaveTheSame (held_blocks hands) (more_blocks ++ held_blocks others)

-- the node with these attributes
abbrev pub with_attributes : Attributes → Node → Node
with_attributes a (File file) = File (record file { attributes = a })
with_attributes a (Directory directory) = Directory (record directory { attributes = a })
with_attributes a (Link link) = Link (record link { attributes = a })

-- the blocks that an inode claims from an index on, and its pointer block where the direct ones are enough for what is left
abbrev pub blocks_past : UsedInode → (index : ℕ) → List ℕ
blocks_past u index = filter (λ b. not (b == 0)) ((if nat_le index direct_blocks then map (λ p. p.block) u.pointers else []) ++ drop index u.numbers)
