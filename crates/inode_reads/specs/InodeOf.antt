-- The record of an inode, by the tree of its volume.
use Rattle.std.specs.Prelude.{◌≡◌, ◌+◌, ℕ, Option, Some, None, IsSomeAnd}
use Rattle.lufs_base.specs.declared.geometry.Geometry.{Geometry}
use Rattle.volume_model.specs.declared.inode.Dinode.{Dinode}
use Rattle.volume_model.specs.Sound.{Node, Tree, claimed_by, attributes_of}
use Rattle.history_model.specs.Places.{attributes_in, links_in}
use Rattle.history_model.specs.Replies.{type_bits, size_of}

-- The record says of inode i what this node is.
pub record IsRecordOf (g : Geometry) (tree : Tree) (i : ℕ) (d : Dinode) (node : Node) : Type 0 where
  -- the bits of its type, and its rights
  pub mode : d.mode ≡ type_bits node + (attributes_in node).rights
  pub attributes : attributes_of d ≡ attributes_in node
  -- in bytes
  pub size : d.size ≡ size_of node
  -- how many blocks it claims, pointer blocks among them
  pub blocks : d.blocks ≡ claimed_by node
  pub links : d.links ≡ links_in g tree i

-- The answer is inode i as the tree has it: none where the tree has no node there, and else a record of that node.
abbrev pub IsInodeOf : Geometry → Tree → (i : ℕ) → Option Dinode → Type 0
IsInodeOf g tree i None = tree i ≡ None
IsInodeOf g tree i (Some d) = IsSomeAnd (tree i) (IsRecordOf g tree i d)
