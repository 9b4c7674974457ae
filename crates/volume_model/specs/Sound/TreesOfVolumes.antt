-- The tree that a volume stands for.
use Rattle.std.specs.Prelude.{◌≡◌, ℕ, ◌%◌, ◌==◌, if◌then◌else◌, not, List, [], map, take, slice_index, Option, Some, None, unwrap_or, option_map}
use Rattle.std.specs.List.{filter, range_with_len}
use Rattle.lufs_base.specs.Layout.{block_size}
use Rattle.lufs_base.specs.declared.geometry.Geometry.{Geometry}
use Rattle.volume_model.specs.declared.inode.Dinode.{Dinode}
use Rattle.volume_model.specs.declared.hand.Hand.{Hand}
use Rattle.volume_model.specs.Format.{Blocks, is_file, is_directory}
use Rattle.volume_model.specs.Sound.Readings.{UsedInode, Reading, reading_of, used_at, PointerName, block_numbered}
use Rattle.volume_model.specs.Sound.RecordRules.{size_in_blocks}
use Rattle.volume_model.specs.Sound.Findings.{Sound}
use Rattle.volume_model.specs.Sound.Trees.{Attributes, Node, File, Directory, Link, Tree}

-- the rights are the lowest nine bits of the mode
abbrev pub attributes_of : Dinode → Attributes
attributes_of d = record { rights = d.mode % 512; uid = d.uid; gid = d.gid; mtime = d.mtime }

-- the bytes of the file block of this number, or a hole
abbrev pub file_block : Blocks → ℕ → Option (List ℕ)
file_block blocks number = if number == 0 then None else Some (take block_size (blocks number))

abbrev pub file_blocks : Blocks → UsedInode → List (Option (List ℕ))
file_blocks blocks u = map (λ index. file_block blocks (slice_index u.numbers index)) (range_with_len 0 (size_in_blocks u.inode.size))

-- the pointer blocks that an inode has
abbrev pub pointer_names : UsedInode → List PointerName
pointer_names u = map (λ p. p.name) (filter (λ p. not (p.block == 0)) u.pointers)

-- the text of a link is in its one block
abbrev pub link_text : Blocks → UsedInode → List ℕ
link_text blocks u = take u.inode.size (block_numbered blocks (slice_index u.numbers 0))

-- the node that an inode in use is, by its type
abbrev pub node_of : Blocks → UsedInode → Node
node_of blocks u =
    if is_file u.inode.mode
    then File (record { attributes = attributes_of u.inode; size = u.inode.size; blocks = file_blocks blocks u; pointers = pointer_names u })
    else (if is_directory u.inode.mode
    then Directory (record { attributes = attributes_of u.inode; chunks = map (λ chunk. unwrap_or chunk []) u.chunks })
    else Link (record { attributes = attributes_of u.inode; text = link_text blocks u }))

-- the tree in what the records of a volume say
abbrev pub tree_of_reading : Blocks → Reading → Tree
tree_of_reading blocks r i = option_map (node_of blocks) (used_at r i)

-- the node of each inode in use, read from its record and the blocks that it claims
unfoldable pub tree_of : Geometry → Blocks → Tree
tree_of g blocks = tree_of_reading blocks (reading_of g blocks)

-- the volume is sound while these are held, and this is its tree
pub record StandsFor (g : Geometry) (blocks : Blocks) (tree : Tree) (hands : List Hand) : Type 0 where
  pub sound : Sound g blocks hands
  pub stands : tree_of g blocks ≡ tree
