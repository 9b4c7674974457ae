-- The blocks that a file lacks.
use Rattle.std.specs.Prelude.{◌≡◌, ℕ, if◌then◌else◌}
use Rattle.volume_model.specs.Format.{Blocks}
use Rattle.volume_model.specs.Sound.{UsedInode, FileNode, attributes_of, file_blocks, pointer_names}
use Rattle.history_model.specs.FileBytes.{missing_indexes, misses_pointers}
use Rattle.file_map.specs.declared.block_needs.Needed.{Needed}

-- the file that an inode in use is
abbrev pub file_of_inode : Blocks → UsedInode → FileNode
file_of_inode blocks u = record { attributes = attributes_of u.inode; size = u.inode.size; blocks = file_blocks blocks u; pointers = pointer_names u }

-- these are the blocks that the file of an inode lacks where so many bytes from `offset` on go
pub record IsNeeded (blocks : Blocks) (u : UsedInode) (offset count : ℕ) (needed : Needed) : Type 0 where
  pub indexes : needed.indexes ≡ missing_indexes (file_of_inode blocks u) offset count
  pub pointers : needed.pointers ≡ (if misses_pointers (file_of_inode blocks u) offset count then 1 else 0)
