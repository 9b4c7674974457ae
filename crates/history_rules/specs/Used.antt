-- Trees whose names are those of inodes in use, and whose files are right.
use Rattle.std.specs.Prelude.{◌≡◌, ◌≤◌, ℕ, true, List, length, Some, None, is_some}
use Rattle.lufs_base.specs.declared.geometry.Geometry.{Geometry}
use Rattle.volume_model.specs.Format.{inodes_of}
use Rattle.volume_model.specs.Sound.{Tree, FileNode, File, size_in_blocks}
use Rattle.history_model.specs.Places.{lookup}

-- No inode past those of the volume is in use, and each name is that of an inode in use.
pub record IsOfUsed (g : Geometry) (tree : Tree) : Type 0 where
  pub within : (i : ℕ) → inodes_of g ≤ i → tree i ≡ None
  pub named : (dir : ℕ) (name : List ℕ) (i : ℕ) → lookup tree dir name ≡ Some i → is_some (tree i) ≡ true

-- The file has an index for each block below its size, and one pointer block at most.
pub record IsRightFile (file : FileNode) : Type 0 where
  pub blocks : length file.blocks ≡ size_in_blocks file.size
  pub pointers : length file.pointers ≤ 1

-- each file of the tree is right
abbrev pub HasRightFiles : Tree → Type 0
HasRightFiles tree = (i : ℕ) (file : FileNode) → tree i ≡ Some (File file) → IsRightFile file
