-- Trees that are right.
use Rattle.std.specs.Prelude.{◌≡◌, ◌≤◌, ℕ, None}
use Rattle.lufs_base.specs.declared.geometry.Geometry.{Geometry}
use Rattle.volume_model.specs.Format.{inodes_of}
use Rattle.volume_model.specs.Sound.{Tree, IsRightTree}

-- The names of the tree make one tree below the root, and no inode past those of the volume is in use.
pub record IsRightWithin (g : Geometry) (tree : Tree) : Type 0 where
  pub names : IsRightTree g tree
  pub within : (i : ℕ) → inodes_of g ≤ i → tree i ≡ None
