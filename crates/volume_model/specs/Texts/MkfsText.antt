-- What `mkfs` prints of the volume that it made.
use Rattle.std.specs.Prelude.{ℕ, ◌-◌, List, [], ◌∷◌, ◌++◌, codes}
use Rattle.lufs_base.specs.Layout.{blocks_of, ring_of}
use Rattle.lufs_base.specs.declared.geometry.Geometry.{Geometry}
use Rattle.volume_model.specs.Format.{inodes_of, body_blocks_of}
use Rattle.volume_model.specs.Texts.ScanText.{field}

-- the inodes that can be used, the root among them: all but 0 and 1
abbrev pub usable_inodes : Geometry → ℕ
usable_inodes g = inodes_of g - 2

-- the body blocks that are free: all but the root's
abbrev pub free_blocks : Geometry → ℕ
free_blocks g = body_blocks_of g - 1

unfoldable pub mkfs_text : Geometry → List ℕ
mkfs_text g =
    field (codes "made blocks") (blocks_of g)
    ++ (field (codes " inodes") (usable_inodes g) ++ (field (codes " free") (free_blocks g) ++ (field (codes " ring") (ring_of g) ++ (10 ∷ []))))
