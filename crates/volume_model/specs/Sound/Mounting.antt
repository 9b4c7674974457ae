-- What mounting a volume gives.
use Rattle.std.specs.Prelude.{◌≡◌, [], IsSomeAnd}
use Rattle.volume_model.specs.Format.{Image, block, geometry_of}
use Rattle.volume_model.specs.Log.{recovered}
use Rattle.volume_model.specs.Sound.Findings.{Sound}
use Rattle.volume_model.specs.Sound.Trees.{Tree, shape_of}
use Rattle.volume_model.specs.Sound.TreesOfVolumes.{tree_of}
use Rattle.lufs_base.specs.declared.geometry.Geometry.{Geometry}

-- The content is sound while nothing is held, and its tree has this shape.
pub record HasShape (g : Geometry) (content : Image) (shape : Tree) : Type 0 where
  pub sound : Sound g (block content) []
  pub has : shape_of (tree_of g (block content)) ≡ shape

-- Mounting the image gives a tree of this shape: it has a geometry, its log is a list of transactions, and what is
-- recovered is sound and has the shape.
abbrev pub MountsAs : Image → Tree → Type 0
MountsAs image shape = IsSomeAnd (geometry_of image) (λ g. IsSomeAnd (recovered g image) (λ content. HasShape g content shape))
