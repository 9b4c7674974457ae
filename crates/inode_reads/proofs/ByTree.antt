-- What holds of each tree that a content stands for.
use Rattle.std.proofs.Common.{List, Option, Some, None, IfSome}
use Rattle.lufs_base.specs.declared.geometry.Geometry.{Geometry}
use Rattle.volume_model.specs.declared.hand.Hand.{Hand}
use Rattle.volume_model.specs.Format.{Image, block}
use Rattle.volume_model.specs.Sound.{Tree, StandsFor}

abbrev pub ByTree : Geometry → Option Image → (Tree → Type 0) → Type 0
ByTree g content P = IfSome content (λ image. (tree : Tree) (hands : List Hand) → StandsFor g (block image) tree hands → P tree)

-- what holds of every tree
pub always : (g : Geometry) (content : Option Image) (P : Tree → Type 0) → ((tree : Tree) → P tree) → ByTree g content P
always g None P each = tt
always g (Some image) P each = λ tree hands stands. each tree

-- what follows of each tree
pub follows : (g : Geometry) (content : Option Image) (P Q : Tree → Type 0) → ((tree : Tree) → P tree → Q tree) → ByTree g content P → ByTree g content Q
follows g None P Q each given = tt
follows g (Some image) P Q each given = λ tree hands stands. each tree (given tree hands stands)

-- and of both
pub follows_both : (g : Geometry) (content : Option Image) (P Q R : Tree → Type 0) → ((tree : Tree) → P tree → Q tree → R tree) → ByTree g content P → ByTree g content Q → ByTree g content R
follows_both g None P Q R each given more = tt
follows_both g (Some image) P Q R each given more = λ tree hands stands. each tree (given tree hands stands) (more tree hands stands)
