-- What holds of a tree that a content stands for, where it is told.
use Rattle.std.proofs.Common.{List, Option, IfSome}
use Rattle.lufs_base.specs.declared.geometry.Geometry.{Geometry}
use Rattle.volume_model.specs.declared.hand.Hand.{Hand}
use Rattle.volume_model.specs.Format.{Image, block}
use Rattle.volume_model.specs.Sound.{Tree, StandsFor}

abbrev pub Holds : Option Image → Geometry → Tree → List Hand → Type 0 → Type 0
Holds content g tree hands P = IfSome content (λ image. StandsFor g (block image) tree hands → P)
