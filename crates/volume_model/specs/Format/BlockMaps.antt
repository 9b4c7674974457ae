-- The blocks of a volume by their numbers, and how many body blocks it has.
use Rattle.std.specs.Prelude.{◌≡◌, ◌<◌, ℕ, ◌+◌, ◌-◌, ◌*◌, ◌/◌, List, length}
use Rattle.lufs_base.specs.Fields.{AreBytes}
use Rattle.lufs_base.specs.Layout.{block_size, blocks_of}
use Rattle.lufs_base.specs.declared.geometry.Geometry.{Geometry}

-- The bytes of each block. Those of an image are `block image`.
abbrev pub Blocks : Type 0
Blocks = ℕ → List ℕ

-- each block of the volume has 4,096 bytes
pub record IsWhole (g : Geometry) (blocks : Blocks) : Type 0 where
  pub size : (b : ℕ) → b < blocks_of g → length (blocks b) ≡ block_size
  pub bytes : (b : ℕ) → b < blocks_of g → AreBytes (blocks b)

-- how many body blocks it has, claimed or not
abbrev pub body_blocks_of : Geometry → ℕ
body_blocks_of g = g.groups * (g.bpg - (1 + g.ipg / 32))
