-- What a crash may leave of `mkfs`.
use Rattle.std.specs.Prelude.{◌≡◌, ℕ, Some, None}
use Rattle.lufs_base.specs.declared.geometry.Geometry.{Geometry}
use Rattle.volume_model.specs.Format.{Image, geometry_of}
use Rattle.volume_model.specs.Log.{recovered}
use Rattle.volume_model.specs.MkfsImage.{IsMkfsImage}
use Rattle.volume_model.specs.Sound.{Opens}

-- The image is what stood there before, or no volume, or a volume of this geometry that opens, and whose log recovers what
-- a new volume, made at this moment, makes of what stood there before.
pub data IsMkfsOutcome (g : Geometry) (moment : ℕ) (before image : Image) : Type 0 where
  unchanged : image ≡ before → IsMkfsOutcome g moment before image
  no_volume : geometry_of image ≡ None → IsMkfsOutcome g moment before image
  whole : (made : Image) → geometry_of image ≡ Some g → recovered g image ≡ Some made → IsMkfsImage g moment before made → Opens image
      → IsMkfsOutcome g moment before image
