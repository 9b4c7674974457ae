-- Which volumes may be opened for calls.
use Rattle.std.specs.Prelude.{◌≡◌, ◌<◌, ◌≤◌, ℕ, [], Some, IsSomeAnd}
use Rattle.lufs_base.specs.Layout.{ring_of, header_sector, ring_place}
use Rattle.lufs_base.specs.declared.geometry.Geometry.{Geometry}
use Rattle.volume_model.specs.declared.log.Header.{Header}
use Rattle.volume_model.specs.Format.{Image, sector, block, geometry_of}
use Rattle.volume_model.specs.Log.{header_of, trailer_of, recovered}
use Rattle.volume_model.specs.Sound.Findings.{Sound}

-- The log has a header, and no sector of the ring has an ident above its epoch.
pub record HasNoLaterIdent (g : Geometry) (image : Image) : Type 0 where
  pub header : Header
  pub reads : header_of g (sector image (header_sector g)) ≡ Some header
  pub idents : (place : ℕ) → place < ring_of g → (trailer_of (sector image (ring_place g place))).ident ≤ header.epoch

pub record OpensWith (g : Geometry) (image : Image) : Type 0 where
  pub sound : IsSomeAnd (recovered g image) (λ content. Sound g (block content) [])
  pub idents : HasNoLaterIdent g image

-- The image has a geometry, its log is a list of transactions, what is recovered is sound while nothing is held, and no
-- sector of the ring has an ident above the epoch of the log's header.
abbrev pub Opens : Image → Type 0
Opens image = IsSomeAnd (geometry_of image) (λ g. OpensWith g image)
