-- A new volume names its geometry, and recovers as it is, since its log has no transaction.
use Rattle.std.proofs.Common.{◌≡◌, ◌≤◌, ◌*◌, ℕ, List, length, Some, ap, ◌∙◌, arith}
use Rattle.lufs_base.specs.Layout.{IsGeometry, blocks_of}
use Rattle.lufs_base.specs.declared.geometry.Geometry.{Geometry}
use Rattle.volume_model.specs.Format.{Image, sectors_of, super_of, geometry_of}
use Rattle.volume_model.specs.Log.{recovered}
use Rattle.volume_model.specs.MkfsImage.{made_header, IsMkfsImage}
use Rattle.volume_model.proofs.ReplayLaws.{nothing_replayed}
use Rattle.ufs_super.proofs.SuperblockBytes.{super_reads}
use Rattle.new_volume.proofs.NewLog.{new_log}

module _ (g : Geometry) (moment : ℕ) (ok : IsGeometry g) (old new : Image) (is : IsMkfsImage g moment old new) where
  pub new_geometry : 4096 * blocks_of g ≤ length old → geometry_of new ≡ Some g
  new_geometry room =
      let fits : 8 * blocks_of g ≤ sectors_of new = omega (arith, room, is.size) in
      ap (λ (s : List ℕ). super_of s (sectors_of new)) is.superblock ∙ super_reads g (sectors_of new) ok fits

  pub new_recovered : recovered g new ≡ Some new
  new_recovered = nothing_replayed g new made_header (new_log g moment ok old new is)
