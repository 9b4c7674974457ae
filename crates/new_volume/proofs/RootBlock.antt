-- The block of the root, which lies in the body of the first group.
use Rattle.std.proofs.Common.{◌≡◌, ◌<◌, true, false, sym, ap, arith}
use Rattle.std.specs.Prelude.{◌==◌}
use Rattle.std.proofs.lemmas.Bool.{ne_eqb, and_from, lt-ltb}
use Rattle.lufs_base.specs.Layout.{IsGeometry, InRegion, blocks_of}
use Rattle.lufs_base.specs.declared.geometry.Geometry.{Geometry}
use Rattle.lufs_base.specs.declared.geometry.Region.TheVariants.{Body}
use Rattle.lufs_base.proofs.Places.{only_region}
use Rattle.volume_model.specs.Format.{is_body, is_body_region}
use Rattle.volume_model.specs.MkfsImage.{root_block}
use Rattle.new_volume.proofs.Groups.{groups_rise}

pub root_is_some : (g : Geometry) → (root_block g == 0) ≡ false
root_is_some g = ne_eqb (root_block g) 0 (λ same. omega (arith, same))

module _ (g : Geometry) (ok : IsGeometry g) where
  pub root_inside : root_block g < blocks_of g
  root_inside = omega (arith, groups_rise g 0 g.groups ok.groups_low, ok.room)

  pub root_in_body : InRegion g (root_block g) (Body 0)
  root_in_body = (ok.groups_low, omega arith, omega (arith, ok.room))

  pub root_is_body : is_body g (root_block g) ≡ true
  root_is_body = and_from _ _ (lt-ltb (root_block g) (blocks_of g) root_inside) (ap is_body_region (sym (only_region g (root_block g) (Body 0) ok root_in_body)))
