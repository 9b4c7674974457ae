-- What stands in a block of an image that mkfs made, by the region that the block lies in.
use Rattle.std.proofs.Common.{◌≡◌, ◌<◌, ℕ, List, Option, None, sym, ap, subst, ◌∙◌, nat_lt}
use Rattle.std.specs.Prelude.{IfSome}
use Rattle.std.proofs.lemmas.Bool.{cond-true, lt-ltb}
use Rattle.lufs_base.specs.Layout.{IsGeometry, InRegion, blocks_of, region_of}
use Rattle.lufs_base.specs.declared.geometry.Geometry.{Geometry}
use Rattle.lufs_base.specs.declared.geometry.Region.{Region}
use Rattle.lufs_base.proofs.Places.{only_region}
use Rattle.volume_model.specs.Format.{Image, block}
use Rattle.volume_model.specs.MkfsImage.{made_in, made_block, IsMkfsImage}

module _ (g : Geometry) (moment : ℕ) (ok : IsGeometry g) where
  pub made_by_region : (b : ℕ) (r : Region) → InRegion g b r → b < blocks_of g → made_block g moment b ≡ made_in g moment b r
  unfolding made_block
  made_by_region b r lies inside =
      cond-true (nat_lt b (blocks_of g)) (made_in g moment b (region_of g b)) None (lt-ltb b (blocks_of g) inside) ∙ ap (made_in g moment b) (sym (only_region g b r ok lies))

  pub made_there : (old new : Image) → IsMkfsImage g moment old new → (b : ℕ) (r : Region) → InRegion g b r → b < blocks_of g → IfSome (made_in g moment b r) (λ bytes. block new b ≡ bytes)
  made_there old new is b r lies inside = subst (λ (o : Option (List ℕ)). IfSome o (λ bytes. block new b ≡ bytes)) (made_by_region b r lies inside) (is.made b)
