-- The geometry of an image that a disk tells, by its size and the sector that was read of it.
use Rattle.std.proofs.Common.{◌≡◌, ℕ, ◌/◌, ◌≤◌, true, List, length, Option, Some, None, Err, sym, ◌∙◌, ap, arith}
use Rattle.std.specs.Prelude.{IfSome}
use Rattle.std.proofs.lemmas.Bool.{and_parts, leb-true}
use Rattle.lufs_base.specs.declared.geometry.Geometry.{Geometry}
use Rattle.volume_model.specs.Format.{Image, sectors_of, sectors_from, sector, is_geometry, named_geometry, super_of, geometry_of}
use Rattle.ufs_super.proofs.SuperblockTests.{no_super}
use Rattle.log_scan.specs.Answers.{IsGeometryAnswer}
use Rattle.log_scan.specs.declared.geometry.GeometryError.TheVariants.{NotVolume}

log_of_geometry : (g : Geometry) → is_geometry g ≡ true → 256 ≤ g.log
log_of_geometry g test =
    let room = and_parts _ _ test in
    let log = and_parts _ _ room.0 in
    leb-true _ _ (and_parts _ _ (and_parts _ _ log.1).0).0

-- a volume has more than 16 sectors
super_of-small : (s : List ℕ) (n : ℕ) → n ≤ 16 → super_of s n ≡ None
super_of-small s n small = sym (no_super s n (λ is. let log = log_of_geometry (named_geometry s) is.range in omega (arith, is.fits, log, small)))

pub small_told : (present : Option Image) (sectors n : ℕ) → IfSome present (λ image. sectors_of image ≡ sectors) → n ≡ sectors → n ≤ 16
    → IfSome present (λ image. IsGeometryAnswer (geometry_of image) (Err NotVolume))
small_told None sectors n size same small = tt
small_told (Some image) sectors n size same small = super_of-small (sector image 16) (sectors_of image) (omega (arith, size, same, small))

pub read_told : (present : Option Image) (sectors n : ℕ) (s : List ℕ) (found : Option Geometry) → IfSome present (λ image. sectors_of image ≡ sectors) → n ≡ sectors → length s ≡ 512
    → IfSome present (λ image. s ≡ sectors_from image 16 (length s / 512)) → found ≡ super_of s n
    → IfSome present (λ image. geometry_of image ≡ found)
read_told None sectors n s found size same bytes read is = tt
read_told (Some image) sectors n s found size same bytes read is =
    let one : length s / 512 ≡ 1 = omega (arith, bytes) in
    let there : s ≡ sector image 16 = read ∙ ap (λ (k : ℕ). sectors_from image 16 k) one in
    sym (is ∙ ap (λ (x : List ℕ). super_of x n) there ∙ ap (λ (k : ℕ). super_of (sector image 16) k) (same ∙ sym size))
