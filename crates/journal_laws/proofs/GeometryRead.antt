-- The geometry that an image names: its numbers are in their ranges.
use Rattle.std.proofs.Common.{◌≡◌, ◌≤◌, ℕ, ◌%◌, eqb, leb, true, ◌&&◌, Some, None, inl, inr, subst}
use Rattle.std.specs.Prelude.{List}
use Rattle.std.proofs.lemmas.Bool.{cases_Bool, cond-true, cond-false, and_parts, eqb-true, leb-true}
use Rattle.lufs_base.specs.Layout.{is_step, IsGeometry}
use Rattle.lufs_base.specs.declared.geometry.Geometry.{Geometry}
use Rattle.volume_model.specs.Format.{Image, sector, sectors_of, is_geometry, named_geometry, is_super, super_of, geometry_of}

step_parts : (low high step n : ℕ) → is_step low high step n ≡ true → (low ≤ n) × (n ≤ high) × (n % step ≡ 0)
step_parts low high step n test =
    let two = and_parts (leb low n && leb n high) (eqb (n % step) 0) test in
    let one = and_parts (leb low n) (leb n high) two.0 in
    (leb-true low n one.0, leb-true n high one.1, eqb-true (n % step) 0 two.1)

in_ranges : (g : Geometry) → is_geometry g ≡ true → IsGeometry g
in_ranges g test =
    let six = and_parts _ _ test in
    let five = and_parts _ _ six.0 in
    let four = and_parts _ _ five.0 in
    let three = and_parts _ _ four.0 in
    let two = and_parts _ _ three.0 in
    let groups = step_parts 1 64 1 g.groups two.1 in
    let bpg = step_parts 64 2048 8 g.bpg three.1 in
    let ipg = step_parts 32 1024 32 g.ipg four.1 in
    let log = step_parts 256 65536 8 g.log five.1 in
    record {
      version = eqb-true _ _ two.0;
      groups_low = groups.0;
      groups_high = groups.1;
      bpg_low = bpg.0;
      bpg_high = bpg.1;
      bpg_step = bpg.2;
      ipg_low = ipg.0;
      ipg_high = ipg.1;
      ipg_step = ipg.2;
      log_low = log.0;
      log_high = log.1;
      log_step = log.2;
      room = leb-true _ _ six.1;
    }

super_numbers : (s : List ℕ) (sectors : ℕ) (g : Geometry) → super_of s sectors ≡ Some g → IsGeometry g
unfolding super_of
super_numbers s sectors g is =
    elim (cases_Bool (is_super s sectors)) [
      | inl test ↦
          let given : super_of s sectors ≡ Some (named_geometry s) = cond-true (is_super s sectors) (Some (named_geometry s)) None test in
          let named : named_geometry s ≡ g = cc in
          let two = and_parts _ _ (and_parts _ _ (and_parts _ _ test).0).0 in
          subst (λ (k : Geometry). IsGeometry k) named (in_ranges (named_geometry s) (and_parts _ _ two.0).1)
      | inr test ↦ let none : super_of s sectors ≡ None = cond-false (is_super s sectors) (Some (named_geometry s)) None test in absurd (cc)
    ]

-- the numbers of a geometry that an image names
pub numbers_of : (g : Geometry) (image : Image) → geometry_of image ≡ Some g → IsGeometry g
numbers_of g image is = super_numbers (sector image 16) (sectors_of image) g is
