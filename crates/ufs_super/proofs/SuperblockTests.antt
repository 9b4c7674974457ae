-- What a superblock's test says, test by test.
use Rattle.std.proofs.Common.{◌≡◌, ℕ, ◌*◌, ◌≤◌, true, List, drop, Some, None, inl, inr}
use Rattle.std.proofs.lemmas.Bool.{cases_Bool, cond-true, cond-false, and_parts, and_from, eqb-true, eq-eqb, leb-true, le-leb}
use Rattle.lufs_base.specs.Fields.{u32_at, are_zeros}
use Rattle.lufs_base.specs.Layout.{blocks_of}
use Rattle.lufs_base.specs.declared.geometry.Geometry.{Geometry}
use Rattle.volume_model.specs.Format.{is_geometry, named_geometry, is_super, super_of}
use Rattle.lufs_base.proofs.TestedValue.{refused, given}

pub record IsSuper (s : List ℕ) (sectors : ℕ) : Type 0 where
  pub magic : u32_at s 0 ≡ 0x00011954
  pub range : is_geometry (named_geometry s) ≡ true
  pub blocks : u32_at s 24 ≡ blocks_of (named_geometry s)
  pub zeros : are_zeros (drop 28 s) ≡ true
  pub fits : 8 * blocks_of (named_geometry s) ≤ sectors

parts : (s : List ℕ) (sectors : ℕ) → is_super s sectors ≡ true → IsSuper s sectors
parts s sectors test =
    let four = and_parts _ _ test in
    let three = and_parts _ _ four.0 in
    let two = and_parts _ _ three.0 in
    let one = and_parts _ _ two.0 in
    record {
      magic = eqb-true _ _ one.0;
      range = one.1;
      blocks = eqb-true _ _ two.1;
      zeros = three.1;
      fits = leb-true _ _ four.1;
    }

pub no_super : (s : List ℕ) (sectors : ℕ) → (IsSuper s sectors → ⊥) → None ≡ super_of s sectors
unfolding super_of
no_super s sectors fails = refused (is_super s sectors) (named_geometry s) (λ test. fails (parts s sectors test))

pub a_super : (s : List ℕ) (sectors : ℕ) (g : Geometry) → IsSuper s sectors → g ≡ named_geometry s → Some g ≡ super_of s sectors
unfolding super_of
a_super s sectors g is same =
    given (is_super s sectors) (named_geometry s) g
    (and_from _ _ (and_from _ _ (and_from _ _ (and_from _ _ (eq-eqb _ _ is.magic) is.range) (eq-eqb _ _ is.blocks)) is.zeros) (le-leb _ _ is.fits))
    same

-- a sector that gives a geometry passes each test, and names it
pub is_super_of : (s : List ℕ) (sectors : ℕ) (g : Geometry) → super_of s sectors ≡ Some g → IsSuper s sectors × (g ≡ named_geometry s)
unfolding super_of
is_super_of s sectors g is =
    elim (cases_Bool (is_super s sectors)) [
      | inl test ↦ (parts s sectors test, let given : super_of s sectors ≡ Some (named_geometry s) = cond-true (is_super s sectors) (Some (named_geometry s)) None test in cc)
      | inr test ↦ let none : super_of s sectors ≡ None = cond-false (is_super s sectors) (Some (named_geometry s)) None test in absurd (cc)
    ]
