-- What the test of an inode's fields says, part by part.
use Rattle.std.proofs.Common.{◌≡◌, ℕ, true, ◌||◌, length, drop}
use Rattle.std.specs.Prelude.{nat_lt, ◌==◌}
use Rattle.std.specs.List.{list_all}
use Rattle.std.proofs.lemmas.Bool.{and_parts, eqb-true}
use Rattle.lufs_base.specs.Fields.{are_zeros}
use Rattle.lufs_base.specs.declared.geometry.Geometry.{Geometry}
use Rattle.volume_model.specs.Format.{is_body, is_file}
use Rattle.volume_model.specs.Sound.{UsedInode, claims_in, size_in_blocks, first_index, has_right_size, has_no_hole, has_right_numbers, has_right_fields}

pub record HasRightFields (g : Geometry) (i : ℕ) (u : UsedInode) : Type 0 where
  pub size : has_right_size g u.inode ≡ true
  pub bodies : list_all (λ claim. is_body g claim.block) (claims_in i u) ≡ true
  pub none_past : are_zeros (drop (size_in_blocks u.inode.size) u.numbers) ≡ true
  pub pointers_needed : list_all (λ p. p.block == 0 || nat_lt (first_index p.name) (size_in_blocks u.inode.size)) u.pointers ≡ true
  pub no_hole : (is_file u.inode.mode || has_no_hole u) ≡ true

pub fields_of_numbers : (g : Geometry) (i : ℕ) (u : UsedInode) → has_right_numbers g i u ≡ true → HasRightFields g i u
fields_of_numbers g i u test =
    let four = and_parts _ _ test in
    let three = and_parts _ _ four.0 in
    let two = and_parts _ _ three.0 in
    let one = and_parts _ _ two.0 in
    let past = and_parts _ _ two.1 in
    record { size = one.0; bodies = one.1; none_past = past.0; pointers_needed = past.1; no_hole = three.1 }

pub fields_of_test : (g : Geometry) (i : ℕ) (u : UsedInode) → has_right_fields g i u ≡ true → HasRightFields g i u
fields_of_test g i u test = fields_of_numbers g i u (and_parts _ _ test).1

-- the count of blocks is that of the claims
pub count_of_numbers : (g : Geometry) (i : ℕ) (u : UsedInode) → has_right_numbers g i u ≡ true → u.inode.blocks ≡ length (claims_in i u)
count_of_numbers g i u test = eqb-true u.inode.blocks (length (claims_in i u)) (and_parts _ _ test).1
