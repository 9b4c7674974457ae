-- What right numbers say of a directory, and numbers that are tested.
use Rattle.std.proofs.Common.{◌≡◌, ◌<◌, ◌≤◌, inl, inr, ℕ, suc, ◌*◌, leb, true, ◌&&◌, Bool, List, [], ◌∷◌, slice_index, refl, ap, ◌∙◌, arith}
use Rattle.std.specs.Prelude.{nat_lt}
use Rattle.std.specs.List.{list_all}
use Rattle.std.proofs.lemmas.Bool.{and_parts, leb-true, lt-ltb}
use Rattle.lufs_base.specs.declared.geometry.Geometry.{Geometry}
use Rattle.volume_model.specs.Format.{is_directory}
use Rattle.volume_model.specs.Sound.{UsedInode, has_right_numbers}
use Rattle.volume_laws.proofs.FieldFacts.{fields_of_numbers}
use Rattle.volume_laws.proofs.NodeClaims.{sized}
use Rattle.volume_laws.proofs.SameReading.{not_file}

-- A directory has at most 256 blocks.
pub size_of_directory : (g : Geometry) (i : ℕ) (u : UsedInode) → has_right_numbers g i u ≡ true → is_directory u.inode.mode ≡ true → u.inode.size ≤ 4096 * 256
size_of_directory g i u right directory =
    let mode = u.inode.mode in
    let high = leb-true mode 0x41ff (and_parts (leb 0x4000 mode) (leb mode 0x41ff) directory).1 in
    elim (sized g u.inode (fields_of_numbers g i u right).size (not_file mode directory)) [
      | inl whole ↦ leb-true u.inode.size (4096 * 256) (and_parts _ _ whole).1
      | inr link ↦
          let above = leb-true 0xa000 mode (and_parts (leb 0xa000 mode) (leb mode 0xa1ff) (and_parts _ _ (and_parts _ _ link).0).0).0 in
          absurd (omega (arith, above, high))
    ]

-- numbers that are all inside pass the test
pub test_from_inside : (total : ℕ) (numbers : List ℕ) → ((k : ℕ) → slice_index numbers k < total) → list_all (λ n. nat_lt n total) numbers ≡ true
test_from_inside total [] each = refl
test_from_inside total (n ∷ numbers) each =
    ap (λ (b : Bool). b && list_all (λ m. nat_lt m total) numbers) (lt-ltb n total (each 0)) ∙ test_from_inside total numbers (λ k. each (suc k))
