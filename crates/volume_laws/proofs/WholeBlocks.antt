-- The blocks of an image are whole.
use Rattle.std.proofs.Common.{◌≡◌, ◌<◌, ◌≤◌, inl, inr, ℕ, ◌+◌, ◌*◌, List, length, take, drop, slice_index, sym, ap, ◌∙◌, subst, arith, length-drop, get_or-take, take_all}
use Rattle.std.proofs.lemmas.Bool.{cases_lt}
use Rattle.std.proofs.lemmas.List.{length-take-le, get_or-drop, get_or_past}
use Rattle.lufs_base.specs.Fields.{AreBytes}
use Rattle.lufs_base.specs.Layout.{blocks_of}
use Rattle.lufs_base.specs.declared.geometry.Geometry.{Geometry}
use Rattle.volume_model.specs.Format.{Image, block, IsWhole}

-- a part of bytes is bytes
pub part_is_bytes : (n at : ℕ) (bytes : List ℕ) → AreBytes bytes → AreBytes (take n (drop at bytes))
part_is_bytes n at bytes are i = elim (cases_lt i n) [
  | inl inside ↦
      let same : slice_index (take n (drop at bytes)) i ≡ slice_index bytes (at + i) = get_or-take n (drop at bytes) i 0 inside ∙ get_or-drop at bytes i 0 in
      subst (λ (b : ℕ). b < 256) (sym same) (are (at + i))
  | inr past ↦ elim (cases_lt i (length (take n (drop at bytes)))) [
    | inl inside ↦ absurd (omega (arith, inside, past, short n (drop at bytes)))
    | inr outside ↦ subst (λ (b : ℕ). b < 256) (sym (get_or_past (take n (drop at bytes)) i 0 outside)) (omega arith)
  ]
]
  where
    short : (n : ℕ) (l : List ℕ) → length (take n l) ≤ n
    short n l = elim (cases_lt n (length l)) [
      | inl less ↦ (let size = length-take-le n l (omega (arith, less)) in omega (arith, size))
      | inr more ↦ omega (arith, ap length (take_all n l more), more)
    ]

pub whole_image : (g : Geometry) (image : Image) → 4096 * blocks_of g ≤ length image → AreBytes image → IsWhole g (block image)
whole_image g image room are = record {
  size = λ b below. length-take-le (512 * 8) (drop (512 * (8 * b)) image) (omega (arith, length-drop (512 * (8 * b)) image, room, below));
  bytes = λ b below. part_is_bytes (512 * 8) (512 * (8 * b)) image are;
}
