-- Bits and the bytes that they are in: bytes that are 0 have clear bits.
use Rattle.std.proofs.Common.{◌≡◌, ℕ, zero, suc, ◌+◌, ◌-◌, ◌*◌, ◌/◌, ◌%◌, ◌^◌, ◌≤◌, true, false, List, [], ◌∷◌, drop, slice_index, eqb, refl, sym, ap, ◌∙◌, arith}
use Rattle.std.proofs.lemmas.List.{get_or-drop}
use Rattle.std.proofs.lemmas.Bool.{and_parts, eqb-true}
use Rattle.std.proofs.lemmas.Nat.Bits.{bit_at-zero}
use Rattle.lufs_base.specs.Fields.{are_zeros}
use Rattle.volume_model.specs.Format.{bit_at}

zero_at : (bytes : List ℕ) → are_zeros bytes ≡ true → (i : ℕ) → slice_index bytes i ≡ 0
zero_at [] are i = refl
zero_at (b ∷ bytes) are zero = eqb-true _ _ (and_parts _ _ are).0
zero_at (b ∷ bytes) are (suc i) = zero_at bytes (and_parts _ _ are).1 i

-- bytes that are 0 from byte k on have clear bits from bit 8 * k on
pub clear_from_zeros : (bits : List ℕ) (k : ℕ) → are_zeros (drop k bits) ≡ true → (i : ℕ) → 8 * k ≤ i → bit_at bits i ≡ false
clear_from_zeros bits k are i past =
    let place : k + (i / 8 - k) ≡ i / 8 = omega arith in
    let byte : slice_index bits (i / 8) ≡ 0 =
    ap (slice_index bits) (sym place) ∙ sym (get_or-drop k bits (i / 8 - k) 0) ∙ zero_at (drop k bits) are (i / 8 - k) in
    ap (λ (b : ℕ). eqb (b / 2 ^ (i % 8) % 2) 1) byte ∙ ap (λ (b : ℕ). eqb b 1) (bit_at-zero (i % 8))
