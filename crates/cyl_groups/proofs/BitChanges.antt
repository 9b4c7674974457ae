-- A bit of a list of bytes, set or cleared in its byte.
use Rattle.std.proofs.Common.{◌≡◌, ◌≢◌, ℕ, ◌*◌, ◌/◌, ◌%◌, ◌^◌, ◌<◌, List, length, slice_index, slice_set, eqb, inl, inr, sym, ap, ◌∙◌, arith}
use Rattle.std.proofs.lemmas.List.{get_or-set_same, get_or-set_other}
use Rattle.std.proofs.lemmas.Bool.{cases_eq}
use Rattle.volume_model.specs.Format.{HasBit}

-- bit k of a byte
abbrev bit_of : ℕ → ℕ → ℕ
bit_of x k = x / 2 ^ k % 2

-- A byte that differs in one bit only, in the place of the byte with that bit.
pub byte_put : (bits : List ℕ) (i x value : ℕ) → i < 8 * length bits → bit_of x (i % 8) ≡ value
    → ((k : ℕ) → k < 8 → k ≢ i % 8 → bit_of x k ≡ bit_of (slice_index bits (i / 8)) k)
    → HasBit i (eqb value 1) bits (slice_set bits (i / 8) x)
byte_put bits i x value fits here there = record {
  bit =
      ap (λ (b : ℕ). eqb (bit_of b (i % 8)) 1) (get_or-set_same bits (i / 8) x 0 (omega arith)) ∙ ap (λ (b : ℕ). eqb b 1) here;
  others = λ j apart. elim (cases_eq (j / 8) (i / 8)) [
    | inl same ↦
        let moved : slice_index (slice_set bits (i / 8) x) (j / 8) ≡ x =
        ap (λ (k : ℕ). slice_index (slice_set bits (i / 8) x) k) same ∙ get_or-set_same bits (i / 8) x 0 (omega arith) in
        let kept = there (j % 8) (omega arith) (λ at. apart (omega arith)) in
        ap (λ (b : ℕ). eqb (bit_of b (j % 8)) 1) moved ∙ ap (λ (b : ℕ). eqb b 1) kept
        ∙ ap (λ (k : ℕ). eqb (bit_of (slice_index bits k) (j % 8)) 1) (sym same)
    | inr differs ↦ ap (λ (b : ℕ). eqb (bit_of b (j % 8)) 1) (get_or-set_other bits (i / 8) (j / 8) x 0 differs)
  ];
}
