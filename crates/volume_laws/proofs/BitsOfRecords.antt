-- The bits of a record pass its tests: clear bits are bytes that are 0, and set bits are all set.
use Rattle.std.proofs.Common.{◌≡◌, ℕ, zero, suc, ◌+◌, ◌*◌, ◌/◌, ◌%◌, ◌^◌, ◌<◌, ◌≤◌, true, false, List, [], ◌∷◌, drop, slice_index, eqb, inl, inr, refl, sym, ap, ◌∙◌, arith}
use Rattle.std.proofs.lemmas.List.{get_or-drop}
use Rattle.std.proofs.lemmas.Bool.{and_from, eq-eqb, cases_eq}
use Rattle.std.proofs.lemmas.Nat.Bits.{bit_at-zero, bit_at-lt, same_from_bits_below}
use Rattle.std.specs.List.{list_all, range_with_len}
use Rattle.lufs_base.specs.Fields.{AreBytes, are_zeros}
use Rattle.volume_model.specs.Format.{bit_at, are_set}

zeros_from : (bytes : List ℕ) → ((i : ℕ) → slice_index bytes i ≡ 0) → are_zeros bytes ≡ true
zeros_from [] are = refl
zeros_from (b ∷ bytes) are = and_from _ _ (eq-eqb _ _ (are 0)) (zeros_from bytes (λ i. are (suc i)))

bit_is_zero : (b : ℕ) → b < 2 → eqb b 1 ≡ false → b ≡ 0
bit_is_zero b below clear = elim (cases_eq b 1) [
  | inl same ↦ let set = eq-eqb b 1 same in absurd (cc)
  | inr differs ↦ omega arith
]

-- clear bits from bit 8 * k on are bytes that are 0 from byte k on
pub zeros_from_clear : (bits : List ℕ) (k : ℕ) → AreBytes bits → ((i : ℕ) → 8 * k ≤ i → bit_at bits i ≡ false) → are_zeros (drop k bits) ≡ true
zeros_from_clear bits k are clear =
    zeros_from (drop k bits) (λ j.
    get_or-drop k bits j 0 ∙ same_from_bits_below 8 (slice_index bits (k + j)) 0 (are (k + j)) (omega arith) (λ m below.
    let i : ℕ = 8 * (k + j) + m in
    let byte : i / 8 ≡ k + j = omega arith in
    let place : i % 8 ≡ m = omega arith in
    let here : eqb (slice_index bits (k + j) / 2 ^ m % 2) 1 ≡ false =
    ap (λ (p : ℕ). eqb (slice_index bits p / 2 ^ m % 2) 1) (sym byte) ∙ ap (λ (p : ℕ). eqb (slice_index bits (i / 8) / 2 ^ p % 2) 1) (sym place)
    ∙ clear i (omega arith) in
    bit_is_zero (slice_index bits (k + j) / 2 ^ m % 2) (bit_at-lt (slice_index bits (k + j)) m) here ∙ sym (bit_at-zero m)))

range_set : (bits : List ℕ) (a n : ℕ) → ((i : ℕ) → a ≤ i → i < a + n → bit_at bits i ≡ true)
    → list_all (λ i. bit_at bits i) (range_with_len a n) ≡ true
range_set bits a zero set = refl
range_set bits a (suc n) set =
    and_from _ _ (set a (omega arith) (omega arith)) (range_set bits (a + 1) n (λ i low high. set i (omega arith) (omega arith)))

pub set_from_each : (bits : List ℕ) (n : ℕ) → ((i : ℕ) → i < n → bit_at bits i ≡ true) → are_set bits n ≡ true
set_from_each bits n set = range_set bits 0 n (λ i low high. set i (omega arith))
