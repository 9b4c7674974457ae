-- Bytes of which the first bits are set: each bit, and how many are clear.
use Rattle.std.proofs.Common.{◌≡◌, ◌<◌, ◌≤◌, ℕ, zero, suc, ◌+◌, ◌-◌, ◌*◌, ◌/◌, ◌%◌, ◌^◌, min, eqb, Bool, true, false, if◌then◌else◌, length, slice_index, inl, inr, ap, sym, ◌∙◌, arith, nat_lt}
use Rattle.std.proofs.Math.Nat.{pow-le-pow_right}
use Rattle.std.proofs.lemmas.Bool.{cases_lt, lt-ltb, le-ltb, eq-eqb}
use Rattle.std.proofs.lemmas.List.{get_or_past}
use Rattle.std.proofs.lemmas.List.FromFn.{get_or-map-range_with_len, length-map-range_with_len}
use Rattle.std.proofs.lemmas.Nat.Bits.{bit_at-zero, bit_at_ones, bit_at_ones_above}
use Rattle.lufs_base.specs.Fields.{AreBytes}
use Rattle.volume_model.specs.Format.{bit_at, clear_bits}
use Rattle.volume_model.specs.MkfsImage.{first_bits}

pub length-first_bits : (n count : ℕ) → length (first_bits n count) ≡ count
length-first_bits n count = length-map-range_with_len (λ i. 2 ^ min 8 (n - 8 * i) - 1) 0 count

pub byte_of_first : (n count i : ℕ) → i < count → slice_index (first_bits n count) i ≡ 2 ^ min 8 (n - 8 * i) - 1
byte_of_first n count i below = get_or-map-range_with_len (λ k. 2 ^ min 8 (n - 8 * k) - 1) 0 count i i 0 below (omega arith)

pub first_bits_are_bytes : (n count : ℕ) → AreBytes (first_bits n count)
first_bits_are_bytes n count i = elim (cases_lt i count) [
  | inl below ↦
      let high : 2 ^ min 8 (n - 8 * i) ≤ 2 ^ 8 = pow-le-pow_right {n = 2} (omega arith) {i = min 8 (n - 8 * i)} {j = 8} (omega arith) in
      let byte = byte_of_first n count i below in
      omega (arith, byte, high)
  | inr past ↦
      let none : slice_index (first_bits n count) i ≡ 0 = get_or_past (first_bits n count) i 0 (omega (arith, length-first_bits n count, past)) in
      omega (arith, none)
]

-- a bit of one of the bytes
bit_in_bytes : (n count k : ℕ) → k < 8 * count → bit_at (first_bits n count) k ≡ eqb ((2 ^ min 8 (n - 8 * (k / 8)) - 1) / 2 ^ (k % 8) % 2) 1
bit_in_bytes n count k below = ap (λ (b : ℕ). eqb (b / 2 ^ (k % 8) % 2) 1) (byte_of_first n count (k / 8) (omega (arith, below)))

-- the bits below n are set, as far as there are bytes, and the others are clear
pub first_bit_set : (n count k : ℕ) → k < n → k < 8 * count → bit_at (first_bits n count) k ≡ true
first_bit_set n count k below within =
    bit_in_bytes n count k within ∙ eq-eqb _ _ (bit_at_ones (min 8 (n - 8 * (k / 8))) (k % 8) (omega (arith, below)))

pub first_bit_clear : (n count k : ℕ) → n ≤ k → bit_at (first_bits n count) k ≡ false
first_bit_clear n count k past = elim (cases_lt k (8 * count)) [
  | inl within ↦
      bit_in_bytes n count k within ∙ ap (λ (b : ℕ). eqb b 1) (bit_at_ones_above (min 8 (n - 8 * (k / 8))) (k % 8) (omega (arith, past)))
  | inr behind ↦
      let none : slice_index (first_bits n count) (k / 8) ≡ 0 = get_or_past (first_bits n count) (k / 8) 0 (omega (arith, length-first_bits n count, behind)) in
      ap (λ (b : ℕ). eqb (b / 2 ^ (k % 8) % 2) 1) none ∙ ap (λ (b : ℕ). eqb b 1) (bit_at-zero (k % 8))
]

-- so each of them says whether its place is below n
pub first_bit : (n count k : ℕ) → n ≤ 8 * count → bit_at (first_bits n count) k ≡ nat_lt k n
first_bit n count k fits = elim (cases_lt k n) [
  | inl below ↦ first_bit_set n count k below (omega (arith, below, fits)) ∙ sym (lt-ltb k n below)
  | inr past ↦ first_bit_clear n count k past ∙ sym (le-ltb k n past)
]

-- how many of the first m are clear
pub clear_in_first : (n count m : ℕ) → n ≤ 8 * count → clear_bits (first_bits n count) m ≡ m - n
unfolding clear_bits
clear_in_first n count zero fits = let none : 0 ≡ 0 - n = omega arith in none
clear_in_first n count (suc m) fits =
    ap (λ (b : Bool). clear_bits (first_bits n count) m + (if b then 0 else 1)) (first_bit n count m fits)
    ∙ ap (λ (k : ℕ). k + (if nat_lt m n then 0 else 1)) (clear_in_first n count m fits) ∙ one_more n m
  where
    one_more : (n m : ℕ) → m - n + (if nat_lt m n then 0 else 1) ≡ suc m - n
    one_more n m = elim (cases_lt m n) [
      | inl below ↦
          ap (λ (b : Bool). m - n + (if b then 0 else 1)) (lt-ltb m n below) ∙ (let same : m - n + 0 ≡ suc m - n = omega (arith, below) in same)
      | inr past ↦
          ap (λ (b : Bool). m - n + (if b then 0 else 1)) (le-ltb m n past) ∙ (let same : m - n + 1 ≡ suc m - n = omega (arith, past) in same)
    ]
