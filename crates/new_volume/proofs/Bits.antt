-- Bytes whose first bits are set, put in one after the other.
use Rattle.std.proofs.Common.{◌≡◌, ◌<◌, ◌≤◌, ℕ, ◌+◌, ◌-◌, ◌*◌, ◌^◌, min, List, length, slice_index, set, inl, inr, ap, sym, ◌∙◌, arith}
use Rattle.std.proofs.lemmas.List.{ext_get_or, get_or-set_same, get_or-set_other, length-set}
use Rattle.volume_model.specs.MkfsImage.{first_bits}
use Rattle.new_volume.proofs.FirstBits.{length-first_bits, byte_of_first}
use Rattle.std.proofs.lemmas.Bool.{cases_lt}

-- the bytes that are put so far
pub record ArePut (n count done : ℕ) (bits : List ℕ) : Type 0 where
  pub size : length bits ≡ count
  pub put : (k : ℕ) → k < done → slice_index bits k ≡ 2 ^ min 8 (n - 8 * k) - 1

pub one_more : (n count i x : ℕ) (bits : List ℕ) → i < count → x ≡ 2 ^ min 8 (n - 8 * i) - 1 → ArePut n count i bits → ArePut n count (i + 1) (set bits i x)
one_more n count i x bits within is so_far = record {
  size = length-set bits i x ∙ so_far.size;
  put = λ k below.
      elim (cases_lt k i) [
        | inl before ↦ get_or-set_other bits i k x 0 (λ same. omega (arith, same, before)) ∙ so_far.put k before
        | inr here ↦
            let same : k ≡ i = omega (arith, below, here) in
            ap (λ (j : ℕ). slice_index (set bits i x) j) same ∙ get_or-set_same bits i x 0 (omega (arith, within, so_far.size)) ∙ is
            ∙ ap (λ (j : ℕ). 2 ^ min 8 (n - 8 * j) - 1) (sym same)
      ];
}

pub all_put : (n count done : ℕ) (bits : List ℕ) → count ≤ done → ArePut n count done bits → bits ≡ first_bits n count
all_put n count done bits all so_far =
    ext_get_or 0 bits (first_bits n count) (so_far.size ∙ sym (length-first_bits n count)) (λ k below.
    so_far.put k (omega (arith, below, all, so_far.size)) ∙ sym (byte_of_first n count k (omega (arith, below, so_far.size))))
