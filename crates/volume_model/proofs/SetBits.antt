-- Bits that are all set.
use Rattle.std.proofs.Common.{◌≡◌, ◌<◌, ℕ, ◌+◌, true, List, length, get_or, sym, ap, ◌∙◌, arith}
use Rattle.std.specs.List.{range_with_len}
use Rattle.std.proofs.lemmas.List.Sums.{AllPass-from_list_all}
use Rattle.std.proofs.lemmas.List.FromFn.{length-range_with_len, get_or-range_with_len}
use Rattle.volume_model.specs.Format.{bit_at, are_set}

-- where the first n bits are set, each of them is
pub each_set : (bits : List ℕ) (n : ℕ) → are_set bits n ≡ true → (i : ℕ) → i < n → bit_at bits i ≡ true
each_set bits n all i below =
    let inside : i < length (range_with_len 0 n) = omega (arith, length-range_with_len 0 n, below) in
    let at : get_or (range_with_len 0 n) i 0 ≡ i = get_or-range_with_len 0 n i 0 below ∙ (let from : 0 + i ≡ i = omega arith in from) in
    ap (bit_at bits) (sym at) ∙ AllPass-from_list_all (λ i. bit_at bits i) (range_with_len 0 n) all i 0 inside
