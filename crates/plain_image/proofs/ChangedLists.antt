-- The blocks that differ, as lists, and the calls that write them.
use Rattle.std.proofs.Common.{◌≡◌, ℕ, zero, suc, ◌+◌, Bool, true, false, cond, List, [], ◌∷◌, ◌++◌, refl, sym, ap, ◌∙◌, arith}
use Rattle.std.specs.Prelude.{bytes_eq, not}
use Rattle.std.specs.List.{filter, range_with_len}
use Rattle.std.proofs.lemmas.List.{map-id}
use Rattle.std.proofs.lemmas.List.Elements.{filter-append}
use Rattle.std.proofs.lemmas.List.FromFn.{filter_of_map_range_with_len_more}
use Rattle.std.proofs.lemmas.Slice.Eq.{bytes_eq-Decides}

is_true : (b : Bool) → not b ≡ false → b ≡ true
is_true true is = refl
is_true false is = sym is

-- what isn't other bytes is the same
pub same_bytes : (xs ys : List ℕ) → not (bytes_eq xs ys) ≡ false → xs ≡ ys
same_bytes xs ys is = (bytes_eq-Decides xs ys).0 (is_true (bytes_eq xs ys) is)

range_split : (s m k : ℕ) → range_with_len s (m + k) ≡ range_with_len s m ++ range_with_len (s + m) k
range_split s zero k =
    ap (range_with_len s) (let count : zero + k ≡ k = omega arith in count) ∙ ap (λ (a : ℕ). range_with_len a k) (let at : s ≡ s + zero = omega arith in at)
range_split s (suc m) k =
    let next : suc m + k ≡ suc (m + k) = omega arith in
    let at : (s + 1) + m ≡ s + suc m = omega arith in
    ap (range_with_len s) next ∙ ap (λ (l : List ℕ). s ∷ l) (range_split (s + 1) m k) ∙ ap (λ (a : ℕ). s ∷ (range_with_len (s + 1) m ++ range_with_len a k)) at

-- the numbers below another one come first
pub filter_split : (p : ℕ → Bool) (s m k : ℕ) → filter p (range_with_len s (m + k)) ≡ filter p (range_with_len s m) ++ filter p (range_with_len (s + m) k)
filter_split p s m k = ap (filter p) (range_split s m k) ∙ filter-append p (range_with_len s m) (range_with_len (s + m) k)

-- one number more
pub changed_more : (p : ℕ → Bool) (s m : ℕ) → filter p (range_with_len s (suc m)) ≡ filter p (range_with_len s m) ++ cond (p (s + m)) ((s + m) ∷ []) []
changed_more p s m =
    let next : suc m ≡ m + 1 = omega arith in
    ap (λ (k : ℕ). filter p (range_with_len s k)) next ∙ ap (filter p) (sym (map-id (range_with_len s (m + 1))))
    ∙ filter_of_map_range_with_len_more p (λ n. n) s m (s + m) refl
    ∙ ap (λ (l : List ℕ). filter p l ++ cond (p (s + m)) ((s + m) ∷ []) []) (map-id (range_with_len s m))
