-- Digits read one after the other.
use Rattle.std.proofs.Common.{◌≡◌, ◌≤◌, ℕ, ◌+◌, ◌-◌, ◌*◌, ◌^◌, Bool, true, false, List, [], ◌∷◌, length, Some, None, refl, arith}
use Rattle.std.specs.Prelude.{nat_lt, ◌&&◌, if◌then◌else◌, option_and_then}
use Rattle.std.specs.List.{list_all}
use Rattle.std.proofs.lemmas.Bool.{ltb-false, le-ltb}
use Rattle.history_model.specs.Numbers.{is_digit, digits_from, has_no_leading_zero, number_below}
use Rattle.history_model.specs.Lines.{u32_of, u64_of}
use Rattle.script_text.specs.Digits.{with_digit, digits_after}

-- more digits make no smaller number
no_smaller : (n : ℕ) (bytes : List ℕ) → n ≤ digits_from n bytes
no_smaller n [] = omega arith
no_smaller n (b ∷ bytes) = let more = no_smaller (10 * n + (b - 48)) bytes in omega (arith, more)

none_past : (digits below : Bool) (n : ℕ) → below ≡ false → (if digits && below then Some n else None) ≡ None
none_past false below n e = refl
none_past true below n e = rw e refl

-- a number that is too large stays so
too_large : (n : ℕ) (bytes : List ℕ) → 2 ^ 64 ≤ n → digits_after n bytes ≡ None
too_large n bytes large =
    let over : 2 ^ 64 ≤ digits_from n bytes = let more = no_smaller n bytes in omega (arith, more) in
    none_past (list_all is_digit bytes) (nat_lt (digits_from n bytes) (2 ^ 64)) (digits_from n bytes) (le-ltb (digits_from n bytes) (2 ^ 64) over)

step : (n b : ℕ) (bytes : List ℕ) (digit below : Bool) → is_digit b ≡ digit → nat_lt (10 * n + (b - 48)) (2 ^ 64) ≡ below
    → digits_after n (b ∷ bytes) ≡ option_and_then (λ m. digits_after m bytes) (with_digit n b)
step n b bytes false below is fits = rw is refl
step n b bytes true true is fits = rw (is, fits) refl
step n b bytes true false is fits = rw (is, fits) (too_large (10 * n + (b - 48)) bytes (ltb-false _ _ fits))

-- the first byte is read, and then the others
pub digits_after-cons : (n b : ℕ) (bytes : List ℕ) → digits_after n (b ∷ bytes) ≡ option_and_then (λ m. digits_after m bytes) (with_digit n b)
digits_after-cons n b bytes = step n b bytes (is_digit b) (nat_lt (10 * n + (b - 48)) (2 ^ 64)) refl refl

in_other_order : (some digits plain below : Bool) (n : ℕ)
    → (if some && digits && plain && below then Some n else None) ≡ (if some && plain then (if digits && below then Some n else None) else None)
in_other_order false digits plain below n = refl
in_other_order true false false below n = refl
in_other_order true false true below n = refl
in_other_order true true false below n = refl
in_other_order true true true below n = refl

-- a number of 64 bits is read by its digits
pub u64_by_digits : (word : List ℕ) → u64_of word ≡ (if nat_lt 0 (length word) && has_no_leading_zero word then digits_after 0 word else None)
unfolding number_below
u64_by_digits word = in_other_order (nat_lt 0 (length word)) (list_all is_digit word) (has_no_leading_zero word) (nat_lt (digits_from 0 word) (2 ^ 64)) (digits_from 0 word)

below_both : (n : ℕ) (below : Bool) → nat_lt n (2 ^ 64) ≡ below
    → (if nat_lt n (2 ^ 32) then Some n else None) ≡ option_and_then (λ m. if nat_lt m (2 ^ 32) then Some m else None) (if below then Some n else None)
below_both n true e = refl
below_both n false e = let over : nat_lt n (2 ^ 32) ≡ false = le-ltb n (2 ^ 32) (let large = ltb-false n (2 ^ 64) e in omega (arith, large)) in rw over refl

narrowed : (some digits plain : Bool) (n : ℕ)
    → (if some && digits && plain && nat_lt n (2 ^ 32) then Some n else None)
    ≡ option_and_then (λ m. if nat_lt m (2 ^ 32) then Some m else None) (if some && digits && plain && nat_lt n (2 ^ 64) then Some n else None)
narrowed false digits plain n = refl
narrowed true false plain n = refl
narrowed true true false n = refl
narrowed true true true n = below_both n (nat_lt n (2 ^ 64)) refl

-- a number of 32 bits is one of 64 that is small enough
pub u32_by_u64 : (word : List ℕ) → u32_of word ≡ option_and_then (λ n. if nat_lt n (2 ^ 32) then Some n else None) (u64_of word)
unfolding number_below
u32_by_u64 word = narrowed (nat_lt 0 (length word)) (list_all is_digit word) (has_no_leading_zero word) (digits_from 0 word)
