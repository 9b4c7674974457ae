-- A number and its bytes determine each other.
use Rattle.std.proofs.Common.{◌≡◌, ℕ, zero, suc, ◌+◌, ◌*◌, ◌^◌, ◌/◌, ◌<◌, ◌≤◌, List, [], ◌++◌, length, take, drop, slice_index, ◌∙◌, ap, sym, arith, refl, get_or-take, take_all}
use Rattle.std.proofs.lemmas.List.{ext_get_or, length-take-le, append-nil, take-append-drop}
use Rattle.std.proofs.lemmas.Nat.{same_from_place}
use Rattle.std.proofs.Math.Nat.{mod-lt}
use Rattle.std.specs.Int.{byte_at}
use Rattle.byteorder.specs.Endian.{big_from}
use Rattle.byteorder.specs.Numbers.{big_from-lt, big_number-reads_back, length-bytes_high_first}
use Rattle.lufs_base.specs.Fields.{AreBytes, number_in, field_bytes}

-- each byte of two equal numbers is the same
same_byte : (n i : ℕ) (xs ys : List ℕ) → AreBytes xs → AreBytes ys → big_from i n xs ≡ big_from i n ys
    → (k : ℕ) → k < n → slice_index xs (i + k) ≡ slice_index ys (i + k)
same_byte zero i xs ys bx by same k below = absurd (omega arith)
same_byte (suc n) i xs ys bx by same zero below =
    let split = same_from_place (slice_index xs i) (big_from (suc i) n xs) (slice_index ys i) (big_from (suc i) n ys) (256 ^ n) (big_from-lt (suc i) n xs bx) (big_from-lt (suc i) n ys by) same in
    let at : i + 0 ≡ i = omega arith in
    ap (λ (j : ℕ). slice_index xs j) at ∙ split.0 ∙ ap (λ (j : ℕ). slice_index ys j) (sym at)
same_byte (suc n) i xs ys bx by same (suc k) below =
    let split = same_from_place (slice_index xs i) (big_from (suc i) n xs) (slice_index ys i) (big_from (suc i) n ys) (256 ^ n) (big_from-lt (suc i) n xs bx) (big_from-lt (suc i) n ys by) same in
    let at : i + suc k ≡ suc i + k = omega arith in
    ap (λ (j : ℕ). slice_index xs j) at ∙ same_byte n (suc i) xs ys bx by split.1 k (omega arith) ∙ ap (λ (j : ℕ). slice_index ys j) (sym at)

pub one_spelling_of : (n : ℕ) (xs ys : List ℕ) → AreBytes xs → AreBytes ys → n ≤ length xs → n ≤ length ys
    → number_in n xs ≡ number_in n ys → take n xs ≡ take n ys
unfolding number_in
one_spelling_of n xs ys bx by lx ly same =
    ext_get_or 0 (take n xs) (take n ys) (length-take-le n xs lx ∙ sym (length-take-le n ys ly)) (λ k below.
    let fits : k < n = omega (arith, length-take-le n xs lx) in
    let at : 0 + k ≡ k = omega arith in
    get_or-take n xs k 0 fits ∙ ap (λ (j : ℕ). slice_index xs j) (sym at) ∙ same_byte n 0 xs ys bx by same k fits ∙ ap (λ (j : ℕ). slice_index ys j) at ∙ sym (get_or-take n ys k 0 fits))

-- a field that was written reads as its number
pub read_back_of : (n value : ℕ) (rest : List ℕ) → value < 256 ^ n → number_in n (field_bytes n value ++ rest) ≡ value
unfolding number_in
read_back_of n value rest below = big_number-reads_back n value rest below

-- a field of n bytes reads as a number of n bytes
pub number_in-lt : (n : ℕ) (bytes : List ℕ) → AreBytes bytes → number_in n bytes < 256 ^ n
unfolding number_in
number_in-lt n bytes are = big_from-lt 0 n bytes are

byte_at-lt : (i n : ℕ) → byte_at i n < 256
byte_at-lt zero n = mod-lt n (omega arith)
byte_at-lt (suc i) n = mod-lt (n / 256 ^ suc i) (omega arith)

field_is_bytes : (n value : ℕ) → AreBytes (field_bytes n value)
field_is_bytes zero value i = omega arith
field_is_bytes (suc n) value zero = byte_at-lt n value
field_is_bytes (suc n) value (suc i) = field_is_bytes n value i

-- bytes begin with the field of the number that they read as
pub spelled_again_of : (n : ℕ) (bytes : List ℕ) → AreBytes bytes → n ≤ length bytes → field_bytes n (number_in n bytes) ++ drop n bytes ≡ bytes
unfolding number_in
spelled_again_of n bytes are fits =
    let value = number_in n bytes in
    let long : length (field_bytes n value) ≡ n = length-bytes_high_first n value in
    let reads : number_in n (field_bytes n value) ≡ value = ap (number_in n) (sym (append-nil (field_bytes n value))) ∙ read_back_of n value [] (big_from-lt 0 n bytes are) in
    let front = one_spelling_of n bytes (field_bytes n value) are (field_is_bytes n value) fits (omega (arith, long)) (sym reads) in
    let whole : take n (field_bytes n value) ≡ field_bytes n value = take_all n (field_bytes n value) (omega (arith, long)) in
    ap (λ (l : List ℕ). l ++ drop n bytes) (sym (front ∙ whole)) ∙ take-append-drop n bytes

-- numbers of the same bytes, from byte i on
from_bytes : (i n : ℕ) (xs ys : List ℕ) → ((k : ℕ) → k < i + n → slice_index xs k ≡ slice_index ys k) → big_from i n xs ≡ big_from i n ys
from_bytes i zero xs ys same = refl
from_bytes i (suc n) xs ys same =
    let here : slice_index xs i ≡ slice_index ys i = same i (omega arith) in
    let rest : big_from (suc i) n xs ≡ big_from (suc i) n ys = from_bytes (suc i) n xs ys (λ k below. same k (omega (arith, below))) in
    λ t. here t * 256 ^ n + rest t

pub number_in_same : (n : ℕ) (xs ys : List ℕ) → take n xs ≡ take n ys → number_in n xs ≡ number_in n ys
unfolding number_in
number_in_same n xs ys same =
    from_bytes 0 n xs ys (λ k below.
    let inside : k < n = omega (arith, below) in
    sym (get_or-take n xs k 0 inside) ∙ ap (λ (l : List ℕ). slice_index l k) same ∙ get_or-take n ys k 0 inside)
