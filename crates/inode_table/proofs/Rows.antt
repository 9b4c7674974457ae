-- A row of numbers of four bytes each.
use Rattle.std.proofs.Common.{◌≡◌, ℕ, zero, suc, ◌+◌, ◌*◌, ◌<◌, List, [], ◌∷◌, length, get_or, drop, refl, ap, sym, ◌∙◌, arith}
use Rattle.std.proofs.lemmas.List.{drop-drop, ext_get_or}
use Rattle.lufs_base.specs.Fields.{number_in, u32_at}
use Rattle.volume_model.specs.Format.{numbers_in, numbers_bytes}

pub length-numbers_in : (n : ℕ) (bytes : List ℕ) → length (numbers_in n bytes) ≡ n
unfolding numbers_in
length-numbers_in zero bytes = refl
length-numbers_in (suc n) bytes = ap suc (length-numbers_in n (drop 4 bytes))

pub number_of_row : (n k : ℕ) (bytes : List ℕ) → k < n → get_or (numbers_in n bytes) k 0 ≡ u32_at bytes (4 * k)
unfolding numbers_in
number_of_row zero k bytes below = absurd (omega arith)
number_of_row (suc n) zero bytes below = refl
number_of_row (suc n) (suc k) bytes below =
    let place : 4 + 4 * k ≡ 4 * suc k = omega arith in
    number_of_row n k (drop 4 bytes) (omega arith) ∙ ap (number_in 4) (drop-drop (4 * k) 4 bytes ∙ ap (λ (m : ℕ). drop m bytes) place)

-- a list whose members are those numbers is the row
pub row_by_members : (n at : ℕ) (bytes numbers : List ℕ) → length numbers ≡ n
    → ((k : ℕ) → k < n → get_or numbers k 0 ≡ u32_at bytes (at + 4 * k)) → numbers ≡ numbers_in n (drop at bytes)
row_by_members n at bytes numbers long are =
    ext_get_or 0 numbers (numbers_in n (drop at bytes)) (omega (arith, length-numbers_in n (drop at bytes))) (λ k below.
    let fits : k < n = omega arith in
    are k fits ∙ ap (number_in 4) (sym (drop-drop (4 * k) at bytes)) ∙ sym (number_of_row n k (drop at bytes) fits))

pub length-numbers_bytes : (numbers : List ℕ) → length (numbers_bytes numbers) ≡ 4 * length numbers
length-numbers_bytes [] = refl
length-numbers_bytes (n ∷ numbers) =
    let more : length (numbers_bytes numbers) + 4 ≡ 4 * suc (length numbers) = omega (arith, length-numbers_bytes numbers) in
    omega arith
