-- A row of numbers of four bytes each, and its bytes.
use Rattle.std.proofs.Common.{◌≡◌, ℕ, zero, suc, ◌+◌, ◌*◌, ◌^◌, ◌<◌, ◌≤◌, List, [], ◌∷◌, ◌++◌, length, slice_index, drop, refl, ap, sym, ◌∙◌, arith}
use Rattle.std.proofs.lemmas.List.{append_assoc, drop-drop, length-drop}
use Rattle.lufs_base.specs.Fields.{AreBytes, number_in, field_bytes}
use Rattle.lufs_base.proofs.Spelling.{read_back_of, spelled_again_of}
use Rattle.volume_model.specs.Format.{numbers_in, numbers_bytes}
use Rattle.volume_model.proofs.Pieces.{rest_is_bytes}

pub length-row : (numbers : List ℕ) → length (numbers_bytes numbers) ≡ 4 * length numbers
length-row [] = refl
length-row (n ∷ numbers) =
    let more : length (numbers_bytes numbers) + 4 ≡ 4 * suc (length numbers) = omega (arith, length-row numbers) in
    omega arith

-- a row that was written reads as its numbers
pub row_back : (numbers rest : List ℕ) → ((i : ℕ) → slice_index numbers i < 2 ^ 32)
    → numbers_in (length numbers) (numbers_bytes numbers ++ rest) ≡ numbers
unfolding numbers_in
row_back [] rest fit = refl
row_back (n ∷ numbers) rest fit =
    let first : number_in 4 (field_bytes 4 n ++ (numbers_bytes numbers ++ rest)) ≡ n = read_back_of 4 n (numbers_bytes numbers ++ rest) (fit 0) in
    let others : numbers_in (length numbers) (numbers_bytes numbers ++ rest) ≡ numbers = row_back numbers rest (λ i. fit (suc i)) in
    cc

-- bytes are the row of the numbers that they read as, and what stands after it
pub row_again : (n : ℕ) (bytes rest : List ℕ) → AreBytes bytes → 4 * n ≤ length bytes → rest ≡ drop (4 * n) bytes
    → numbers_bytes (numbers_in n bytes) ++ rest ≡ bytes
unfolding numbers_in
row_again zero bytes rest are fits behind = behind
row_again (suc n) bytes rest are fits behind =
    let place : 4 * suc n ≡ 4 + 4 * n = omega arith in
    let moved : rest ≡ drop (4 * n) (drop 4 bytes) = behind ∙ ap (λ (k : ℕ). drop k bytes) place ∙ sym (drop-drop (4 * n) 4 bytes) in
    let others = row_again n (drop 4 bytes) rest (rest_is_bytes 4 bytes are) (omega (arith, length-drop 4 bytes)) moved in
    append_assoc (field_bytes 4 (number_in 4 bytes)) (numbers_bytes (numbers_in n (drop 4 bytes))) rest
    ∙ ap (λ (l : List ℕ). field_bytes 4 (number_in 4 bytes) ++ l) others ∙ spelled_again_of 4 bytes are (omega arith)
