-- The bytes of a pointer block with one number, and one number written in a pointer block.
use Rattle.std.proofs.Common.{◌≡◌, ◌<◌, ◌≤◌, ℕ, zero, suc, ◌+◌, ◌-◌, ◌*◌, ◌^◌, true, List, [], ◌∷◌, ◌++◌, length, take, drop, replicate, refl, sym, ap, ◌∙◌, arith}
use Rattle.std.proofs.lemmas.List.{drop-replicate, append-nil, take_all, drop-drop, ext_get_or, get_or-take, get_or-drop, get_or-replicate, take-replicate, length-replicate, length-take, length-drop}
use Rattle.std.proofs.lemmas.List.FromFn.{length-map-range_with_len, get_or-map-range_with_len}
use Rattle.volume_laws.proofs.ReadLengths.{part_of_front}
use Rattle.std.proofs.lemmas.List.Elements.{All-cons, All-replicate}
use Rattle.std.proofs.Math.Nat.{mul-le-mul_right}
use Rattle.lufs_base.specs.Fields.{u32_at, field_bytes, put_at}
use Rattle.lufs_base.specs.Layout.{IsGeometry}
use Rattle.lufs_base.specs.declared.geometry.Geometry.{Geometry}
use Rattle.lufs_base.proofs.Spelling.{read_back_of, number_in_same}
use Rattle.volume_model.specs.Format.{is_body, numbers_bytes, pointers_of}
use Rattle.volume_laws.proofs.Rows.{length-row}
use Rattle.change_laws.proofs.Places.{body_inside}
use Rattle.indirect_blocks.proofs.Numbers.{numbers_read_back_of}

-- a number of a block fits its field
pub block_fits : (g : Geometry) (b : ℕ) → IsGeometry g → is_body g b ≡ true → b < 2 ^ 32
block_fits g b ok body =
    let inside = body_inside g b body in
    let rows : g.groups * g.bpg ≤ 64 * g.bpg = mul-le-mul_right g.bpg ok.groups_high in
    omega (arith, inside, rows, ok.bpg_high, ok.log_high)

zeros_row : (n : ℕ) → numbers_bytes (replicate n 0) ≡ replicate (4 * n) 0
zeros_row zero = refl
zeros_row (suc n) =
    let more : suc (suc (suc (suc (4 * n)))) ≡ 4 * suc n = omega arith in
    ap (λ (l : List ℕ). 0 ∷ (0 ∷ (0 ∷ (0 ∷ l)))) (zeros_row n) ∙ ap (λ (k : ℕ). replicate k 0) more

pub one_in_row : (b : ℕ) (old : List ℕ) → b < 2 ^ 32 → old ≡ replicate 4096 0 → pointers_of (put_at old 0 (numbers_bytes (b ∷ []))) ≡ b ∷ replicate 1023 0
one_in_row b old small zeros =
    let bytes : List ℕ = numbers_bytes (b ∷ []) in
    let four : length bytes ≡ 4 = length-row (b ∷ []) in
    let rest : drop (0 + length bytes) old ≡ numbers_bytes (replicate 1023 0) =
    (λ t. drop (0 + four t) (zeros t)) ∙ drop-replicate 4 4096 0 ∙ sym (zeros_row 1023) in
    let whole : put_at old 0 bytes ≡ numbers_bytes (b ∷ replicate 1023 0) = ap (λ (l : List ℕ). bytes ++ l) rest ∙ ap (λ (l : List ℕ). l ++ numbers_bytes (replicate 1023 0)) (append-nil (field_bytes 4 b)) in
    ap pointers_of whole
    ∙ numbers_read_back_of (b ∷ replicate 1023 0) refl (All-cons (λ n. n < 2 ^ 32) b (replicate 1023 0) small (All-replicate (λ n. n < 2 ^ 32) 1023 0 (omega arith)))

whole_row : (b : ℕ) → take 4 (numbers_bytes (b ∷ [])) ≡ numbers_bytes (b ∷ [])
whole_row b = take_all 4 (numbers_bytes (b ∷ [])) (let four = length-row (b ∷ []) in omega (arith, four))

pub one_number_there : (b j : ℕ) (bytes : List ℕ) → b < 2 ^ 32 → take 4 (drop (4 * j) bytes) ≡ numbers_bytes (b ∷ []) → u32_at bytes (4 * j) ≡ b
one_number_there b j bytes small is =
    number_in_same 4 (drop (4 * j) bytes) (numbers_bytes (b ∷ [])) (is ∙ sym (whole_row b)) ∙ read_back_of 4 b [] small

-- the numbers of a block of zeros
pub zero_numbers : pointers_of (replicate 4096 0) ≡ replicate 1024 0
zero_numbers = ap pointers_of (sym (zeros_row 1024)) ∙ numbers_read_back_of (replicate 1024 0) refl (All-replicate (λ n. n < 2 ^ 32) 1024 0 (omega arith))

-- numbers that were cleared
pub cleared_numbers : (bytes : List ℕ) (j n : ℕ) → j + n ≤ 1024 → take (4 * n) (drop (4 * j) bytes) ≡ numbers_bytes (replicate n 0) → take n (drop j (pointers_of bytes)) ≡ replicate n 0
cleared_numbers bytes j n inside is =
    let numbers = pointers_of bytes in
    let all : length numbers ≡ 1024 = length-map-range_with_len (λ k. u32_at bytes (4 * k)) 0 1024 in
    let size : length (take n (drop j numbers)) ≡ n = omega (arith, length-take n (drop j numbers), length-drop j numbers, all, inside) in
    ext_get_or 0 (take n (drop j numbers)) (replicate n 0) (size ∙ sym (length-replicate {A = ℕ} n 0)) (λ m below.
    let less : m < n = omega (arith, below, size) in
    let at : 4 * (j + m) ≡ 4 * j + 4 * m = omega arith in
    let same_index : 0 + (j + m) ≡ j + m = omega arith in
    let part : take 4 (drop (4 * (j + m)) bytes) ≡ take 4 (replicate 4 0) =
    ap (λ (k : ℕ). take 4 (drop k bytes)) at ∙ ap (take 4) (sym (drop-drop (4 * m) (4 * j) bytes))
    ∙ sym (part_of_front (4 * m) 4 (4 * n) (drop (4 * j) bytes) (omega (arith, less)))
    ∙ ap (λ (l : List ℕ). take 4 (drop (4 * m) l)) (is ∙ zeros_row n)
    ∙ ap (take 4) (drop-replicate (4 * m) (4 * n) 0) ∙ take-replicate 4 (4 * n - 4 * m) 0 (omega (arith, less)) in
    get_or-take n (drop j numbers) m 0 less ∙ get_or-drop j numbers m 0
    ∙ get_or-map-range_with_len (λ k. u32_at bytes (4 * k)) 0 1024 (j + m) (j + m) 0 (omega (arith, less, inside)) same_index
    ∙ number_in_same 4 (drop (4 * (j + m)) bytes) (replicate 4 0) part ∙ read_back_of 4 0 [] (omega arith)
    ∙ sym (get_or-replicate n m 0 0 less))
