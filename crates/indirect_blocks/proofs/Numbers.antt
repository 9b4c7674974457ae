-- The numbers of a pointer block and its bytes, number by number.
use Rattle.std.proofs.Common.{◌≡◌, ℕ, zero, suc, ◌+◌, ◌*◌, ◌<◌, ◌^◌, List, [], ◌∷◌, ◌++◌, length, take, drop, map, get_or, All, ap, sym, ◌∙◌, refl, arith, length-append, length-drop, take_all}
use Rattle.std.specs.List.{range_with_len}
use Rattle.std.proofs.lemmas.List.{drop-drop, drop_all, get_or-drop, take_more, length-take-le, append-nil}
use Rattle.std.proofs.lemmas.Grind.{flat_map-append}
use Rattle.lufs_base.specs.Fields.{u32_at, number_in, field_bytes, put_at, AreBytes}
use Rattle.lufs_base.proofs.Spelling.{read_back_of, spelled_again_of}
use Rattle.lufs_base.proofs.Written.{put_at_behind, put_at_all}
use Rattle.volume_model.specs.Format.{pointers_of, pointer_bytes}

-- n numbers of the bytes, from number a on
abbrev numbers_from : List ℕ → (a n : ℕ) → List ℕ
numbers_from bytes a n = map (λ i. u32_at bytes (4 * i)) (range_with_len a n)

-- the numbers from number a on are those that were written there
written_from : (bytes numbers : List ℕ) (a n : ℕ) → length numbers ≡ n → All (λ m. m < 2 ^ 32) numbers → drop (4 * a) bytes ≡ pointer_bytes numbers
    → numbers_from bytes a n ≡ numbers
written_from bytes [] a zero size small is = refl
written_from bytes [] a (suc n) size small is = absurd (omega arith)
written_from bytes (m ∷ numbers) a zero size small is = absurd (omega arith)
written_from bytes (m ∷ numbers) a (suc n) size small is =
    let first : u32_at bytes (4 * a) ≡ m = ap (number_in 4) is ∙ read_back_of 4 m (pointer_bytes numbers) (small 0 0 (omega arith)) in
    let place : 4 * (a + 1) ≡ 4 * a + 4 = omega arith in
    let behind : drop (4 * (a + 1)) bytes ≡ pointer_bytes numbers =
    ap (λ (k : ℕ). drop k bytes) place ∙ sym (drop-drop 4 (4 * a) bytes) ∙ ap (λ (l : List ℕ). drop 4 l) is in
    let rest = written_from bytes numbers (a + 1) n (omega arith) (λ k d below. small (suc k) d (omega arith)) behind in
    ap (λ (x : ℕ). x ∷ numbers_from bytes (a + 1) n) first ∙ ap (λ (l : List ℕ). m ∷ l) rest

-- the bytes from number a on are those of the numbers that are read there
spelled_from : (bytes : List ℕ) (a n : ℕ) → AreBytes bytes → length bytes ≡ 4 * (a + n) → pointer_bytes (numbers_from bytes a n) ≡ drop (4 * a) bytes
spelled_from bytes a zero are size = sym (drop_all (4 * a) bytes (omega arith))
spelled_from bytes a (suc n) are size =
    let part = drop (4 * a) bytes in
    let part_are : AreBytes part = λ i. rw (get_or-drop (4 * a) bytes i 0) (are (4 * a + i)) in
    let place : 4 * a + 4 ≡ 4 * (a + 1) = omega arith in
    let rest = spelled_from bytes (a + 1) n are (omega arith) in
    let behind : drop 4 part ≡ drop (4 * (a + 1)) bytes = drop-drop 4 (4 * a) bytes ∙ ap (λ (k : ℕ). drop k bytes) place in
    ap (λ (l : List ℕ). field_bytes 4 (number_in 4 part) ++ l) (rest ∙ sym behind)
    ∙ spelled_again_of 4 part part_are (omega (arith, length-drop (4 * a) bytes))

pub numbers_read_back_of : (numbers : List ℕ) → length numbers ≡ 1024 → All (λ n. n < 2 ^ 32) numbers → pointers_of (pointer_bytes numbers) ≡ numbers
numbers_read_back_of numbers size small = written_from (pointer_bytes numbers) numbers 0 1024 size small refl

pub numbers_spelled_again_of : (bytes : List ℕ) → AreBytes bytes → length bytes ≡ 4096 → pointer_bytes (pointers_of bytes) ≡ bytes
numbers_spelled_again_of bytes are size = spelled_from bytes 0 1024 are size

length-numbers : (numbers : List ℕ) → length (pointer_bytes numbers) ≡ 4 * length numbers
length-numbers [] = refl
length-numbers (m ∷ numbers) = omega (arith, length-numbers numbers, length-append (field_bytes 4 m) (pointer_bytes numbers))

-- one number more is written after the first i
pub written_more : (numbers old : List ℕ) (i d : ℕ) → i < length numbers
    → put_at (put_at old 0 (pointer_bytes (take i numbers))) (4 * i) (field_bytes 4 (get_or numbers i d)) ≡ put_at old 0 (pointer_bytes (take (i + 1) numbers))
written_more numbers old i d below =
    let n = get_or numbers i d in
    let bytes : pointer_bytes (take i numbers) ++ field_bytes 4 n ≡ pointer_bytes (take (i + 1) numbers) =
    sym (ap pointer_bytes (take_more numbers i d below) ∙ flat_map-append (λ m. field_bytes 4 m) (take i numbers) (n ∷ [])
    ∙ ap (λ (l : List ℕ). pointer_bytes (take i numbers) ++ l) (append-nil (field_bytes 4 n))) in
    put_at_behind (pointer_bytes (take i numbers)) (field_bytes 4 n) old 0 (4 * i) (omega arith)
    (omega (arith, length-numbers (take i numbers), length-take-le i numbers (omega arith)))
    ∙ ap (put_at old 0) bytes

-- all numbers are written
pub written_all : (numbers old : List ℕ) (i : ℕ) → length numbers ≡ i → length old ≡ 4 * i → put_at old 0 (pointer_bytes (take i numbers)) ≡ pointer_bytes numbers
written_all numbers old i size room =
    ap (λ (l : List ℕ). put_at old 0 (pointer_bytes l)) (take_all i numbers (omega arith))
    ∙ put_at_all old (pointer_bytes numbers) (omega (arith, length-numbers numbers))
