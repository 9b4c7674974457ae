-- Records as rows of fields: read from their bytes, and written piece by piece.
use Rattle.std.proofs.Common.{◌≡◌, ℕ, zero, suc, ◌+◌, ◌≤◌, true, List, [], ◌∷◌, ◌++◌, length, take, drop, replicate, refl, ap, sym, ◌∙◌, arith, length-append, length-drop}
use Rattle.std.proofs.lemmas.List.{append-nil, append_assoc, drop-drop, drop_at, drop_all, take_at, get_or-drop, length-take-le}
use Rattle.std.proofs.lemmas.Bool.{and_parts, eqb-true}
use Rattle.lufs_base.specs.Fields.{AreBytes, number_in, field_bytes, put_at}
use Rattle.lufs_base.proofs.Spelling.{spelled_again_of}
use Rattle.lufs_base.specs.Fields.{are_zeros}

-- what is left of bytes is bytes
pub rest_is_bytes : (n : ℕ) (bytes : List ℕ) → AreBytes bytes → AreBytes (drop n bytes)
rest_is_bytes n bytes are i = rw (get_or-drop n bytes i 0) (are (n + i))

-- bytes are the field of the number that they read as, and what stands after it
pub field_again : (n at next : ℕ) (bytes rest : List ℕ) → AreBytes bytes → next ≡ at + n → next ≤ length bytes
    → rest ≡ drop next bytes → field_bytes n (number_in n (drop at bytes)) ++ rest ≡ drop at bytes
field_again n at next bytes rest are place fits behind =
    let moved : rest ≡ drop n (drop at bytes) = behind ∙ ap (λ (k : ℕ). drop k bytes) place ∙ sym (drop-drop n at bytes) in
    ap (λ (l : List ℕ). field_bytes n (number_in n (drop at bytes)) ++ l) moved
    ∙ spelled_again_of n (drop at bytes) (rest_is_bytes at bytes are) (omega (arith, length-drop at bytes))

-- n bytes that are 0
pub zeros_again : (n : ℕ) (bytes : List ℕ) → length bytes ≡ n → are_zeros bytes ≡ true → replicate n 0 ≡ bytes
zeros_again zero [] long are = refl
zeros_again zero (b ∷ bytes) long are = absurd (omega arith)
zeros_again (suc n) [] long are = absurd (omega arith)
zeros_again (suc n) (b ∷ bytes) long are =
    let parts = and_parts _ _ are in
    let first : 0 ≡ b = sym (eqb-true _ _ parts.0) in
    let others : replicate n 0 ≡ bytes = zeros_again n bytes (omega arith) parts.1 in
    cc

pub length-put_at : (out bytes : List ℕ) (at : ℕ) → at + length bytes ≤ length out → length (put_at out at bytes) ≡ length out
length-put_at out bytes at fits =
    let rest = drop (at + length bytes) out in
    omega (arith, length-append (take at out) (bytes ++ rest), length-append bytes rest, length-take-le at out (omega arith), length-drop (at + length bytes) out)

-- one piece written after another is both written at once
pub pieces : (out xs ys : List ℕ) (at next : ℕ) → next ≡ at + length xs → next + length ys ≤ length out
    → put_at (put_at out at xs) next ys ≡ put_at out at (xs ++ ys)
pieces out xs ys at next place fits =
    let front = take at out in
    let rest = drop (at + length xs) out in
    let long : length (front ++ xs) ≡ next = omega (arith, length-append front xs, length-take-le at out (omega arith)) in
    let once : put_at out at xs ≡ (front ++ xs) ++ rest = sym (append_assoc front xs rest) in
    let head : take next (put_at out at xs) ≡ front ++ xs = ap (take next) once ∙ take_at (front ++ xs) rest next long in
    let behind : drop next (put_at out at xs) ≡ rest = ap (drop next) once ∙ drop_at (front ++ xs) rest next long in
    let end : drop (next + length ys) (put_at out at xs) ≡ drop (at + length (xs ++ ys)) out =
    let same : at + length xs + length ys ≡ at + length (xs ++ ys) = omega (arith, length-append xs ys) in
    sym (drop-drop (length ys) next (put_at out at xs)) ∙ ap (drop (length ys)) behind ∙ drop-drop (length ys) (at + length xs) out
    ∙ ap (λ (k : ℕ). drop k out) same in
    ap (λ (l : List ℕ). l ++ (ys ++ drop (next + length ys) (put_at out at xs))) head
    ∙ ap (λ (l : List ℕ). (front ++ xs) ++ (ys ++ l)) end
    ∙ append_assoc front xs (ys ++ drop (at + length (xs ++ ys)) out)
    ∙ ap (λ (l : List ℕ). front ++ l) (sym (append_assoc xs ys (drop (at + length (xs ++ ys)) out)))

-- a piece as long as the whole
pub whole_piece : (out bytes : List ℕ) → length bytes ≡ length out → put_at out 0 bytes ≡ bytes
whole_piece out bytes long =
    ap (λ (l : List ℕ). bytes ++ l) (drop_all (0 + length bytes) out (omega arith)) ∙ append-nil bytes
