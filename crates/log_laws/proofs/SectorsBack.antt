-- Bytes in pieces, and the sectors that carry them.
use Rattle.std.proofs.Common.{◌≡◌, ℕ, zero, suc, ◌+◌, ◌*◌, ◌/◌, ◌^◌, ◌<◌, true, List, [], ◌∷◌, ◌++◌, length, take, drop, get_or, refl, sym, ap, subst, ◌∙◌, arith, add-one, add_comm, length-append, length-drop}
use Rattle.std.specs.List.{All, flat_map}
use Rattle.std.proofs.Common.{map}
use Rattle.std.proofs.Math.Nat.{add-div_left, mul-zero, mul-suc}
use Rattle.std.proofs.lemmas.Bool.{and_from, eq-eqb}
use Rattle.std.proofs.lemmas.List.{nil_from_length, take_at, drop_at, drop-drop, length-take-le, take-append-drop}
use Rattle.std.proofs.lemmas.List.Elements.{All-nil, All-cons}
use Rattle.std.proofs.lemmas.List.FromFn.{fill_by_all, length-map-range_with_len, get_or-map-range_with_len}
use Rattle.lufs_base.specs.Fields.{u32_at, field_bytes}
use Rattle.lufs_base.proofs.Spelling.{read_back_of}
use Rattle.volume_model.specs.declared.log.Trailer.{Trailer}
use Rattle.volume_model.specs.Format.{pieces_of, sectors_in}
use Rattle.volume_model.specs.Log.{belongs_to, payload_of, trailer_bytes, carrying}

-- the first piece, and those of the rest
pub pieces_cons : (n : ℕ) (x rest : List ℕ) → 0 < n → length x ≡ n → pieces_of n (x ++ rest) ≡ x ∷ pieces_of n rest
pieces_cons n x rest some size =
    let piece : ℕ → List ℕ = λ k. take n (drop (n * k) (x ++ rest)) in
    let count : length (x ++ rest) / n ≡ suc (length rest / n) =
    ap (λ (m : ℕ). m / n) (length-append x rest ∙ ap (λ (m : ℕ). m + length rest) size) ∙ add-div_left (length rest) some ∙ add-one (length rest / n) in
    let many : length (x ∷ pieces_of n rest) ≡ length (x ++ rest) / n =
    ap suc (length-map-range_with_len (λ k. take n (drop (n * k) rest)) 0 (length rest / n)) ∙ sym count in
    sym (fill_by_all piece (x ∷ pieces_of n rest) (length (x ++ rest) / n) [] many (λ k below.
    elim k as (λ j. j < length (x ++ rest) / n → get_or (x ∷ pieces_of n rest) j [] ≡ piece j) [
      | zero ↦ λ inside. sym (ap (λ (m : ℕ). take n (drop m (x ++ rest))) (mul-zero n) ∙ take_at x rest n size)
      | suc j ↦ λ inside.
          get_or-map-range_with_len (λ k. take n (drop (n * k) rest)) 0 (length rest / n) j j [] (omega (arith, inside, count)) (omega arith)
          ∙ ap (λ (l : List ℕ). take n l) (sym (
          ap (λ (m : ℕ). drop m (x ++ rest)) (mul-suc n j ∙ add_comm (n * j) n)
          ∙ sym (drop-drop (n * j) n (x ++ rest)) ∙ ap (λ (l : List ℕ). drop (n * j) l) (drop_at x rest n size)
          ))
    ] below))

-- what holds of no bytes, and of a piece before others, holds of a payload
pub by_pieces : (P : List ℕ → Type 0) → P [] → ((x rest : List ℕ) → length x ≡ 504 → P rest → P (x ++ rest)) → (m : ℕ) (payload : List ℕ) → length payload ≡ 504 * m → P payload
by_pieces P none next zero payload size = subst P (sym (nil_from_length payload size)) none
by_pieces P none next (suc m) payload size =
    subst P (take-append-drop 504 payload)
    (next (take 504 payload) (drop 504 payload) (length-take-le 504 payload (omega arith)) (by_pieces P none next m (drop 504 payload) (omega (arith, length-drop 504 payload))))

-- the sectors that carry a payload, one by one
carrying_cons : (trailer : Trailer) (x rest : List ℕ) → length x ≡ 504 → carrying trailer (x ++ rest) ≡ (x ++ trailer_bytes trailer) ++ carrying trailer rest
unfolding carrying
carrying_cons trailer x rest size = ap (λ (l : List (List ℕ)). flat_map (λ piece. piece ++ trailer_bytes trailer) l) (pieces_cons 504 x rest (omega arith) size)

carrying_none : (trailer : Trailer) → carrying trailer [] ≡ []
unfolding carrying
carrying_none trailer = refl

sector_size : (trailer : Trailer) (x : List ℕ) → length x ≡ 504 → length (x ++ trailer_bytes trailer) ≡ 512
sector_size trailer x size = length-append x (trailer_bytes trailer) ∙ ap (λ (n : ℕ). n + 8) size

sectors_cons : (trailer : Trailer) (x rest : List ℕ) → length x ≡ 504
    → sectors_in (carrying trailer (x ++ rest)) ≡ (x ++ trailer_bytes trailer) ∷ sectors_in (carrying trailer rest)
sectors_cons trailer x rest size =
    ap sectors_in (carrying_cons trailer x rest size)
    ∙ pieces_cons 512 (x ++ trailer_bytes trailer) (carrying trailer rest) (omega arith) (sector_size trailer x size)

-- they carry it
pub payload_back : (trailer : Trailer) (m : ℕ) (payload : List ℕ) → length payload ≡ 504 * m → payload_of (sectors_in (carrying trailer payload)) ≡ payload
payload_back trailer =
    by_pieces (λ (payload : List ℕ). payload_of (sectors_in (carrying trailer payload)) ≡ payload)
    (ap (λ (l : List ℕ). payload_of (sectors_in l)) (carrying_none trailer))
    (λ x rest size so_far.
    ap payload_of (sectors_cons trailer x rest size)
    ∙ ap (λ (l : List ℕ). l ++ payload_of (sectors_in (carrying trailer rest))) (take_at x (trailer_bytes trailer) 504 size)
    ∙ ap (λ (l : List ℕ). x ++ l) so_far)

-- they are its pieces, each with the trailer after it
pub row_back : (trailer : Trailer) (m : ℕ) (payload : List ℕ) → length payload ≡ 504 * m
    → sectors_in (carrying trailer payload) ≡ map (λ piece. piece ++ trailer_bytes trailer) (pieces_of 504 payload)
row_back trailer =
    by_pieces (λ (payload : List ℕ). sectors_in (carrying trailer payload) ≡ map (λ piece. piece ++ trailer_bytes trailer) (pieces_of 504 payload))
    (ap sectors_in (carrying_none trailer))
    (λ x rest size so_far.
    sectors_cons trailer x rest size ∙ ap (λ (l : List (List ℕ)). (x ++ trailer_bytes trailer) ∷ l) so_far
    ∙ sym (ap (λ (l : List (List ℕ)). map (λ piece. piece ++ trailer_bytes trailer) l) (pieces_cons 504 x rest (omega arith) size)))

-- they are as many as its pieces
pub carrying_size : (trailer : Trailer) (m : ℕ) (payload : List ℕ) → length payload ≡ 504 * m → 504 * length (carrying trailer payload) ≡ 512 * length payload
carrying_size trailer =
    by_pieces (λ (payload : List ℕ). 504 * length (carrying trailer payload) ≡ 512 * length payload)
    (ap (λ (l : List ℕ). 504 * length l) (carrying_none trailer))
    (λ x rest size so_far.
    let whole : length (carrying trailer (x ++ rest)) ≡ 512 + length (carrying trailer rest) =
    ap length (carrying_cons trailer x rest size) ∙ length-append (x ++ trailer_bytes trailer) (carrying trailer rest)
    ∙ ap (λ (n : ℕ). n + length (carrying trailer rest)) (sector_size trailer x size) in
    omega (arith, whole, so_far, size, length-append x rest))

belongs : (trailer : Trailer) (x : List ℕ) → length x ≡ 504 → trailer.tid < 2 ^ 32 → trailer.ident < 2 ^ 32
    → belongs_to trailer.ident trailer.tid (x ++ trailer_bytes trailer) ≡ true
belongs trailer x size tid_low ident_low =
    let s : List ℕ = x ++ trailer_bytes trailer in
    let behind : drop 504 s ≡ trailer_bytes trailer = drop_at x (trailer_bytes trailer) 504 size in
    let last : drop 508 s ≡ field_bytes 4 trailer.ident = sym (drop-drop 4 504 s) ∙ ap (λ (l : List ℕ). drop 4 l) behind in
    let tid : u32_at s 504 ≡ trailer.tid = ap (λ (l : List ℕ). u32_at l 0) behind ∙ read_back_of 4 trailer.tid (field_bytes 4 trailer.ident) (omega (arith, tid_low)) in
    let ident : u32_at s 508 ≡ trailer.ident = ap (λ (l : List ℕ). u32_at l 0) last ∙ read_back_of 4 trailer.ident [] (omega (arith, ident_low)) in
    and_from _ _ (eq-eqb _ _ tid) (eq-eqb _ _ ident)

-- and each has the trailer
pub trailers_back : (trailer : Trailer) → trailer.tid < 2 ^ 32 → trailer.ident < 2 ^ 32 → (m : ℕ) (payload : List ℕ) → length payload ≡ 504 * m
    → All (λ s. belongs_to trailer.ident trailer.tid s ≡ true) (sectors_in (carrying trailer payload))
trailers_back trailer tid_low ident_low =
    let Belongs : List ℕ → Type 0 = λ s. belongs_to trailer.ident trailer.tid s ≡ true in
    by_pieces (λ (payload : List ℕ). All Belongs (sectors_in (carrying trailer payload)))
    (subst (λ (l : List ℕ). All Belongs (sectors_in l)) (sym (carrying_none trailer)) (All-nil Belongs))
    (λ x rest size so_far.
    subst (λ (l : List (List ℕ)). All Belongs l) (sym (sectors_cons trailer x rest size))
    (All-cons Belongs (x ++ trailer_bytes trailer) (sectors_in (carrying trailer rest)) (belongs trailer x size tid_low ident_low) so_far))
