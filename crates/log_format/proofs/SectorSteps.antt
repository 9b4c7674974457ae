-- Sectors made of a payload that stands before them.
use Rattle.std.proofs.Common.{◌≡◌, ℕ, ◌+◌, ◌*◌, ◌/◌, ◌≤◌, List, [], ◌∷◌, ◌++◌, length, take, drop, get_or, sym, ap, ◌∙◌, arith, length-append, length-drop}
use Rattle.std.proofs.lemmas.List.{take-take, take_at, drop_more, drop-take, length-take-le}
use Rattle.std.proofs.lemmas.List.FromFn.{length-map-range_with_len, get_or-map-range_with_len}
use Rattle.std.specs.List.{copy_within, flat_map}
use borrow.Rule.Slice.PartMut.{put_mid}
use Rattle.lufs_base.specs.Fields.{put_at}
use Rattle.volume_model.specs.declared.log.Trailer.{Trailer}
use Rattle.volume_model.specs.Format.{pieces_of}
use Rattle.volume_model.specs.Log.{trailer_bytes}
use Rattle.log_format.proofs.Placed.{copied, drop_to-put_at, take_before-put_at, put_over, put_mid_at}

-- a piece of 504 bytes copied to its sector, and the trailer after it
pub sector_made : (old copy part : List ℕ) (trailer : Trailer) (i k end : ℕ) → 512 * i + 512 ≤ length old → k ≡ 512 → end ≡ 504 * i + 504
    → copy ≡ copy_within old (504 * i) end (512 * i) → part ≡ take 504 (take k (drop (512 * i) copy)) ++ trailer_bytes trailer
    → put_mid (512 * i) k copy part ≡ put_at old (512 * i) (take 504 (drop (504 * i) old) ++ trailer_bytes trailer)
sector_made old copy part trailer i k end inside k_is end_is copy_is part_is =
    let piece : List ℕ = take 504 (drop (504 * i) old) in
    let size : length piece ≡ 504 = length-take-le 504 (drop (504 * i) old) (omega (arith, length-drop (504 * i) old)) in
    let placed : copy ≡ put_at old (512 * i) piece = copy_is ∙ copied old (504 * i) (512 * i) 504 end (omega arith) (omega arith) in
    let front : take 504 (take k (drop (512 * i) copy)) ≡ piece =
    take-take 504 k (drop (512 * i) copy) (omega arith)
    ∙ ap (λ (l : List ℕ). take 504 (drop (512 * i) l)) placed
    ∙ ap (λ (l : List ℕ). take 504 l) (drop_to-put_at old piece (512 * i) (omega arith))
    ∙ take_at piece (drop (512 * i + length piece) old) 504 size in
    let whole : part ≡ piece ++ trailer_bytes trailer = part_is ∙ ap (λ (l : List ℕ). l ++ trailer_bytes trailer) front in
    let long : length (piece ++ trailer_bytes trailer) ≡ 512 = length-append piece (trailer_bytes trailer) ∙ ap (λ (n : ℕ). n + 8) size in
    put_mid_at copy part (512 * i) k (k_is ∙ sym (ap length whole ∙ long))
    ∙ ap (λ (l : List ℕ). put_at copy (512 * i) l) whole
    ∙ ap (λ (l : List ℕ). put_at l (512 * i) (piece ++ trailer_bytes trailer)) placed
    ∙ put_over old piece (piece ++ trailer_bytes trailer) (512 * i) (omega arith) (omega (arith, size, long))

-- a piece of lists whose fronts are the same
same_piece : (xs ys : List ℕ) (i next : ℕ) → next ≡ i + 1 → take (504 * next) xs ≡ take (504 * next) ys → take 504 (drop (504 * i) xs) ≡ take 504 (drop (504 * i) ys)
same_piece xs ys i next is same =
    let size : 504 * next ≡ 504 * i + 504 = omega arith in
    sym (drop-take (504 * i) 504 xs)
    ∙ ap (λ (n : ℕ). drop (504 * i) (take n xs)) (sym size)
    ∙ ap (λ (l : List ℕ). drop (504 * i) l) same
    ∙ ap (λ (n : ℕ). drop (504 * i) (take n ys)) size
    ∙ drop-take (504 * i) 504 ys

-- how many pieces a payload has
payload_size : (first : List ℕ) → length (take (504 * (length first / 512)) first) / 504 ≡ length first / 512
payload_size first =
    let long : length (take (504 * (length first / 512)) first) ≡ 504 * (length first / 512) = length-take-le (504 * (length first / 512)) first (omega arith) in
    omega (arith, long)

pub piece_count : (first : List ℕ) → length (pieces_of 504 (take (504 * (length first / 512)) first)) ≡ length first / 512
piece_count first =
    let payload : List ℕ = take (504 * (length first / 512)) first in
    length-map-range_with_len (λ k. take 504 (drop (504 * k) payload)) 0 (length payload / 504) ∙ payload_size first

-- the pieces before this sector stay at the front
pub front_step : (first old new part : List ℕ) (i next : ℕ) → next ≡ i + 1 → 512 * next ≤ length old → new ≡ put_at old (512 * i) part
    → take (504 * next) old ≡ take (504 * next) first → take (504 * i) new ≡ take (504 * i) first
front_step first old new part i next is inside new_is front =
    ap (λ (l : List ℕ). take (504 * i) l) new_is
    ∙ take_before-put_at old part (512 * i) (504 * i) (omega arith) (omega arith)
    ∙ sym (take-take (504 * i) (504 * next) old (omega arith))
    ∙ ap (λ (l : List ℕ). take (504 * i) l) front
    ∙ take-take (504 * i) (504 * next) first (omega arith)

-- and one sector more is made
pub back_step : (first old new : List ℕ) (trailer : Trailer) (i next : ℕ) → next ≡ i + 1 → next ≤ length first / 512 → length old ≡ length first
    → new ≡ put_at old (512 * i) (take 504 (drop (504 * i) old) ++ trailer_bytes trailer)
    → take (504 * next) old ≡ take (504 * next) first
    → drop (512 * next) old ≡ flat_map (λ piece. piece ++ trailer_bytes trailer) (drop next (pieces_of 504 (take (504 * (length first / 512)) first)))
    → drop (512 * i) new ≡ flat_map (λ piece. piece ++ trailer_bytes trailer) (drop i (pieces_of 504 (take (504 * (length first / 512)) first)))
back_step first old new trailer i next is inside size new_is front back =
    let payload : List ℕ = take (504 * (length first / 512)) first in
    let pieces : List (List ℕ) = pieces_of 504 payload in
    let part : List ℕ = take 504 (drop (504 * i) old) ++ trailer_bytes trailer in
    let piece_long : length (take 504 (drop (504 * i) old)) ≡ 504 = length-take-le 504 (drop (504 * i) old) (omega (arith, length-drop (504 * i) old)) in
    let long : length part ≡ 512 = length-append (take 504 (drop (504 * i) old)) (trailer_bytes trailer) ∙ ap (λ (n : ℕ). n + 8) piece_long in
    let end : 512 * i + length part ≡ 512 * next = omega (arith, long) in
    let count : length pieces ≡ length first / 512 = piece_count first in
    let in_payload : take (504 * next) old ≡ take (504 * next) payload = front ∙ sym (take-take (504 * next) (504 * (length first / 512)) first (omega arith)) in
    let here : get_or pieces i [] ≡ take 504 (drop (504 * i) old) =
    get_or-map-range_with_len (λ k. take 504 (drop (504 * k) payload)) 0 (length payload / 504) i i [] (omega (arith, payload_size first)) (omega arith)
    ∙ sym (same_piece old payload i next is in_payload) in
    let split : drop i pieces ≡ take 504 (drop (504 * i) old) ∷ drop next pieces =
    drop_more pieces i [] (omega (arith, count))
    ∙ ap (λ (x : List ℕ). x ∷ drop (i + 1) pieces) here
    ∙ ap (λ (n : ℕ). take 504 (drop (504 * i) old) ∷ drop n pieces) (sym is) in
    ap (λ (l : List ℕ). drop (512 * i) l) new_is
    ∙ drop_to-put_at old part (512 * i) (omega arith)
    ∙ ap (λ (n : ℕ). part ++ drop n old) end
    ∙ ap (λ (l : List ℕ). part ++ l) back
    ∙ ap (λ (l : List (List ℕ)). flat_map (λ piece. piece ++ trailer_bytes trailer) l) (sym split)
