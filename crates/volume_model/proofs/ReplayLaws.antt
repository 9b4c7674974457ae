-- The laws of replay.
use Rattle.std.proofs.Common.{◌≡◌, ◌<◌, ◌≤◌, inl, inr, ℕ, ◌+◌, ◌-◌, ◌*◌, ◌/◌, leb, ltb, Bool, true, false, not, ◌&&◌, cond, List, [], ◌∷◌, ◌++◌, length, take, drop, slice_index, Option, Some, None, sym, ap, ◌∙◌, arith, refl, length-take, length-drop}
use Rattle.std.specs.Option.{unwrap_or}
use Rattle.std.specs.List.{list_any, filter, filter_map, last_or, cons_option, AllByRecursion}
use Rattle.std.proofs.lemmas.Bool.{lt-leb, le-ltb, and_left, and_right}
use Rattle.std.proofs.lemmas.List.{ext_get_or, get_or-take, get_or-drop}
use Rattle.std.proofs.lemmas.List.Elements.{filter_map-append}
use Rattle.std.proofs.lemmas.List.FromFn.{length-map-range_with_len, get_or-map-range_with_len}
use Rattle.lufs_base.specs.declared.geometry.Geometry.{Geometry}
use Rattle.lufs_base.specs.declared.delta.Delta.{Delta}
use Rattle.volume_model.specs.declared.log.Header.{Header}
use Rattle.volume_model.specs.declared.log.Tx.{Tx}
use Rattle.volume_model.specs.Format.{Image, sectors_from}
use Rattle.volume_model.specs.Log.{WithHeader, Listed, log_of, cancels, live_deltas, byte_of, given_at, recovered_byte, replayed, recovered_by, recovered, IsElsewhere, IsUncovered}

pub length-replayed : (image : Image) (txs : List Tx) → length (replayed image txs) ≡ length image
unfolding replayed
length-replayed image txs = length-map-range_with_len (recovered_byte image (live_deltas txs)) 0 (length image)

pub byte_replayed : (image : Image) (txs : List Tx) (address : ℕ) → address < length image → slice_index (replayed image txs) address ≡ recovered_byte image (live_deltas txs) address
unfolding replayed
byte_replayed image txs address below =
    get_or-map-range_with_len (recovered_byte image (live_deltas txs)) 0 (length image) address address 0 below (omega arith)

pub nothing_replayed : (g : Geometry) (image : Image) (h : Header) → log_of g image ≡ WithHeader h (Listed []) → recovered g image ≡ Some image
nothing_replayed g image h is =
    let same : replayed image [] ≡ image = ext_get_or 0 (replayed image []) image (length-replayed image []) (λ i below. byte_replayed image [] i (omega (arith, below, length-replayed image []))) in
    ap (recovered_by image) is ∙ ap (λ (i : Image). Some i) same

-- a delta elsewhere gives nothing for a byte of the block
gives_nothing : (b address : ℕ) (d : Delta) → 4096 * b ≤ address → address < 4096 * b + 4096 → IsElsewhere b d → given_at address d ≡ None
gives_nothing b address d low high away =
    let test : (leb d.home address && ltb address (d.home + d.len)) ≡ false = elim away [
      | inl before ↦ and_right (leb d.home address) (ltb address (d.home + d.len)) (le-ltb address (d.home + d.len) (omega (arith, before, low)))
      | inr behind ↦ and_left (leb d.home address) (ltb address (d.home + d.len)) (lt-leb d.home address (omega (arith, behind, high)))
    ] in
    ap (λ (c : Bool). cond c (byte_of d (address - d.home)) None) test

none_given : (b address : ℕ) (keeps : Delta → Bool) (deltas : List Delta) → 4096 * b ≤ address → address < 4096 * b + 4096 → AllByRecursion (IsElsewhere b) deltas
    → filter_map (given_at address) (filter keeps deltas) ≡ []
none_given b address keeps [] low high away = refl
none_given b address keeps (d ∷ deltas) low high away =
    let rest = none_given b address keeps deltas low high away.1 in
    elim (keeps d) as (λ c. filter_map (given_at address) (cond c (d ∷ filter keeps deltas) (filter keeps deltas)) ≡ []) [
      | true ↦ ap (λ (o : Option ℕ). cons_option o (filter_map (given_at address) (filter keeps deltas))) (gives_nothing b address d low high away.0) ∙ rest
      | false ↦ rest
    ]

none_live : (b address : ℕ) (txs : List Tx) → 4096 * b ≤ address → address < 4096 * b + 4096 → IsUncovered b txs → filter_map (given_at address) (live_deltas txs) ≡ []
none_live b address [] low high away = refl
none_live b address (tx ∷ later) low high away =
    let keeps : Delta → Bool = λ d. not (list_any (cancels (d.home / 4096)) later) in
    filter_map-append (given_at address) (filter keeps tx.deltas) (live_deltas later)
    ∙ ap (λ (l : List ℕ). l ++ filter_map (given_at address) (live_deltas later)) (none_given b address keeps tx.deltas low high away.0)
    ∙ none_live b address later low high away.1

pub untouched_block : (image : Image) (txs : List Tx) (b : ℕ) → IsUncovered b txs → sectors_from (replayed image txs) (8 * b) 8 ≡ sectors_from image (8 * b) 8
untouched_block image txs b away =
    let all = replayed image txs in
    let size = length-replayed image txs in
    let at = 512 * (8 * b) in
    let sizes : length (take 4096 (drop at all)) ≡ length (take 4096 (drop at image)) =
    omega (arith, length-take 4096 (drop at all), length-take 4096 (drop at image), length-drop at all, length-drop at image, size) in
    ext_get_or 0 (take 4096 (drop at all)) (take 4096 (drop at image)) sizes (λ i below.
    let inside : i < 4096 = omega (arith, below, length-take 4096 (drop at all)) in
    let within : at + i < length image = omega (arith, below, size, length-take 4096 (drop at all), length-drop at all) in
    let byte : (c : Image) → slice_index (take 4096 (drop at c)) i ≡ slice_index c (at + i) = λ c. get_or-take 4096 (drop at c) i 0 inside ∙ get_or-drop at c i 0 in
    byte all ∙ byte_replayed image txs (at + i) within
    ∙ ap (λ (l : List ℕ). unwrap_or (last_or None l) (slice_index image (at + i))) (none_live b (at + i) txs (omega arith) (omega (arith, inside)) away)
    ∙ sym (byte image))
