-- Deltas laid over blocks, byte by byte.
use Rattle.std.proofs.Common.{◌≡◌, ◌<◌, ℕ, ◌+◌, ◌*◌, ◌/◌, ◌%◌, List, [], ◌∷◌, ◌++◌, length, take, drop, slice_index, Option, Some, None, sym, ap, ◌∙◌, arith, refl, length-take, length-drop, IfSome}
use Rattle.std.specs.Option.{unwrap_or, option_map}
use Rattle.std.specs.List.{filter_map, last_or, cons_option}
use Rattle.std.proofs.lemmas.List.{ext_get_or, get_or-take, get_or-drop}
use Rattle.std.proofs.lemmas.List.Elements.{filter_map-append}
use Rattle.std.proofs.lemmas.List.FromFn.{length-map-range_with_len, get_or-map-range_with_len}
use Rattle.lufs_base.specs.declared.delta.Delta.{Delta}
use Rattle.volume_model.specs.Format.{Image, sectors_from}
use Rattle.meta_store.specs.LaidSize.{length-laid_over}
use Rattle.meta_store.specs.Laid.{given_in_block, laid_byte, laid_block, laid_over}

last_or-append : {A : Type 0} (o : Option A) (xs ys : List A) → last_or o (xs ++ ys) ≡ last_or (last_or o xs) ys
last_or-append o [] ys = refl
last_or-append o (x ∷ xs) ys = last_or-append (Some x) xs ys

one_more : (o : Option ℕ) (given : List ℕ) (byte : ℕ)
    → unwrap_or (last_or None (given ++ cons_option o [])) byte ≡ unwrap_or (last_or None (cons_option o [])) (unwrap_or (last_or None given) byte)
one_more None given byte = ap (λ (found : Option ℕ). unwrap_or found byte) (last_or-append None given [])
one_more (Some x) given byte = ap (λ (found : Option ℕ). unwrap_or found byte) (last_or-append None given (x ∷ []))

laid_byte_more : (deltas : List Delta) (d : Delta) (place byte : ℕ) → laid_byte (deltas ++ d ∷ []) place byte ≡ laid_byte (d ∷ []) place (laid_byte deltas place byte)
laid_byte_more deltas d place byte =
    ap (λ (l : List ℕ). unwrap_or (last_or None l) byte) (filter_map-append (given_in_block place) deltas (d ∷ []))
    ∙ one_more (given_in_block place d) (filter_map (given_in_block place) deltas) byte

pub length-laid_block : (deltas : List Delta) (bytes : List ℕ) → length (laid_block deltas bytes) ≡ length bytes
unfolding laid_block
length-laid_block deltas bytes = length-map-range_with_len (λ place. laid_byte deltas place (slice_index bytes place)) 0 (length bytes)

pub laid_block_at : (deltas : List Delta) (bytes : List ℕ) (place : ℕ) → place < length bytes → slice_index (laid_block deltas bytes) place ≡ laid_byte deltas place (slice_index bytes place)
unfolding laid_block
laid_block_at deltas bytes place below =
    get_or-map-range_with_len (λ place. laid_byte deltas place (slice_index bytes place)) 0 (length bytes) place place 0 below (omega arith)

-- laying no delta leaves the block
pub nothing_laid : (bytes : List ℕ) → bytes ≡ laid_block [] bytes
nothing_laid bytes =
    ext_get_or 0 bytes (laid_block [] bytes) (sym (length-laid_block [] bytes)) (λ i below. sym (laid_block_at [] bytes i below))

-- one more delta is laid over what the others left
pub laid_block_more : (deltas : List Delta) (d : Delta) (bytes : List ℕ) → laid_block (d ∷ []) (laid_block deltas bytes) ≡ laid_block (deltas ++ d ∷ []) bytes
laid_block_more deltas d bytes =
    let before = laid_block deltas bytes in
    let size = length-laid_block deltas bytes in
    let last = length-laid_block (d ∷ []) before in
    let all = length-laid_block (deltas ++ d ∷ []) bytes in
    ext_get_or 0 (laid_block (d ∷ []) before) (laid_block (deltas ++ d ∷ []) bytes) (last ∙ size ∙ sym all) (λ i below.
    let inside : i < length before = omega (arith, below, last) in
    let within : i < length bytes = omega (arith, inside, size) in
    laid_block_at (d ∷ []) before i inside
    ∙ ap (λ (byte : ℕ). laid_byte (d ∷ []) i byte) (laid_block_at deltas bytes i within)
    ∙ sym (laid_byte_more deltas d i (slice_index bytes i))
    ∙ sym (laid_block_at (deltas ++ d ∷ []) bytes i within))

pub laid_over_at : (deltas_of : ℕ → List Delta) (image : Image) (address : ℕ) → address < length image
    → slice_index (laid_over deltas_of image) address ≡ laid_byte (deltas_of (address / 4096)) (address % 4096) (slice_index image address)
unfolding laid_over
laid_over_at deltas_of image address below =
    get_or-map-range_with_len (λ address. laid_byte (deltas_of (address / 4096)) (address % 4096) (slice_index image address)) 0 (length image) address address 0 below (omega arith)

-- a block of the whole is the block with its own deltas laid over it
pub block_laid_over : (deltas_of : ℕ → List Delta) (image : Image) (b : ℕ)
    → laid_block (deltas_of b) (sectors_from image (8 * b) 8) ≡ sectors_from (laid_over deltas_of image) (8 * b) 8
block_laid_over deltas_of image b =
    let at = 512 * (8 * b) in
    let all = laid_over deltas_of image in
    let own : List ℕ = take 4096 (drop at image) in
    let size = length-laid_over deltas_of image in
    let laid = length-laid_block (deltas_of b) own in
    let of_own = length-take 4096 (drop at image) in
    let of_all = length-take 4096 (drop at all) in
    let left = length-drop at image in
    let left_all = length-drop at all in
    ext_get_or 0 (laid_block (deltas_of b) own) (take 4096 (drop at all)) (omega (arith, laid, of_own, of_all, left, left_all, size)) (λ i below.
    let inside : i < length own = omega (arith, below, laid) in
    let low : i < 4096 = omega (arith, inside, of_own) in
    let within : at + i < length image = omega (arith, inside, of_own, left) in
    let byte : (c : Image) → slice_index (take 4096 (drop at c)) i ≡ slice_index c (at + i) = λ c. get_or-take 4096 (drop at c) i 0 low ∙ get_or-drop at c i 0 in
    let its_block : (at + i) / 4096 ≡ b = omega (arith, low) in
    let its_place : (at + i) % 4096 ≡ i = omega (arith, low, its_block) in
    laid_block_at (deltas_of b) own i inside
    ∙ ap (λ (x : ℕ). laid_byte (deltas_of b) i x) (byte image)
    ∙ ap (λ (n : ℕ). laid_byte (deltas_of n) i (slice_index image (at + i))) (sym its_block)
    ∙ ap (λ (p : ℕ). laid_byte (deltas_of ((at + i) / 4096)) p (slice_index image (at + i))) (sym its_place)
    ∙ sym (laid_over_at deltas_of image (at + i) within)
    ∙ sym (byte all))

-- a block read from what is told, with its deltas laid over it
pub read_laid : (present : Option Image) (deltas_of : ℕ → List Delta) (b : ℕ) (read out : List ℕ) → IfSome present (λ image. read ≡ sectors_from image (8 * b) 8)
    → out ≡ laid_block (deltas_of b) read → IfSome (option_map (laid_over deltas_of) present) (λ image. out ≡ sectors_from image (8 * b) 8)
read_laid None deltas_of b read out is laid = tt
read_laid (Some image) deltas_of b read out is laid =
    laid ∙ ap (λ (bytes : List ℕ). laid_block (deltas_of b) bytes) is ∙ block_laid_over deltas_of image b
