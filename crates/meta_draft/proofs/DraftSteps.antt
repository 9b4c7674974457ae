-- A block of a store with the raw writes and deltas of a change laid over it.
use Rattle.std.proofs.Common.{◌≡◌, ◌<◌, ◌≤◌, inl, inr, ℕ, ◌+◌, ◌*◌, ◌/◌, ◌%◌, eqb, Bool, cond, List, [], ◌∷◌, ◌++◌, length, take, drop, Option, Some, None, IfSome, option_map, refl, sym, ap, ◌∙◌, arith, length-take, length-drop, length-append}
use Rattle.std.specs.Prelude.{All}
use Rattle.std.proofs.lemmas.Bool.{cases_lt, ne_eqb}
use Rattle.std.proofs.lemmas.List.{ext_get_or, get_or-take, get_or-drop, get_or_append_left}
use Rattle.std.proofs.lemmas.List.Elements.{All-head, All-tail, filter-append}
use Rattle.lufs_base.specs.Fields.{put_at}
use Rattle.lufs_base.specs.Layout.{blocks_of}
use Rattle.lufs_base.specs.declared.geometry.Geometry.{Geometry}
use Rattle.lufs_base.specs.declared.delta.Delta.{Delta}
use Rattle.volume_model.specs.Format.{Image, sectors_of, block}
use Rattle.volume_model.specs.Crash.{image_after}
use Rattle.volume_model.specs.Log.{lays_on}
use Rattle.meta_store.specs.declared.change.Change.{Change}
use Rattle.meta_store.specs.declared.change.RawWrite.{RawWrite}
use Rattle.meta_store.specs.Laid.{laid_block, laid_byte}
use Rattle.meta_store.specs.Changes.{writes_of, deltas_on, changed, with_part}
use Rattle.meta_store.proofs.LaidBlocks.{block_laid_over, length-laid_block, laid_block_at}
use Rattle.meta_store.proofs.ImageLaid.{laid_byte_append}
use Rattle.meta_store.proofs.PutBytes.{block_put}
use Rattle.meta_draft.specs.OnBlock.{IsInOneBlock, raw_on, changed_block}

-- a block with more deltas laid over it
pub laid_block_append : (deltas more : List Delta) (bytes : List ℕ) → laid_block more (laid_block deltas bytes) ≡ laid_block (deltas ++ more) bytes
laid_block_append deltas more bytes =
    let first = laid_block deltas bytes in
    let size = length-laid_block deltas bytes in
    let both = length-laid_block more first in
    let all = length-laid_block (deltas ++ more) bytes in
    ext_get_or 0 (laid_block more first) (laid_block (deltas ++ more) bytes) (both ∙ size ∙ sym all) (λ i below.
    let inside : i < length first = omega (arith, below, both) in
    let within : i < length bytes = omega (arith, inside, size) in
    laid_block_at more first i inside
    ∙ ap (λ (x : ℕ). laid_byte more i x) (laid_block_at deltas bytes i within)
    ∙ sym (laid_byte_append deltas more i _)
    ∙ sym (laid_block_at (deltas ++ more) bytes i within))

pub one_more_on : (deltas : List Delta) (d : Delta) (b : ℕ) (bytes : List ℕ) → laid_block (deltas_on (d ∷ []) b) (laid_block (deltas_on deltas b) bytes) ≡ laid_block (deltas_on (deltas ++ d ∷ []) b) bytes
one_more_on deltas d b bytes =
    laid_block_append (deltas_on deltas b) (deltas_on (d ∷ []) b) bytes
    ∙ ap (λ (l : List Delta). laid_block l bytes) (sym (filter-append (lays_on b) deltas (d ∷ [])))

pub raw_on_append : (b : ℕ) (raw more : List RawWrite) (bytes : List ℕ) → raw_on b (raw ++ more) bytes ≡ raw_on b more (raw_on b raw bytes)
raw_on_append b [] more bytes = refl
raw_on_append b (w ∷ raw) more bytes = raw_on_append b raw more (cond (eqb b (w.first / 8)) (put_at bytes (512 * (w.first % 8)) w.bytes) bytes)

-- bytes put anywhere make a list no shorter
longer : (l : List ℕ) (at : ℕ) (bytes : List ℕ) → length l ≤ length (put_at l at bytes)
longer l at bytes =
    let rest : List ℕ = drop (at + length bytes) l in
    omega (arith, length-append (take at l) (bytes ++ rest), length-append bytes rest, length-take at l, length-drop (at + length bytes) l)

-- a block before the bytes that are put
put_after : (image : Image) (at : ℕ) (bytes : List ℕ) (b : ℕ) → 4096 * b + 4096 ≤ at → 4096 * b + 4096 ≤ length image → block (put_at image at bytes) b ≡ block image b
put_after image at bytes b before inside =
    let all = put_at image at bytes in
    let first = 512 * (8 * b) in
    let long = longer image at bytes in
    let size : length (block all b) ≡ length (block image b) =
    omega (arith, inside, long, length-take 4096 (drop first all), length-take 4096 (drop first image), length-drop first all, length-drop first image) in
    ext_get_or 0 (block all b) (block image b) size (λ i below.
    let low : i < 4096 = omega (arith, below, length-take 4096 (drop first all)) in
    get_or-take 4096 (drop first all) i 0 low
    ∙ get_or-drop first all i 0
    ∙ get_or_append_left (take at image) (bytes ++ drop (at + length bytes) image) 0 (first + i) (omega (arith, before, inside, low, length-take at image))
    ∙ get_or-take at image (first + i) 0 (omega (arith, before, low))
    ∙ sym (get_or-take 4096 (drop first image) i 0 low ∙ get_or-drop first image i 0))

-- a block of an image with bytes put into one block, which may lie past the image
block_put_anywhere : (image : Image) (at : ℕ) (bytes : List ℕ) (b : ℕ) → at % 4096 + length bytes ≤ 4096 → 4096 * b + 4096 ≤ length image
    → block (put_at image at bytes) b ≡ with_part (block image) (at / 4096) (at % 4096) bytes b
block_put_anywhere image at bytes b fits inside = elim (cases_lt b (at / 4096)) [
  | inl past ↦
      put_after image at bytes b (omega (arith, past)) inside
      ∙ ap (λ (test : Bool). cond test (put_at (block image b) (at % 4096) bytes) (block image b)) (sym (ne_eqb b (at / 4096) (λ same. omega (arith, past, same))))
  | inr from ↦ block_put image at bytes b fits (omega (arith, from, inside))
]

-- a block of an image after raw writes
pub raw_block : (image : Image) (raw : List RawWrite) (b : ℕ) → 4096 * b + 4096 ≤ length image → All IsInOneBlock raw → block (image_after image (writes_of raw)) b ≡ raw_on b raw (block image b)
raw_block image [] b inside all = refl
raw_block image (w ∷ raw) b inside all =
    let own = All-head IsInOneBlock w raw all in
    let at = 512 * w.first in
    let its_block : at / 4096 ≡ w.first / 8 = omega arith in
    let its_place : at % 4096 ≡ 512 * (w.first % 8) = omega arith in
    let long = longer image at w.bytes in
    raw_block (put_at image at w.bytes) raw b (omega (arith, inside, long)) (All-tail IsInOneBlock w raw all)
    ∙ ap (raw_on b raw)
    (block_put_anywhere image at w.bytes b (omega (arith, its_place, own)) inside
    ∙ ap (λ (k : ℕ). cond (eqb b k) (put_at (block image b) (at % 4096) w.bytes) (block image b)) its_block
    ∙ ap (λ (p : ℕ). cond (eqb b (w.first / 8)) (put_at (block image b) p w.bytes) (block image b)) its_place)

-- a block of a changed image
pub block_of_changed : (image : Image) (change : Change) (b : ℕ) → 4096 * b + 4096 ≤ length image → All IsInOneBlock change.raw
    → block (changed change image) b ≡ changed_block change b (block image b)
block_of_changed image change b inside all =
    sym (block_laid_over (deltas_on change.deltas) (image_after image (writes_of change.raw)) b)
    ∙ ap (λ (bytes : List ℕ). laid_block (deltas_on change.deltas b) bytes) (raw_block image change.raw b inside all)

pub read_changed : (g : Geometry) (content : Option Image) (change : Change) (b : ℕ) (read out : List ℕ) → IfSome content (λ image. 8 * blocks_of g ≤ sectors_of image) → b < blocks_of g → All IsInOneBlock change.raw
    → IfSome content (λ image. read ≡ block image b) → out ≡ changed_block change b read → IfSome (option_map (changed change) content) (λ image. out ≡ block image b)
read_changed g None change b read out size below all is laid = tt
read_changed g (Some image) change b read out size below all is laid =
    laid ∙ ap (changed_block change b) is ∙ sym (block_of_changed image change b (omega (arith, size, below)) all)
