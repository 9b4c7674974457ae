-- Bytes put into an image, byte by byte and block by block.
use Rattle.std.proofs.Common.{◌≡◌, ◌<◌, ◌≤◌, inl, inr, ℕ, ◌+◌, ◌-◌, ◌*◌, ◌/◌, ◌%◌, eqb, Bool, cond, List, [], ◌∷◌, ◌++◌, length, take, drop, slice_index, refl, sym, ap, ◌∙◌, arith, length-take, length-drop, length-append}
use Rattle.std.proofs.lemmas.Bool.{cases_lt, cases_Bool, eqb-true, eqb-false}
use Rattle.std.proofs.lemmas.List.{ext_get_or, get_or-take, get_or-drop, get_or_append_left, get_or-append_right, map-append}
use Rattle.lufs_base.specs.Fields.{put_at}
use Rattle.volume_model.specs.Format.{Image, block}
use Rattle.volume_model.specs.declared.device_call.DeviceCall.{DeviceCall}
use Rattle.volume_model.specs.declared.device_call.DeviceCall.TheVariants.{Write}
use Rattle.volume_model.specs.Crash.{image_after}
use Rattle.volume_model.proofs.Calls.{image_after-append}
use Rattle.meta_store.specs.declared.change.RawWrite.{RawWrite}
use Rattle.meta_store.specs.Changes.{writes_of, with_part}

pub length-put_at : (l : List ℕ) (at : ℕ) (bytes : List ℕ) → at + length bytes ≤ length l → length (put_at l at bytes) ≡ length l
length-put_at l at bytes fits =
    let rest : List ℕ = drop (at + length bytes) l in
    omega (arith, fits, length-append (take at l) (bytes ++ rest), length-append bytes rest, length-take at l, length-drop (at + length bytes) l)

before_put : (l : List ℕ) (at : ℕ) (bytes : List ℕ) (i : ℕ) → at + length bytes ≤ length l → i < at → slice_index (put_at l at bytes) i ≡ slice_index l i
before_put l at bytes i fits before =
    get_or_append_left (take at l) (bytes ++ drop (at + length bytes) l) 0 i (omega (arith, fits, before, length-take at l)) ∙ get_or-take at l i 0 before

inside_put : (l : List ℕ) (at : ℕ) (bytes : List ℕ) (i : ℕ) → at + length bytes ≤ length l → at ≤ i → i < at + length bytes → slice_index (put_at l at bytes) i ≡ slice_index bytes (i - at)
inside_put l at bytes i fits from below =
    let rest : List ℕ = drop (at + length bytes) l in
    get_or-append_right (take at l) (bytes ++ rest) at i 0 (omega (arith, fits, length-take at l)) from
    ∙ get_or_append_left bytes rest 0 (i - at) (omega (arith, from, below))

after_put : (l : List ℕ) (at : ℕ) (bytes : List ℕ) (i : ℕ) → at + length bytes ≤ length l → at + length bytes ≤ i → slice_index (put_at l at bytes) i ≡ slice_index l i
after_put l at bytes i fits past =
    let rest : List ℕ = drop (at + length bytes) l in
    get_or-append_right (take at l) (bytes ++ rest) at i 0 (omega (arith, fits, length-take at l)) (omega (arith, past))
    ∙ get_or-append_right bytes rest (length bytes) (i - at) 0 refl (omega (arith, past))
    ∙ get_or-drop (at + length bytes) l (i - at - length bytes) 0
    ∙ ap (λ (n : ℕ). slice_index l n) (omega (arith, past))

byte_of_block : (image : Image) (b i : ℕ) → i < 4096 → slice_index (block image b) i ≡ slice_index image (512 * (8 * b) + i)
byte_of_block image b i low = get_or-take 4096 (drop (512 * (8 * b)) image) i 0 low ∙ get_or-drop (512 * (8 * b)) image i 0

length_of_block : (image : Image) (b : ℕ) → 4096 * b + 4096 ≤ length image → length (block image b) ≡ 4096
length_of_block image b inside =
    omega (arith, inside, length-take 4096 (drop (512 * (8 * b)) image), length-drop (512 * (8 * b)) image)

-- the block that the bytes lie in
put_here : (image : Image) (at : ℕ) (bytes : List ℕ) (b : ℕ) → at % 4096 + length bytes ≤ 4096 → 4096 * (at / 4096) + 4096 ≤ length image → b ≡ at / 4096
    → block (put_at image at bytes) b ≡ put_at (block image b) (at % 4096) bytes
put_here image at bytes b fits inside its_block =
    let all = put_at image at bytes in
    let own = block image b in
    let place = at % 4096 in
    let whole : at + length bytes ≤ length image = omega (arith, fits, inside) in
    let size = length-put_at image at bytes whole in
    let old_size : length own ≡ 4096 = length_of_block image b (omega (arith, inside, its_block)) in
    let new_size : length (block all b) ≡ 4096 = length_of_block all b (omega (arith, inside, its_block, size)) in
    let part : place + length bytes ≤ length own = omega (arith, fits, old_size) in
    let put_size = length-put_at own place bytes part in
    ext_get_or 0 (block all b) (put_at own place bytes) (omega (arith, new_size, put_size, old_size)) (λ i below.
    let low : i < 4096 = omega (arith, below, new_size) in
    let address = 512 * (8 * b) + i in
    byte_of_block all b i low
    ∙ elim (cases_lt i place) [
      | inl before ↦
          before_put image at bytes address whole (omega (arith, before, its_block))
          ∙ sym (before_put own place bytes i part before ∙ byte_of_block image b i low)
      | inr from ↦ elim (cases_lt i (place + length bytes)) [
        | inl within ↦
            inside_put image at bytes address whole (omega (arith, from, its_block)) (omega (arith, within, its_block))
            ∙ ap (λ (n : ℕ). slice_index bytes n) (let same : address - at ≡ i - place = omega (arith, from, its_block) in same)
            ∙ sym (inside_put own place bytes i part from within)
        | inr past ↦
            after_put image at bytes address whole (omega (arith, past, its_block))
            ∙ sym (after_put own place bytes i part past ∙ byte_of_block image b i low)
      ]
    ])

-- any other block
pub put_elsewhere : (image : Image) (at : ℕ) (bytes : List ℕ) (b : ℕ) → at % 4096 + length bytes ≤ 4096 → 4096 * (at / 4096) + 4096 ≤ length image → (b ≡ at / 4096 → ⊥)
    → block (put_at image at bytes) b ≡ block image b
put_elsewhere image at bytes b fits inside other =
    let all = put_at image at bytes in
    let whole : at + length bytes ≤ length image = omega (arith, fits, inside) in
    let size = length-put_at image at bytes whole in
    let first = 512 * (8 * b) in
    let same_size : length (block all b) ≡ length (block image b) =
    omega (arith, size, length-take 4096 (drop first all), length-take 4096 (drop first image), length-drop first all, length-drop first image) in
    ext_get_or 0 (block all b) (block image b) same_size (λ i below.
    let low : i < 4096 = omega (arith, below, length-take 4096 (drop first all)) in
    byte_of_block all b i low
    ∙ elim (cases_lt (first + i) at) [
      | inl before ↦ before_put image at bytes (first + i) whole before
      | inr from ↦ elim (cases_lt (first + i) (at + length bytes)) [
        | inl within ↦ absurd (other (omega (arith, from, within, fits, low)))
        | inr past ↦ after_put image at bytes (first + i) whole past
      ]
    ]
    ∙ sym (byte_of_block image b i low))

-- each block of an image with bytes put into one of them
pub block_put : (image : Image) (at : ℕ) (bytes : List ℕ) (b : ℕ) → at % 4096 + length bytes ≤ 4096 → 4096 * (at / 4096) + 4096 ≤ length image
    → block (put_at image at bytes) b ≡ with_part (block image) (at / 4096) (at % 4096) bytes b
block_put image at bytes b fits inside = elim (cases_Bool (eqb b (at / 4096))) [
  | inl here ↦
      put_here image at bytes b fits inside (eqb-true b (at / 4096) here)
      ∙ ap (λ (test : Bool). cond test (put_at (block image b) (at % 4096) bytes) (block image b)) (sym here)
  | inr other ↦
      put_elsewhere image at bytes b fits inside (eqb-false b (at / 4096) other)
      ∙ ap (λ (test : Bool). cond test (put_at (block image b) (at % 4096) bytes) (block image b)) (sym other)
]

-- one raw write more
pub raw_more : (image : Image) (raw : List RawWrite) (w : RawWrite) → image_after image (writes_of (raw ++ w ∷ [])) ≡ put_at (image_after image (writes_of raw)) (512 * w.first) w.bytes
raw_more image raw w =
    ap (λ (calls : List DeviceCall). image_after image calls) (map-append (λ w. Write w.first w.bytes) raw (w ∷ []))
    ∙ image_after-append image (writes_of raw) (writes_of (w ∷ []))
