-- What a crash may leave after a step's call, and a byte of an image by its sector.
use Rattle.std.proofs.Common.{◌≡◌, ◌<◌, ◌≤◌, ◌⊎◌, inl, inr, ℕ, ◌+◌, ◌-◌, ◌*◌, ◌/◌, ◌%◌, List, [], ◌∷◌, ◌++◌, length, take, drop, slice_index, Some, None, refl, sym, ap, ◌∙◌, subst, arith}
use Rattle.std.proofs.lemmas.Bool.{cases_Bool, cases_lt, and_parts, leb-true, cond-true, cond-false}
use Rattle.std.proofs.lemmas.List.{append-nil, get_or-take, get_or-drop, length_push, take_all, length-take-le, get_or_append_left, get_or-append-add}
use Rattle.lufs_base.specs.Layout.{blocks_of}
use Rattle.lufs_base.specs.declared.geometry.Geometry.{Geometry}
use Rattle.volume_model.specs.declared.device_call.DeviceCall.{DeviceCall}
use Rattle.volume_model.specs.declared.device_call.DeviceCall.TheVariants.{Write, Flush}
use Rattle.volume_model.specs.Format.{Image, sector, block, overwritten, named_geometry, is_super, super_of, geometry_of}
use Rattle.volume_model.specs.Crash.{Record, with_calls, IsInside, IsOfSectors, Outcome, IsPartlyWritten, image_after, present_of}
use Rattle.volume_model.proofs.Calls.{image_after-append}
use Rattle.volume_model.proofs.CrashLaws.{present_is_outcome, after_write, after_flush}
use Rattle.volume_model.proofs.Outcomes.{inside_both, length-image_after}
use Rattle.volume_model.proofs.Sectors.{byte_in_sector, length-overwritten, sector_before, sector_within, sector_behind}

-- a byte of an image by its sector
pub byte_by_sector : (image : Image) (address : ℕ) → slice_index image address ≡ slice_index (sector image (address / 512)) (address % 512)
byte_by_sector image address =
    let at : 512 * (address / 512) + address % 512 ≡ address = omega arith in
    ap (λ (k : ℕ). slice_index image k) (sym at) ∙ sym (byte_in_sector image (address / 512) (address % 512) (omega arith))

-- images that have the same sector have the same bytes there
pub byte_of_same_sector : (image other : Image) (address k : ℕ) → address / 512 ≡ k → sector image k ≡ sector other k → slice_index image address ≡ slice_index other address
byte_of_same_sector image other address k at same =
    byte_by_sector image address ∙ ap (λ (n : ℕ). slice_index (sector image n) (address % 512)) at ∙ ap (λ (s : List ℕ). slice_index s (address % 512)) same
    ∙ ap (λ (n : ℕ). slice_index (sector other n) (address % 512)) (sym at) ∙ sym (byte_by_sector other address)

-- a byte of a block
pub byte_in_block : (image : Image) (b i : ℕ) → i < 4096 → slice_index (block image b) i ≡ slice_index image (4096 * b + i)
byte_in_block image b i inside =
    let at : 512 * (8 * b) + i ≡ 4096 * b + i = omega arith in
    get_or-take 4096 (drop (512 * (8 * b)) image) i 0 inside ∙ get_or-drop (512 * (8 * b)) image i 0 ∙ ap (λ (k : ℕ). slice_index image k) at

-- the record of no calls more
pub no_calls : (r : Record) → with_calls r [] ≡ r
no_calls r = ap (λ (calls : List DeviceCall). record { opening = r.opening; calls = calls }) (append-nil r.calls)

-- what stands after calls
pub present_after : (r : Record) (calls : List DeviceCall) → present_of (with_calls r calls) ≡ image_after (present_of r) calls
present_after r calls = image_after-append r.opening r.calls calls

-- it is what a crash may leave
pub present_left : (r : Record) → IsOfSectors r → Outcome r (length r.calls) (present_of r)
present_left r ok =
    let all : take (length r.calls) r.calls ≡ r.calls = take_all (length r.calls) r.calls (omega arith) in
    subst (Outcome r (length r.calls)) (ap (image_after r.opening) all) (present_is_outcome r (length r.calls) ok)

pub size_of_present : (r : Record) → IsOfSectors r → length (present_of r) ≡ length r.opening
size_of_present r ok = length-image_after r.opening r.calls (length r.opening) refl ok.calls

-- calls that are of whole sectors inside the image
pub sectors_after : (r : Record) (call : DeviceCall) → IsOfSectors r → IsInside (length r.opening) call → IsOfSectors (with_calls r (call ∷ []))
sectors_after r call ok inside = record { opening = ok.opening; calls = inside_both (length r.opening) r.calls (call ∷ []) ok.calls (inside, tt) }

-- After a write a crash may leave what it could before, with some of its sectors; after a flush what stands there.
pub left_by_write : (r : Record) (first : ℕ) (bytes : List ℕ) (image : Image) → IsOfSectors (with_calls r (Write first bytes ∷ []))
    → Outcome (with_calls r (Write first bytes ∷ [])) (length (with_calls r (Write first bytes ∷ [])).calls) image
    → (old : Image) × Outcome r (length r.calls) old × IsPartlyWritten first bytes old image
left_by_write r first bytes image ok left =
    let call = Write first bytes in
    (after_write r first bytes image ok).0 (subst (λ (n : ℕ). Outcome (with_calls r (call ∷ [])) n image) (length_push r.calls call) left)

pub left_by_flush : (r : Record) (image : Image) → IsOfSectors (with_calls r (Flush ∷ []))
    → Outcome (with_calls r (Flush ∷ [])) (length (with_calls r (Flush ∷ [])).calls) image → image ≡ present_of r
left_by_flush r image ok left = (after_flush r image ok).0 (subst (λ (n : ℕ). Outcome (with_calls r (Flush ∷ [])) n image) (length_push r.calls Flush) left)

pub left_by_nothing : (r : Record) (image : Image) → Outcome (with_calls r []) (length (with_calls r []).calls) image → Outcome r (length r.calls) image
left_by_nothing r image left = subst (λ (q : Record). Outcome q (length q.calls) image) (no_calls r) left

-- a write that is done
pub done_is_partly : (image : Image) (first : ℕ) (bytes : List ℕ) → 512 * first + length bytes ≤ length image → IsPartlyWritten first bytes image (overwritten image first bytes)
done_is_partly image first bytes fits = record { size = length-overwritten image first bytes fits; each = λ k. inr refl }

-- sectors beside a write stay
pub kept_beside : (first : ℕ) (bytes : List ℕ) (old new : Image) (k : ℕ) → length bytes % 512 ≡ 0 → 512 * first + length bytes ≤ length old → IsPartlyWritten first bytes old new
    → (k < first) ⊎ (512 * first + length bytes ≤ 512 * k) → sector new k ≡ sector old k
kept_beside first bytes old new k whole fits partly beside = elim (partly.each k) [
  | inl same ↦ same
  | inr put ↦ elim beside [
    | inl before ↦ put ∙ sector_before old first bytes k fits before
    | inr after ↦ put ∙ sector_behind old first bytes k fits after
  ]
]

-- a sector that a crash left of a write is the old one, or as the write leaves it on any image
pub old_or_written : (first : ℕ) (bytes : List ℕ) (old new other : Image) (k : ℕ) → length bytes % 512 ≡ 0 → 512 * first + length bytes ≤ length old → 512 * first + length bytes ≤ length other
    → IsPartlyWritten first bytes old new → (sector new k ≡ sector old k) ⊎ (sector new k ≡ sector (overwritten other first bytes) k)
old_or_written first bytes old new other k whole fits others partly = elim (partly.each k) [
  | inl same ↦ inl same
  | inr put ↦ elim (cases_lt k first) [
    | inl before ↦ inl (put ∙ sector_before old first bytes k fits before)
    | inr from ↦ elim (cases_lt (512 * k) (512 * first + length bytes)) [
      | inl within ↦
          let i : ℕ = k - first in
          let at : first + i ≡ k = omega (arith, from) in
          let inside : 512 * i + 512 ≤ length bytes = omega (arith, from, within, whole) in
          inr (put ∙ sector_within old first bytes k i fits at inside ∙ sym (sector_within other first bytes k i others at inside))
      | inr after ↦ inl (put ∙ sector_behind old first bytes k fits after)
    ]
  ]
]

-- a byte that a write puts
pub byte_written : (image : Image) (first : ℕ) (bytes : List ℕ) (i : ℕ) → 512 * first + length bytes ≤ length image → i < length bytes
    → slice_index (overwritten image first bytes) (512 * first + i) ≡ slice_index bytes i
byte_written image first bytes i fits inside =
    let front : length (take (512 * first) image) ≡ 512 * first = length-take-le (512 * first) image (omega (arith, fits)) in
    let rest : List ℕ = drop (512 * first + length bytes) image in
    ap (λ (n : ℕ). slice_index (take (512 * first) image ++ (bytes ++ rest)) (n + i)) (sym front)
    ∙ get_or-append-add (take (512 * first) image) (bytes ++ rest) i 0 ∙ get_or_append_left bytes rest 0 i inside

-- the geometry is of one sector and the size
pub same_geometry : (g : Geometry) (old new : Image) → length new ≡ length old → sector new 16 ≡ sector old 16 → geometry_of old ≡ Some g → geometry_of new ≡ Some g
same_geometry g old new size same is = ap (λ (n : ℕ). super_of (sector new 16) (n / 512)) size ∙ ap (λ (s : List ℕ). super_of s (length old / 512)) same ∙ is

super_fits : (s : List ℕ) (sectors : ℕ) (g : Geometry) → super_of s sectors ≡ Some g → 8 * blocks_of g ≤ sectors
unfolding super_of
super_fits s sectors g is =
    elim (cases_Bool (is_super s sectors)) [
      | inl test ↦
          let given : super_of s sectors ≡ Some (named_geometry s) = cond-true (is_super s sectors) (Some (named_geometry s)) None test in
          let named : named_geometry s ≡ g = cc in
          subst (λ (h : Geometry). 8 * blocks_of h ≤ sectors) named (leb-true (8 * blocks_of (named_geometry s)) sectors (and_parts _ _ test).1)
      | inr test ↦ let none : super_of s sectors ≡ None = cond-false (is_super s sectors) (Some (named_geometry s)) None test in absurd (cc)
    ]

-- an image has all blocks of its volume
pub blocks_fit : (g : Geometry) (image : Image) → geometry_of image ≡ Some g → 4096 * blocks_of g ≤ length image
blocks_fit g image is = let sectors : 8 * blocks_of g ≤ length image / 512 = super_fits (sector image 16) (length image / 512) g is in omega (arith, sectors)
