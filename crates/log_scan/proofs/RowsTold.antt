-- The row of a transaction in the ring of an image that a disk tells.
use Rattle.std.proofs.Common.{◌≡◌, ℕ, ◌+◌, ◌-◌, ◌*◌, ◌%◌, ◌/◌, ◌<◌, ◌≤◌, Bool, true, false, ltb, ◌&&◌, List, [], ◌∷◌, ◌++◌, length, take, drop, get_or, Option, Some, None, IfSome, Result, Ok, Err, OnOk, inl, inr, sym, ap, subst, ◌∙◌, arith, length-drop}
use Rattle.std.proofs.lemmas.List.{take_at, drop-append-le, take-append-le, drop-take, drop-drop, take-take}
use Rattle.std.proofs.lemmas.List.FromFn.{length-map-range_with_len, get_or-map-range_with_len}
use Rattle.std.proofs.Math.Nat.{mod-eq_of_lt, add-mod_right}
use Rattle.std.proofs.lemmas.Bool.{cases_lt, lt-ltb, le-ltb}
use Rattle.lufs_base.specs.Layout.{ring_of, ring_place}
use Rattle.lufs_base.specs.declared.geometry.Geometry.{Geometry}
use Rattle.volume_model.specs.Format.{Image, sector, sectors_from}
use Rattle.volume_model.specs.Log.{belongs_to, row_of, payload_of}
use Rattle.sector_disk.specs.Disk.{DiskTold, IsUnwritten}
use Rattle.log_scan.specs.declared.ring.Piece.{Piece}
use Rattle.log_scan.specs.Ring.{ring_in}
use Rattle.log_scan.specs.Pieces.{IsPieceOf, Holds, Shows}
use Rattle.log_scan.specs.Answers.{IsRow}
use Rattle.log_scan.proofs.Rows.{IsRowPart, carried_to, part_none, part_more, part_ends, carried_none, carried_more}

pub length-ring_in : (g : Geometry) (head : ℕ) (image : Image) → length (ring_in g head image) ≡ ring_of g
length-ring_in g head image = length-map-range_with_len (λ i. sector image (ring_place g ((head + i) % ring_of g))) 0 (ring_of g)

pub get_or-ring_in : (g : Geometry) (head i : ℕ) (image : Image) → i < ring_of g → get_or (ring_in g head image) i [] ≡ sector image (ring_place g ((head + i) % ring_of g))
get_or-ring_in g head i image below =
    get_or-map-range_with_len (λ i. sector image (ring_place g ((head + i) % ring_of g))) 0 (ring_of g) i i [] below (omega arith)

-- a sector of sectors that were read
sector_read : (image : Image) (first n k : ℕ) (out rest : List ℕ) → length out ≡ 512 * n → k < n → out ≡ sectors_from image first n
    → sector (out ++ rest) k ≡ sector image (first + k)
sector_read image first n k out rest size below is =
    let room : 512 * n ≡ 512 * k + (512 * n - 512 * k) = omega arith in
    let place : 512 * first + 512 * k ≡ 512 * (first + k) = omega arith in
    ap (λ (l : List ℕ). take 512 l) (drop-append-le (512 * k) out rest (omega arith))
    ∙ take-append-le 512 (drop (512 * k) out) rest (omega (arith, length-drop (512 * k) out))
    ∙ ap (λ (l : List ℕ). take 512 (drop (512 * k) l)) is
    ∙ ap (λ (m : ℕ). take 512 (drop (512 * k) (take m (drop (512 * first) image)))) room
    ∙ ap (λ (l : List ℕ). take 512 l) (drop-take (512 * k) (512 * n - 512 * k) (drop (512 * first) image))
    ∙ take-take 512 (512 * n - 512 * k) (drop (512 * k) (drop (512 * first) image)) (omega arith)
    ∙ ap (λ (l : List ℕ). take 512 l) (drop-drop (512 * k) (512 * first) image)
    ∙ ap (λ (m : ℕ). take 512 (drop m image)) place

-- sectors that were read to the front of bytes
front_told : (present : Option Image) (first k : ℕ) (part rest : List ℕ) → length part ≡ 512 * k → IfSome present (λ image. part ≡ sectors_from image first (length part / 512))
    → IfSome present (λ image. take (512 * k) (part ++ rest) ≡ sectors_from image first k)
front_told None first k part rest size read = tt
front_told (Some image) first k part rest size read =
    let count : length part / 512 ≡ k = omega (arith, size) in
    take_at part rest (512 * k) size ∙ read ∙ ap (λ (n : ℕ). sectors_from image first n) count

pub front_read : {T E : Type 0} (result : Result T E) (present : Option Image) (first k : ℕ) (part rest : List ℕ) → length part ≡ 512 * k
    → OnOk result (IfSome present (λ image. part ≡ sectors_from image first (length part / 512)))
    → OnOk result (IfSome present (λ image. take (512 * k) (part ++ rest) ≡ sectors_from image first k))
front_read (Ok x) present first k part rest size read = front_told present first k part rest size read
front_read (Err e) present first k part rest size read = tt

-- no write and no flush, and then again none
pub unwritten_then : {old mid new : DiskTold} → IsUnwritten old mid → IsUnwritten mid new → IsUnwritten old new
unwritten_then first second = record {
  sectors = second.sectors ∙ first.sectors;
  content = second.content ∙ first.content;
  listed = second.listed ∙ first.listed;
  calls = second.calls ∙ first.calls;
}

-- what was read from sector i of the ring on is a piece of it
pub piece_read : (g : Geometry) (head i place : ℕ) (present : Option Image) (out rest : List ℕ) (from : ℕ) (piece : Piece) → head < ring_of g → i < ring_of g
    → place ≡ (head + i) % ring_of g → from ≡ ring_place g place → piece.count ≤ ring_of g - place → piece.count ≤ ring_of g - i
    → length out ≡ 512 * piece.count → piece.first ≡ i → piece.bytes.items ≡ out ++ rest
    → IfSome present (λ image. out ≡ sectors_from image from piece.count) → IfSome present (λ image. IsPieceOf (ring_in g head image) piece)
piece_read g head i place None out rest from piece inside below place_is from_is early short size first bytes read = tt
piece_read g head i place (Some image) out rest from piece inside below place_is from_is early short size first bytes read =
    λ k small.
    let ring : (head + (i + k)) % ring_of g ≡ place + k =
    elim (cases_lt (head + i) (ring_of g)) [
      | inl straight ↦
          let here : (head + i) % ring_of g ≡ head + i = mod-eq_of_lt straight in
          mod-eq_of_lt (omega (arith, here, place_is, early, small)) ∙ omega (arith, here, place_is)
      | inr round ↦
          let sum : head + i ≡ head + i - ring_of g + ring_of g = omega arith in
          let here : (head + i) % ring_of g ≡ head + i - ring_of g = ap (λ (n : ℕ). n % ring_of g) sum ∙ add-mod_right (head + i - ring_of g) (ring_of g) ∙ mod-eq_of_lt (omega arith) in
          let more : head + (i + k) ≡ head + i - ring_of g + k + ring_of g = omega arith in
          ap (λ (n : ℕ). n % ring_of g) more ∙ add-mod_right (head + i - ring_of g + k) (ring_of g) ∙ mod-eq_of_lt (omega (arith, here, place_is, early, small)) ∙ omega (arith, here, place_is)
    ] in
    let at : from + k ≡ ring_place g ((head + (i + k)) % ring_of g) = omega (arith, from_is, ring) in
    ap (λ (l : List ℕ). sector l k) bytes
    ∙ sector_read image from piece.count k out rest size small read
    ∙ ap (λ (n : ℕ). sector image n) at
    ∙ sym (get_or-ring_in g head (i + k) image (omega (arith, short, small)))
    ∙ ap (λ (n : ℕ). get_or (ring_in g head image) (n + k) []) (sym first)

-- a sector that the piece shows
pub shown_in : (ring : List (List ℕ)) (piece : Piece) (i : ℕ) → IsPieceOf ring piece → Shows i piece → sector piece.bytes.items (i - piece.first) ≡ get_or ring i []
shown_in ring piece i is shows =
    let place : piece.first + (i - piece.first) ≡ i = omega (arith, shows.0) in
    is (i - piece.first) (omega (arith, shows.0, shows.1)) ∙ ap (λ (k : ℕ). get_or ring k []) place

-- whether the row goes on at a sector that the piece shows
pub shown_told : (g : Geometry) (head epoch tid i : ℕ) (present : Option Image) (piece : Piece) (s : List ℕ) (test : Bool) → Holds g head present piece → Shows i piece → i < ring_of g
    → s ≡ sector piece.bytes.items (i - piece.first) → test ≡ belongs_to epoch tid s
    → IfSome present (λ image. test ≡ (ltb i (ring_of g) && belongs_to epoch tid (get_or (ring_in g head image) i [])))
shown_told g head epoch tid i None piece s test holds shows below s_is test_is = tt
shown_told g head epoch tid i (Some image) piece s test holds shows below s_is test_is =
    test_is ∙ ap (λ (l : List ℕ). belongs_to epoch tid l) (s_is ∙ shown_in (ring_in g head image) piece i holds.sectors shows)
    ∙ ap (λ (b : Bool). b && belongs_to epoch tid (get_or (ring_in g head image) i [])) (sym (lt-ltb i (ring_of g) below))

pub past_told : (g : Geometry) (head epoch tid i : ℕ) (present : Option Image) → ring_of g ≤ i
    → IfSome present (λ image. false ≡ (ltb i (ring_of g) && belongs_to epoch tid (get_or (ring_in g head image) i [])))
past_told g head epoch tid i None past = tt
past_told g head epoch tid i (Some image) past =
    ap (λ (b : Bool). b && belongs_to epoch tid (get_or (ring_in g head image) i [])) (sym (le-ltb i (ring_of g) past))

-- the row so far, and what it carries
abbrev pub IsRowTo : (epoch tid at i : ℕ) → List (List ℕ) → List ℕ → Type 0
IsRowTo epoch tid at i ring payload = IsRowPart epoch tid at i ring × (payload ≡ carried_to at i ring)

pub row_none_told : (g : Geometry) (head epoch tid at : ℕ) (present : Option Image) (payload : List ℕ) → payload ≡ [] → IfSome present (λ image. IsRowTo epoch tid at at (ring_in g head image) payload)
row_none_told g head epoch tid at None payload is = tt
row_none_told g head epoch tid at (Some image) payload is = (part_none epoch tid at (ring_in g head image), is ∙ sym (carried_none at (ring_in g head image)))

pub both_true : (a b : Bool) → true ≡ (a && b) → b ≡ true
both_true true b is = sym is
both_true false b is = absurd (cc)

-- the row has sector i too
pub row_more_told : (g : Geometry) (head epoch tid at i : ℕ) (present now : Option Image) (piece : Piece) (payload carried more : List ℕ) (test : Bool) → at ≤ i → i < ring_of g
    → now ≡ present → Holds g head now piece → Shows i piece → carried ≡ take 504 (sector piece.bytes.items (i - piece.first)) → more ≡ payload ++ carried → test ≡ true
    → IfSome now (λ image. test ≡ (ltb i (ring_of g) && belongs_to epoch tid (get_or (ring_in g head image) i [])))
    → IfSome present (λ image. IsRowTo epoch tid at i (ring_in g head image) payload) → IfSome present (λ image. IsRowTo epoch tid at (i + 1) (ring_in g head image) more)
row_more_told g head epoch tid at i None now piece payload carried more test low below same holds shows carried_is more_is true_is told so_far = tt
row_more_told g head epoch tid at i (Some image) now piece payload carried more test low below same holds shows carried_is more_is true_is told so_far =
    let ring = ring_in g head image in
    let inside : i < length ring = omega (arith, length-ring_in g head image) in
    let is : IsPieceOf ring piece = subst (λ (o : Option Image). IfSome o (λ image. IsPieceOf (ring_in g head image) piece)) same holds.sectors in
    let tested : test ≡ (ltb i (ring_of g) && belongs_to epoch tid (get_or ring i [])) =
    subst (λ (o : Option Image). IfSome o (λ image. test ≡ (ltb i (ring_of g) && belongs_to epoch tid (get_or (ring_in g head image) i [])))) same told in (
      part_more epoch tid at i ring low inside (both_true (ltb i (ring_of g)) (belongs_to epoch tid (get_or ring i [])) (sym true_is ∙ tested)) so_far.0,
      more_is ∙ carried_more at i ring payload carried low inside (carried_is ∙ ap (λ (l : List ℕ). take 504 l) (shown_in ring piece i is shows)) so_far.1,
    )

-- the row ends before sector i
pub row_ends_told : (g : Geometry) (head epoch tid at i : ℕ) (present now : Option Image) (payload : List ℕ) (test : Bool) → now ≡ present → test ≡ false
    → IfSome now (λ image. test ≡ (ltb i (ring_of g) && belongs_to epoch tid (get_or (ring_in g head image) i [])))
    → IfSome present (λ image. IsRowTo epoch tid at i (ring_in g head image) payload) → IfSome present (λ image. IsRow epoch tid (drop at (ring_in g head image)) (i - at) payload)
row_ends_told g head epoch tid at i None now payload test same none told so_far = tt
row_ends_told g head epoch tid at i (Some image) now payload test same none told so_far =
    let ring = ring_in g head image in
    let tested : test ≡ (ltb i (ring_of g) && belongs_to epoch tid (get_or ring i [])) =
    subst (λ (o : Option Image). IfSome o (λ image. test ≡ (ltb i (ring_of g) && belongs_to epoch tid (get_or (ring_in g head image) i [])))) same told in
    let ends : (ltb i (length ring) && belongs_to epoch tid (get_or ring i [])) ≡ false =
    ap (λ (n : ℕ). ltb i n && belongs_to epoch tid (get_or ring i [])) (length-ring_in g head image) ∙ sym tested ∙ none in
    (part_ends epoch tid at i ring ends so_far.0, so_far.1)
