-- The chunks of a directory, block by block.
use Rattle.std.proofs.Common.{◌≡◌, ℕ, zero, suc, ◌+◌, ◌-◌, ◌*◌, ◌/◌, ◌%◌, ◌<◌, ◌≤◌, List, [], ◌∷◌, ◌++◌, take, drop, map, Bool, true, false, ◌&&◌, Option, Some, None, refl, ap, sym, subst, ◌∙◌, arith, append_assoc, append-nil, length, length-drop, inl, inr, slice_index, if◌then◌else◌, ◌==◌, ne_eqb, unwrap_or, IfSome}
use Rattle.std.specs.List.{list_all, range_with_len}
use Rattle.std.specs.Option.{is_some}
use Rattle.std.proofs.lemmas.List.{drop-drop, drop-take, take-take, take-append-le, drop-append-le, take_all}
use Rattle.std.proofs.Math.Seq.{drop-append_seam}
use Rattle.std.proofs.lemmas.List.FromFn.{map-range_with_len_more}
use Rattle.std.proofs.lemmas.Bool.{cases_lt}
use Rattle.std.proofs.lemmas.List.Folds.{list_all-append}
use Rattle.std.proofs.lemmas.Grind.{flat_map-append}
use Rattle.volume_model.specs.declared.directory.Slot.{Slot}
use Rattle.volume_model.specs.Format.{Blocks, Image, block, chunk_of}
use Rattle.volume_model.specs.Sound.{chunk_at, block_numbered}
use Rattle.fsck_core.specs.Slots.{chunks_in, slots_in_chunks}

-- these are chunks, and these their slots
pub record AreChunks (chunks : List (Option (List Slot))) (slots : List Slot) : Type 0 where
  pub all : list_all is_some chunks ≡ true
  pub slots_are : slots ≡ slots_in_chunks chunks

-- the next chunk of a block
chunk_here : (bytes : List ℕ) (k : ℕ) → chunks_in bytes (k + 1) ≡ chunks_in bytes k ++ chunk_of (take 512 (drop (512 * k) bytes)) ∷ []
chunk_here bytes k = map-range_with_len_more (λ (j : ℕ). chunk_of (take 512 (drop (512 * j) bytes))) 0 k k (omega arith)

and_false : (b : Bool) → (b && false) ≡ false
and_false true = refl
and_false false = refl

-- some chunks and more of them
all_more : (chunks more : List (Option (List Slot))) → list_all is_some chunks ≡ true → list_all is_some more ≡ true → list_all is_some (chunks ++ more) ≡ true
all_more chunks more all others = list_all-append is_some chunks more ∙ ap (λ (b : Bool). b && list_all is_some more) all ∙ others

not_all : (chunks more : List (Option (List Slot))) → list_all is_some more ≡ false → list_all is_some (chunks ++ more) ≡ false
not_all chunks more none = list_all-append is_some chunks more ∙ ap (λ (b : Bool). list_all is_some chunks && b) none ∙ and_false (list_all is_some chunks)

not_all_yet : (chunks more : List (Option (List Slot))) → list_all is_some chunks ≡ false → list_all is_some (chunks ++ more) ≡ false
not_all_yet chunks more none = list_all-append is_some chunks more ∙ ap (λ (b : Bool). b && list_all is_some more) none

slots_more : (chunks more : List (Option (List Slot))) → slots_in_chunks (chunks ++ more) ≡ slots_in_chunks chunks ++ slots_in_chunks more
slots_more chunks more = flat_map-append (λ (chunk : Option (List Slot)). unwrap_or chunk []) chunks more

-- a range in two parts
pub range_parts : {X : Type 0} (f : ℕ → X) (a n m : ℕ) → map f (range_with_len a (n + m)) ≡ map f (range_with_len a n) ++ map f (range_with_len (a + n) m)
range_parts f a zero m =
    let none : zero + m ≡ m = omega arith in
    let here : a ≡ a + zero = omega arith in
    ap (λ (t : ℕ). map f (range_with_len a t)) none ∙ ap (λ (t : ℕ). map f (range_with_len t m)) here
range_parts f a (suc n) m =
    let one : suc n + m ≡ suc (n + m) = omega arith in
    let behind : a + 1 + n ≡ a + suc n = omega arith in
    ap (λ (t : ℕ). map f (range_with_len a t)) one
    ∙ ap (λ l. f a ∷ l) (range_parts f (a + 1) n m)
    ∙ ap (λ (t : ℕ). f a ∷ (map f (range_with_len (a + 1) n) ++ map f (range_with_len t m))) behind

-- one range at another place
range_moved : {X : Type 0} (f g : ℕ → X) (a b n : ℕ) → ((j : ℕ) → j < n → f (a + j) ≡ g (b + j)) → map f (range_with_len a n) ≡ map g (range_with_len b n)
range_moved f g a b zero same = refl
range_moved f g a b (suc n) same =
    let at : a ≡ a + 0 = omega arith in
    let place : b + 0 ≡ b = omega arith in
    let first : f a ≡ g b = ap f at ∙ same 0 (omega arith) ∙ ap g place in
    let step : (x j : ℕ) → x + 1 + j ≡ x + suc j = λ x j. omega arith in
    let others = range_moved f g (a + 1) (b + 1) n (λ j below. ap f (step a j) ∙ same (suc j) (omega arith) ∙ ap g (sym (step b j))) in
    ap (λ x. x ∷ map f (range_with_len (a + 1) n)) first ∙ ap (λ l. g b ∷ l) others

-- the chunks of block k of a directory
of_block : (blocks : Blocks) (numbers : List ℕ) (k count : ℕ) → count ≤ 8 → 0 < slice_index numbers k
    → map (chunk_at blocks numbers) (range_with_len (8 * k) count) ≡ chunks_in (blocks (slice_index numbers k)) count
of_block blocks numbers k count few there =
    let bytes = blocks (slice_index numbers k) in
    let number_is : (slice_index numbers k == 0) ≡ false = ne_eqb _ _ (omega arith) in
    let here : block_numbered blocks (slice_index numbers k) ≡ bytes = ap (λ (b : Bool). if b then [] else bytes) number_is in
    range_moved (chunk_at blocks numbers) (λ (j : ℕ). chunk_of (take 512 (drop (512 * j) bytes))) (8 * k) 0 count (λ j below.
    let rest : (8 * k + j) % 8 ≡ 0 + j = omega arith in
    let whole : (8 * k + j) / 8 ≡ k = omega arith in
    ap (λ (t : ℕ). chunk_of (take 512 (drop (512 * t) (block_numbered blocks (slice_index numbers ((8 * k + j) / 8)))))) rest
    ∙ ap (λ (t : ℕ). chunk_of (take 512 (drop (512 * (0 + j)) (block_numbered blocks (slice_index numbers t))))) whole
    ∙ ap (λ (l : List ℕ). chunk_of (take 512 (drop (512 * (0 + j)) l))) here)

-- the first chunk of a block that is none
pub stopped_in_block : (bytes : List ℕ) (k count size : ℕ) → k < count → size ≡ 512 → chunk_of (take size (drop (512 * k) bytes)) ≡ None → list_all is_some (chunks_in bytes count) ≡ false
stopped_in_block bytes k count size inside size_is none =
    let f : ℕ → Option (List Slot) = λ j. chunk_of (take 512 (drop (512 * j) bytes)) in
    let both : k + 1 + (count - (k + 1)) ≡ count = omega arith in
    let chunk : f k ≡ None = ap (λ (n : ℕ). chunk_of (take n (drop (512 * k) bytes))) (sym size_is) ∙ none in
    let one : list_all is_some (f k ∷ []) ≡ false = ap (λ (o : Option (List Slot)). list_all is_some (o ∷ [])) chunk in
    ap (λ (n : ℕ). list_all is_some (chunks_in bytes n)) (sym both) ∙ ap (list_all is_some) (range_parts f 0 (k + 1) (count - (k + 1)))
    ∙ not_all_yet (chunks_in bytes (k + 1)) (map f (range_with_len (0 + (k + 1)) (count - (k + 1)))) (ap (list_all is_some) (chunk_here bytes k) ∙ not_all (chunks_in bytes k) (f k ∷ []) one)

-- one chunk more of a block
pub chunk_more : (bytes : List ℕ) (k size : ℕ) (slots : List Slot) → size ≡ 512 → chunk_of (take size (drop (512 * k) bytes)) ≡ Some slots
    → chunks_in bytes (k + 1) ≡ chunks_in bytes k ++ Some slots ∷ []
chunk_more bytes k size slots size_is is =
    chunk_here bytes k
    ∙ ap (λ (n : ℕ). chunks_in bytes k ++ chunk_of (take n (drop (512 * k) bytes)) ∷ []) (sym size_is)
    ∙ ap (λ (o : Option (List Slot)). chunks_in bytes k ++ o ∷ []) is

pub all_in_block : (bytes : List ℕ) (k : ℕ) (slots : List Slot) → chunks_in bytes (k + 1) ≡ chunks_in bytes k ++ Some slots ∷ [] → list_all is_some (chunks_in bytes k) ≡ true
    → list_all is_some (chunks_in bytes (k + 1)) ≡ true
all_in_block bytes k slots is all = ap (list_all is_some) is ∙ all_more (chunks_in bytes k) (Some slots ∷ []) all refl

pub slots_in_block : (bytes : List ℕ) (k : ℕ) (old before slots after : List Slot) → chunks_in bytes (k + 1) ≡ chunks_in bytes k ++ Some slots ∷ []
    → before ≡ old ++ slots_in_chunks (chunks_in bytes k) → after ≡ before ++ slots → after ≡ old ++ slots_in_chunks (chunks_in bytes (k + 1))
slots_in_block bytes k old before slots after is was now =
    let done = slots_in_chunks (chunks_in bytes k) in
    let new : slots_in_chunks (chunks_in bytes (k + 1)) ≡ done ++ slots =
    ap slots_in_chunks is ∙ slots_more (chunks_in bytes k) (Some slots ∷ []) ∙ ap (λ (l : List Slot). done ++ l) (append-nil slots) in
    now ∙ ap (λ (l : List Slot). l ++ slots) was ∙ append_assoc old done slots ∙ ap (λ (l : List Slot). old ++ l) (sym new)

-- by the test of a chunk
pub is_none_of : (chunk : Option (List Slot)) → is_some chunk ≡ false → chunk ≡ None
is_none_of None test = refl
is_none_of (Some slots) test = absurd (cc)

pub is_some_of : (chunk : Option (List Slot)) → is_some chunk ≡ true → chunk ≡ Some (unwrap_or chunk [])
is_some_of None test = absurd (cc)
is_some_of (Some slots) test = refl

-- where the blocks of a directory stand one after the other, their chunks are those of the directory
pub chunks_of_blocks : (blocks : Blocks) (numbers bytes : List ℕ) (n : ℕ)
    → ((k : ℕ) → 8 * k < n → (0 < slice_index numbers k) × (take 4096 (drop (4096 * k) bytes) ≡ blocks (slice_index numbers k)))
    → chunks_in bytes n ≡ map (chunk_at blocks numbers) (range_with_len 0 n)
chunks_of_blocks blocks numbers bytes n are =
    range_moved (λ (j : ℕ). chunk_of (take 512 (drop (512 * j) bytes))) (chunk_at blocks numbers) 0 0 n (λ j below.
    let k = j / 8 in
    let here = are k (omega arith) in
    let number = slice_index numbers k in
    let place : 512 * (0 + j) ≡ 4096 * k + 512 * (j % 8) = omega arith in
    let m = 4096 - 512 * (j % 8) in
    let size : 4096 ≡ 512 * (j % 8) + m = omega arith in
    let fits : 512 ≤ m = omega arith in
    let whole = drop (4096 * k) bytes in
    let same : 0 + j ≡ j = omega arith in
    let part : take 512 (drop (512 * (0 + j)) bytes) ≡ take 512 (drop (512 * (j % 8)) (blocks number)) =
    ap (λ (p : ℕ). take 512 (drop p bytes)) place ∙ ap (take 512) (sym (drop-drop (512 * (j % 8)) (4096 * k) bytes))
    ∙ sym (take-take 512 m (drop (512 * (j % 8)) whole) fits) ∙ ap (take 512) (sym (drop-take (512 * (j % 8)) m whole))
    ∙ ap (λ (t : ℕ). take 512 (drop (512 * (j % 8)) (take t whole))) (sym size) ∙ ap (λ (l : List ℕ). take 512 (drop (512 * (j % 8)) l)) here.1 in
    ap chunk_of part
    ∙ ap (λ (b : Bool). chunk_of (take 512 (drop (512 * (j % 8)) (if b then [] else blocks number)))) (sym (ne_eqb number 0 (omega (arith, here.0))))
    ∙ ap (chunk_at blocks numbers) (sym same))

-- one block more at the end of those that were read
pub block_appended : (content now : Option Image) (numbers bytes out more : List ℕ) (k : ℕ) → now ≡ content → length bytes ≡ 4096 * k → length out ≡ 4096
    → IfSome now (λ image. out ≡ block image (slice_index numbers k)) → more ≡ bytes ++ out
    → IfSome content (λ image. (j : ℕ) → j < k → take 4096 (drop (4096 * j) bytes) ≡ block image (slice_index numbers j))
    → IfSome content (λ image. (j : ℕ) → j < k + 1 → take 4096 (drop (4096 * j) more) ≡ block image (slice_index numbers j))
block_appended None now numbers bytes out more k same size long read is before = tt
block_appended (Some image) now numbers bytes out more k same size long read is before = λ j below.
    let bytes_are = subst (λ (o : Option Image). IfSome o (λ i. out ≡ block i (slice_index numbers k))) same read in
    ap (λ (l : List ℕ). take 4096 (drop (4096 * j) l)) is ∙ elim (cases_lt j k) [
      | inl old ↦
          ap (take 4096) (drop-append-le (4096 * j) bytes out (omega (arith, size, old)))
          ∙ take-append-le 4096 (drop (4096 * j) bytes) out (omega (arith, size, old, length-drop (4096 * j) bytes)) ∙ before j old
      | inr last ↦
          let at : j ≡ k = omega (arith, last, below) in
          let place : 4096 * j ≡ length bytes = omega (arith, at, size) in
          ap (λ (p : ℕ). take 4096 (drop p (bytes ++ out))) place ∙ ap (take 4096) (drop-append_seam bytes out) ∙ take_all 4096 out (omega (arith, long))
          ∙ bytes_are ∙ ap (λ (n : ℕ). block image (slice_index numbers n)) (sym at)
    ]

-- all that were to be read
pub blocks_stand : (content : Option Image) (numbers bytes : List ℕ) (k n : ℕ) → n ≤ k
    → IfSome content (λ image. (j : ℕ) → j < k → take 4096 (drop (4096 * j) bytes) ≡ block image (slice_index numbers j))
    → IfSome content (λ image. (j : ℕ) → j < n → take 4096 (drop (4096 * j) bytes) ≡ block image (slice_index numbers j))
blocks_stand None numbers bytes k n all are = tt
blocks_stand (Some image) numbers bytes k n all are = λ j below. are j (omega (arith, all, below))
