-- What is told of the chunks of a directory while they are read, one after the other.
use Rattle.std.proofs.Common.{◌≡◌, ◌<◌, ◌≤◌, ℕ, zero, suc, ◌+◌, ◌-◌, ◌*◌, ◌/◌, ◌%◌, eqb, Bool, false, if◌then◌else◌, List, [], ◌∷◌, take, drop, map, slice_index, unwrap_or, Option, Some, None, IfSome, refl, sym, ap, ◌∙◌, arith}
use Rattle.std.specs.List.{range_with_len}
use Rattle.std.proofs.lemmas.Bool.{ne_eqb}
use Rattle.volume_model.specs.declared.directory.Slot.{Slot}
use Rattle.volume_model.specs.Format.{Blocks, Image, block, chunk_of}
use Rattle.volume_model.specs.Sound.{chunk_at, block_numbered}
use Rattle.dir_reads.specs.Chunks.{slots_of_chunk, chunks_from, AreOfBlock}

-- no chunk stands in a block that isn't there
pub none_told : (content : Option Image) (numbers : List ℕ) (k number : ℕ) → number ≡ slice_index numbers (k / 8) → number ≡ 0
    → IfSome content (λ image. None ≡ chunk_at (block image) numbers k)
none_told None numbers k number is none = tt
none_told (Some image) numbers k number is none =
    let zero_is : slice_index numbers (k / 8) ≡ 0 = sym is ∙ none in
    sym (ap (λ (n : ℕ). chunk_of (take 512 (drop (512 * (k % 8)) (block_numbered (block image) n)))) zero_is ∙ nowhere (512 * (k % 8)))
  where
    nowhere : (n : ℕ) → chunk_of (take 512 (drop n [])) ≡ None
    nowhere zero = refl
    nowhere (suc n) = refl

-- what was read of the block of a chunk
pub chunk_told : (content : Option Image) (numbers : List ℕ) (k number size : ℕ) (bytes : List ℕ) (shown : Option ℕ) (found : Option (List Slot)) → number ≡ slice_index numbers (k / 8)
    → (number ≡ 0 → ⊥) → shown ≡ Some number → AreOfBlock content shown bytes → size ≡ 512
    → chunk_of (take size (drop (512 * (k % 8)) bytes)) ≡ found → IfSome content (λ image. found ≡ chunk_at (block image) numbers k)
chunk_told None numbers k number size bytes shown found is some at held long read = tt
chunk_told (Some image) numbers k number size bytes shown found is some at held long read =
    let here : bytes ≡ block image number = rw at at held in
    let number_is : eqb number 0 ≡ false = ne_eqb number 0 some in
    let numbered : block_numbered (block image) number ≡ block image number = ap (λ (b : Bool). if b then [] else block image number) number_is in
    sym read ∙ ap (λ (n : ℕ). chunk_of (take n (drop (512 * (k % 8)) bytes))) long
    ∙ ap (λ (xs : List ℕ). chunk_of (take 512 (drop (512 * (k % 8)) xs))) (here ∙ sym numbered)
    ∙ ap (λ (n : ℕ). chunk_of (take 512 (drop (512 * (k % 8)) (block_numbered (block image) n)))) is

-- the chunks from one on begin with it
pub from_here : (blocks : Blocks) (numbers : List ℕ) (k n : ℕ) → k < n → chunks_from blocks numbers k (n - k) ≡ slots_of_chunk blocks numbers k ∷ chunks_from blocks numbers (k + 1) (n - (k + 1))
from_here blocks numbers k n below =
    let more : n - k ≡ suc (n - (k + 1)) = omega (arith, below) in
    ap (λ (m : ℕ). map (slots_of_chunk blocks numbers) (range_with_len k m)) more

-- what F says of all chunks it says of those from one on
abbrev pub SaysFrom : {X : Type 0} → (List (List Slot) → X) → Option Image → (numbers : List ℕ) → (n k : ℕ) → Type 0
SaysFrom F content numbers n k = IfSome content (λ image. F (chunks_from (block image) numbers 0 n) ≡ F (chunks_from (block image) numbers k (n - k)))

pub says_begun : {X : Type 0} (F : List (List Slot) → X) (content : Option Image) (numbers : List ℕ) (n : ℕ) → SaysFrom F content numbers n 0
says_begun F None numbers n = tt
says_begun F (Some image) numbers n =
    let same : n ≡ n - 0 = omega arith in
    ap (λ (t : ℕ). F (chunks_from (block image) numbers 0 t)) same

-- a chunk that changes nothing
pub says_on : {X : Type 0} (F : List (List Slot) → X) (content now : Option Image) (numbers : List ℕ) (n k : ℕ) (chunk : Option (List Slot)) → now ≡ content → k < n
    → IfSome now (λ image. chunk ≡ chunk_at (block image) numbers k) → ((rest : List (List Slot)) → F (unwrap_or chunk [] ∷ rest) ≡ F rest)
    → SaysFrom F content numbers n k → SaysFrom F content numbers n (k + 1)
says_on F None now numbers n k chunk same below told more says = tt
says_on F (Some image) now numbers n k chunk same below told more says =
    let here : chunk ≡ chunk_at (block image) numbers k = rw same at told in
    let rest = chunks_from (block image) numbers (k + 1) (n - (k + 1)) in
    says ∙ ap F (from_here (block image) numbers k n below) ∙ ap (λ (o : Option (List Slot)). F (unwrap_or o [] ∷ rest)) (sym here) ∙ more rest

-- a chunk that settles it
pub says_there : {X : Type 0} (F : List (List Slot) → X) (content now : Option Image) (numbers : List ℕ) (n k : ℕ) (chunk : Option (List Slot)) (answer : X) → now ≡ content → k < n
    → IfSome now (λ image. chunk ≡ chunk_at (block image) numbers k) → ((rest : List (List Slot)) → F (unwrap_or chunk [] ∷ rest) ≡ answer)
    → SaysFrom F content numbers n k → IfSome content (λ image. answer ≡ F (chunks_from (block image) numbers 0 n))
says_there F None now numbers n k chunk answer same below told more says = tt
says_there F (Some image) now numbers n k chunk answer same below told more says =
    let here : chunk ≡ chunk_at (block image) numbers k = rw same at told in
    let rest = chunks_from (block image) numbers (k + 1) (n - (k + 1)) in
    sym (says ∙ ap F (from_here (block image) numbers k n below) ∙ ap (λ (o : Option (List Slot)). F (unwrap_or o [] ∷ rest)) (sym here) ∙ more rest)

-- no chunk is left
pub says_last : {X : Type 0} (F : List (List Slot) → X) (content : Option Image) (numbers : List ℕ) (n k : ℕ) (answer : X) → n ≤ k → F [] ≡ answer
    → SaysFrom F content numbers n k → IfSome content (λ image. answer ≡ F (chunks_from (block image) numbers 0 n))
says_last F None numbers n k answer past is says = tt
says_last F (Some image) numbers n k answer past is says =
    let none : n - k ≡ 0 = omega (arith, past) in
    sym (says ∙ ap (λ (m : ℕ). F (chunks_from (block image) numbers k m)) none ∙ is)
