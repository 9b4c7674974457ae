-- The first chunk of a directory that passes a test, found one after the other.
use Rattle.std.proofs.Common.{◌≡◌, ◌<◌, ◌≤◌, inl, inr, ℕ, ◌+◌, ◌/◌, Bool, true, false, List, [], slice_index, unwrap_or, Option, Some, None, IfSome, sym, ap, subst, ◌∙◌, arith}
use Rattle.std.proofs.lemmas.Bool.{cases_eq}
use Rattle.volume_model.specs.declared.directory.Slot.{Slot}
use Rattle.volume_model.specs.Format.{Image, block}
use Rattle.volume_model.specs.Sound.{chunk_at}
use Rattle.dir_reads.specs.Chunks.{slots_of_chunk}
use Rattle.dir_reads.specs.Directories.{IsFirstAt, IsFirst}
use Rattle.dir_reads.specs.declared.directory.Found.{Found}

-- none of the chunks before this one passes the test
abbrev pub NoneBefore : (test : List Slot → Bool) → Option Image → (numbers : List ℕ) → (n : ℕ) → Type 0
NoneBefore test content numbers n = IfSome content (λ image. (k : ℕ) → k < n → test (slots_of_chunk (block image) numbers k) ≡ false)

pub none_begun : (test : List Slot → Bool) (content : Option Image) (numbers : List ℕ) → NoneBefore test content numbers 0
none_begun test None numbers = tt
none_begun test (Some image) numbers = λ k below. absurd (omega (arith, below))

-- one chunk more
pub none_on : (test : List Slot → Bool) (content now : Option Image) (numbers : List ℕ) (n : ℕ) (chunk : Option (List Slot)) → now ≡ content
    → IfSome now (λ image. chunk ≡ chunk_at (block image) numbers n) → test (unwrap_or chunk []) ≡ false → NoneBefore test content numbers n → NoneBefore test content numbers (n + 1)
none_on test None now numbers n chunk same told fails before = tt
none_on test (Some image) now numbers n chunk same told fails before = λ k below.
    let here : chunk ≡ chunk_at (block image) numbers n = subst (λ (o : Option Image). IfSome o (λ image. chunk ≡ chunk_at (block image) numbers n)) same told in
    elim (cases_eq k n) [
      | inl last ↦ ap (λ (j : ℕ). test (slots_of_chunk (block image) numbers j)) last ∙ ap (λ (o : Option (List Slot)). test (unwrap_or o [])) (sym here) ∙ fails
      | inr other ↦ before k (omega (arith, below, other))
    ]

-- the one that passes
pub first_found : (test : List Slot → Bool) (content now : Option Image) (numbers : List ℕ) (chunk : Option (List Slot)) (found : Found) → now ≡ content
    → IfSome now (λ image. chunk ≡ chunk_at (block image) numbers found.place) → chunk ≡ Some found.chunk → NoneBefore test content numbers found.place
    → IfSome content (λ image. IsFirstAt test (block image) numbers found)
first_found test None now numbers chunk found same told is before = tt
first_found test (Some image) now numbers chunk found same told is before =
    let here : chunk ≡ chunk_at (block image) numbers found.place = subst (λ (o : Option Image). IfSome o (λ image. chunk ≡ chunk_at (block image) numbers found.place)) same told in
    record { chunk = sym is ∙ here; before = before }
