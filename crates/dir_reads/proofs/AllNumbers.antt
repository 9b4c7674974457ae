-- All numbers of an inode are known by those below a count that is past them.
use Rattle.std.proofs.Common.{◌≡◌, ◌<◌, ◌≤◌, inl, inr, ℕ, ◌+◌, ◌*◌, eqb, Bool, true, false, if◌then◌else◌, List, ◌++◌, length, replicate, slice_index, Option, Some, None, IfSome, sym, ap, ◌∙◌, arith, length-append, append-nil}
use Rattle.std.proofs.lemmas.Bool.{cases_Bool, cases_lt}
use Rattle.std.proofs.lemmas.List.{get_or_past, length-replicate}
use Rattle.std.proofs.lemmas.List.FromFn.{length-map-range_with_len}
use Rattle.lufs_base.specs.Fields.{u32_at}
use Rattle.volume_model.specs.declared.inode.Dinode.{Dinode}
use Rattle.volume_model.specs.Format.{Blocks, Image, block, pointers_of}
use Rattle.volume_model.specs.Sound.{pointers_at, numbers_of}

of_pointers : (l : List ℕ) → length (pointers_of l) ≡ 1024
of_pointers l = length-map-range_with_len (λ k. u32_at l (4 * k)) 0 1024

at_pointer : (blocks : Blocks) (p : ℕ) → length (pointers_at blocks p) ≡ 1024
at_pointer blocks p = elim (cases_Bool (eqb p 0)) [
  | inl none ↦ ap (λ (b : Bool). length (if b then replicate 1024 0 else pointers_of (blocks p))) none ∙ length-replicate {A = ℕ} 1024 0
  | inr some ↦ ap (λ (b : Bool). length (if b then replicate 1024 0 else pointers_of (blocks p))) some ∙ of_pointers (blocks p)
]

-- how many there are
how_many : (blocks : Blocks) (d : Dinode) → length (numbers_of blocks d) ≡ length d.direct + 1024
how_many blocks d =
    let p = slice_index d.indirect 0 in
    ap (λ (xs : List ℕ). length (d.direct ++ xs)) (append-nil (pointers_at blocks p))
    ∙ length-append d.direct (pointers_at blocks p) ∙ ap (λ (n : ℕ). length d.direct + n) (at_pointer blocks p)

-- so many are all
pub all_numbers : (content : Option Image) (d : Dinode) (total count : ℕ) (numbers : List ℕ) → length numbers ≤ count → length d.direct + 1024 ≤ count
    → IfSome content (λ image. slice_index d.indirect 0 < total → (k : ℕ) → k < count → slice_index numbers k ≡ slice_index (numbers_of (block image) d) k)
    → IfSome content (λ image. slice_index d.indirect 0 < total → (k : ℕ) → slice_index numbers k ≡ slice_index (numbers_of (block image) d) k)
all_numbers None d total count numbers few some read = tt
all_numbers (Some image) d total count numbers few some read = λ below k. elim (cases_lt k count) [
  | inl within ↦ read below k within
  | inr past ↦
      get_or_past numbers k 0 (omega (arith, few, past)) ∙ sym (get_or_past (numbers_of (block image) d) k 0 (omega (arith, some, past, how_many (block image) d)))
]
