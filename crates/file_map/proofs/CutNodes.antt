-- The blocks and the pointer block of a file with another size.
use Rattle.std.proofs.Common.{◌≡◌, ◌<◌, ◌≤◌, inl, inr, ℕ, ◌+◌, ◌-◌, ◌*◌, eqb, Bool, true, false, ◌||◌, if◌then◌else◌, List, [], ◌∷◌, ◌++◌, length, take, replicate, get_or, slice_index, Option, Some, None, refl, sym, ap, ◌∙◌, arith}
use Rattle.std.specs.Prelude.{nat_le, nat_lt}
use Rattle.std.proofs.lemmas.Bool.{cases_lt, cases_Bool, le-leb, lt-leb, le-ltb, and_parts, or_cases, ltb-true, true≢false, eqb-true}
use Rattle.std.proofs.lemmas.List.{ext_get_or, length-append, length-replicate, take-append-le, get_or_append_left, get_or-append_right, get_or-replicate, get_or_past}
use Rattle.std.proofs.lemmas.List.FromFn.{length-map-range_with_len}
use Rattle.lufs_base.specs.declared.geometry.Geometry.{Geometry}
use Rattle.volume_model.specs.declared.inode.Dinode.{Dinode}
use Rattle.volume_model.specs.Format.{Blocks}
use Rattle.volume_model.specs.Sound.{Single, PointerName, Attributes, UsedInode, used_inode, size_in_blocks, FileNode, file_block, file_blocks}
use Rattle.volume_laws.proofs.FieldFacts.{HasRightFields}
use Rattle.change_laws.proofs.FileNodes.{file_read}
use Rattle.history_model.specs.FileBytes.{at_length, direct_size}
use Rattle.file_map.specs.Cut.{with_size}
use Rattle.file_map.proofs.FileBlocks.{length-at_length, get_or-at_length, no_more}
use Rattle.file_map.proofs.AttachedNumbers.{pointers_by_number}
use Rattle.file_map.proofs.AttachedBoth.{no_names}

-- a file has a block or a hole at each index below its size
pub count_of_file : (blocks : Blocks) (u : UsedInode) (file : FileNode) → file ≡ file_read blocks u → length file.blocks ≡ size_in_blocks u.inode.size
count_of_file blocks u file same =
    ap (λ (f : FileNode). length f.blocks) same ∙ length-map-range_with_len (λ index. file_block blocks (slice_index u.numbers index)) 0 (size_in_blocks u.inode.size)

-- more blocks than there are
pub with_holes : (n : ℕ) (xs : List (Option (List ℕ))) → length xs ≤ n → xs ++ replicate (n - length xs) None ≡ at_length n xs
with_holes n xs less =
    let holes : List (Option (List ℕ)) = replicate (n - length xs) None in
    let long : length (xs ++ holes) ≡ n = omega (arith, length-append xs holes, length-replicate {A = Option (List ℕ)} (n - length xs) None, less) in
    ext_get_or None (xs ++ holes) (at_length n xs) (long ∙ sym (length-at_length n xs)) (λ k below.
    let inside : k < n = omega (arith, below, long) in
    elim (cases_lt k (length xs)) [
      | inl within ↦ get_or_append_left xs holes None k within
      | inr past ↦ get_or-append_right xs holes (length xs) k None refl past ∙ no_more (n - length xs) (k - length xs) ∙ sym (get_or_past xs k None past)
    ]
    ∙ sym (get_or-at_length n xs k inside))

-- and fewer
pub first_blocks : (n : ℕ) (xs : List (Option (List ℕ))) → n ≤ length xs → take n xs ≡ at_length n xs
first_blocks n xs less = sym (take-append-le n xs (replicate n None) less)

none_of_one : (t none : Bool) → (none || t) ≡ true → t ≡ false → none ≡ true
none_of_one t none either other = elim (or_cases none t either) [
  | inl is ↦ is
  | inr is ↦ absurd (true≢false (sym is ∙ other))
]

-- a file for which the direct blocks are enough has no pointer block
pub no_pointers_needed : (g : Geometry) (blocks : Blocks) (i : ℕ) (d : Dinode) (file : FileNode) → HasRightFields g i (used_inode blocks d) → file ≡ file_read blocks (used_inode blocks d)
    → size_in_blocks d.size ≤ 12 → file.pointers ≡ []
no_pointers_needed g blocks i d file fields same few =
    let none = eqb (slice_index d.indirect 0) 0 in
    let its = (and_parts (none || nat_lt 12 (size_in_blocks d.size)) true fields.pointers_needed).0 in
    no_names file.pointers (pointers_by_number blocks d file same ∙ none_of_one (nat_lt 12 (size_in_blocks d.size)) none its (le-ltb 12 (size_in_blocks d.size) few))

-- the pointer block of a file with another size, by the number of its blocks
pub pointers_low : (size : ℕ) (pointers : List PointerName) → size_in_blocks size ≤ 12 → (if nat_le size direct_size then [] else pointers) ≡ []
pointers_low size pointers low = ap (λ (t : Bool). if t then [] else pointers) (le-leb size direct_size (omega (arith, low)))

pub pointers_high : (size : ℕ) (pointers : List PointerName) → 12 < size_in_blocks size → (if nat_le size direct_size then [] else pointers) ≡ pointers
pointers_high size pointers high = ap (λ (t : Bool). if t then [] else pointers) (lt-leb size direct_size (omega (arith, high)))

-- a file that has its parts has another size
pub sized_as : (file : FileNode) (size : ℕ) (a : Attributes) (blocks : List (Option (List ℕ))) (pointers : List PointerName) → a ≡ file.attributes → blocks ≡ at_length (size_in_blocks size) file.blocks
    → (if nat_le size direct_size then [] else file.pointers) ≡ pointers → record { attributes = a; size = size; blocks = blocks; pointers = pointers } ≡ with_size file size
sized_as file size a blocks pointers attributes is its t = record { attributes = attributes t; size = size; blocks = is t; pointers = sym its t }
