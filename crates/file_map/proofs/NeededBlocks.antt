-- The blocks that a file lacks, by what was read of it.
use Rattle.std.proofs.Common.{◌≡◌, ◌<◌, ◌≤◌, inl, inr, ℕ, ◌+◌, ◌-◌, ◌/◌, eqb, Bool, true, false, not, ◌&&◌, cond, if◌then◌else◌, List, [], ◌∷◌, length, map, slice_index, Option, Some, None, Result, Ok, Err, IfSome, IfOk, refl, sym, ap, subst, ◌∙◌, arith}
use Rattle.std.specs.Prelude.{nat_lt}
use Rattle.std.specs.List.{filter, range_with_len}
use Rattle.std.specs.Option.{option_map}
use Rattle.std.proofs.lemmas.Bool.{cases_Bool}
use Rattle.lufs_base.specs.Layout.{blocks_of}
use Rattle.lufs_base.specs.declared.geometry.Geometry.{Geometry}
use Rattle.volume_model.specs.declared.inode.Dinode.{Dinode}
use Rattle.volume_model.specs.Format.{Blocks, Image, block, is_file}
use Rattle.volume_model.specs.Sound.{UsedInode, NamedPointer, Single, used_inode, reading_of, used_at, size_in_blocks, numbers_of, pointer_names, has_right_numbers, has_bad_numbers, FileNode, tree_of}
use Rattle.volume_laws.proofs.FieldFacts.{fields_of_numbers}
use Rattle.history_model.specs.Places.{file_in}
use Rattle.history_model.specs.FileBytes.{direct_size, missing_indexes, misses_pointers}
use Rattle.meta_store.specs.declared.error.StoreError.{StoreError}
use Rattle.block_numbers.proofs.RightNumbers.{pointer_inside}
use Rattle.file_map.specs.Needed.{IsNeeded, file_of_inode}
use Rattle.file_map.specs.declared.block_needs.Needed.{Needed}
use Rattle.file_map.proofs.FoundInodes.{numbers_right}
use Rattle.file_map.proofs.FilesInTree.{by_file}
use Rattle.file_map.proofs.MissingBlocks.{missing_by_numbers, same_on}

one_name : (none : Bool) (p : NamedPointer) → eqb (length (map (λ p. p.name) (cond (not none) (p ∷ []) []))) 0 ≡ none
one_name true p = refl
one_name false p = refl

-- an inode has no pointer block where its number is 0
pub no_pointers : (blocks : Blocks) (d : Dinode) → eqb (length (pointer_names (used_inode blocks d))) 0 ≡ eqb (slice_index d.indirect 0) 0
no_pointers blocks d = one_name (eqb (slice_index d.indirect 0) 0) (record { name = Single; block = slice_index d.indirect 0 })

-- the blocks that a file lacks are told by the numbers that were read
pub needed_told : (content : Option Image) (g : Geometry) (d : Dinode) (offset end past : ℕ) (numbers : List ℕ) (needed : Needed) → 0 < blocks_of g → offset ≤ end → past ≡ (end + 4095) / 4096
    → IfSome content (λ image. slice_index d.indirect 0 < blocks_of g → (k : ℕ) → k < past → slice_index numbers k ≡ slice_index (numbers_of (block image) d) k)
    → needed.indexes ≡ filter (λ k. eqb (slice_index numbers k) 0) (range_with_len (offset / 4096) (past - offset / 4096))
    → needed.pointers ≡ (if nat_lt direct_size end && eqb (slice_index d.indirect 0) 0 then 1 else 0)
    → IfSome content (λ image. (i : ℕ) → is_file d.mode ≡ true → has_right_numbers g i (used_inode (block image) d) ≡ true
    → IsNeeded (block image) (used_inode (block image) d) offset (end - offset) needed)
needed_told None g d offset end past numbers needed some order is read indexes pointers = tt
needed_told (Some image) g d offset end past numbers needed some order is read indexes pointers = λ i file right.
    let blocks = block image in
    let u = used_inode blocks d in
    let same = read (pointer_inside g i blocks d right some) in
    let whole : end ≡ offset + (end - offset) = omega (arith, order) in
    let last : past ≡ size_in_blocks (offset + (end - offset)) = omega (arith, is, order) in
    let first = offset / 4096 in
    record {
      indexes =
          indexes
          ∙ same_on (λ k. eqb (slice_index numbers k) 0) (λ k. eqb (slice_index u.numbers k) 0) first (past - first)
          (λ k low high. ap (λ (n : ℕ). eqb n 0) (same k (omega (arith, high, low))))
          ∙ ap (λ (n : ℕ). filter (λ k. eqb (slice_index u.numbers k) 0) (range_with_len first (n - first))) last
          ∙ sym (missing_by_numbers blocks u offset (end - offset) (fields_of_numbers g i u right).none_past);
      pointers =
          pointers ∙ ap (λ (n : ℕ). if nat_lt direct_size n && eqb (slice_index d.indirect 0) 0 then 1 else 0) whole
          ∙ ap (λ (b : Bool). if nat_lt direct_size (offset + (end - offset)) && b then 1 else 0) (sym (no_pointers blocks d));
    }

ok_of : {T : Type 0} (result : Result T StoreError) (P Q : T → Type 0) → ((x : T) → P x → Q x) → IfOk result P → IfOk result Q
ok_of (Ok x) P Q gives here = gives x here
ok_of (Err e) P Q gives here = tt

same_inode : (u v : UsedInode) → ◌≡◌ {A = Option UsedInode} (Some u) (Some v) → u ≡ v
same_inode u v is = cc

-- what is answered of an inode in use that is a file
pub file_told : (content now : Option Image) (g h : Geometry) (i offset count end : ℕ) (found : Option Dinode) (d : Dinode) (result : Result Needed StoreError) (P : FileNode → Needed → Type 0)
    → found ≡ Some d → h ≡ g → now ≡ content → end ≡ offset + count
    → ((blocks : Blocks) (u : UsedInode) (needed : Needed) → IsNeeded blocks u offset count needed → P (file_of_inode blocks u) needed)
    → IfSome content (λ image. option_map (used_inode (block image)) found ≡ used_at (reading_of g (block image)) i)
    → IfSome now (λ image. IfOk result (λ needed. (j : ℕ) → is_file d.mode ≡ true → has_right_numbers h j (used_inode (block image) d) ≡ true
    → IsNeeded (block image) (used_inode (block image) d) offset (end - offset) needed))
    → IfSome content (λ image. has_bad_numbers g (reading_of g (block image)) i ≡ false → IfSome (file_in (tree_of g (block image)) i) (λ file. IfOk result (P file)))
file_told None now g h i offset count end found d result P is geometry same whole gives used read = tt
file_told (Some image) now g h i offset count end found d result P is geometry same whole gives used read = λ right.
    let blocks = block image in
    let u = used_inode blocks d in
    let there : used_at (reading_of g blocks) i ≡ Some u = sym used ∙ ap (option_map (used_inode blocks)) is in
    let numbers_ok : has_right_numbers h i u ≡ true = ap (λ (k : Geometry). has_right_numbers k i u) geometry ∙ numbers_right g blocks i u there right in
    let here = subst (λ (o : Option Image). IfSome o (λ image. IfOk result (λ needed. (j : ℕ) → is_file d.mode ≡ true → has_right_numbers h j (used_inode (block image) d) ≡ true
    → IsNeeded (block image) (used_inode (block image) d) offset (end - offset) needed))) same read in
    let size : end - offset ≡ count = omega (arith, whole) in
    by_file g blocks i (λ file. IfOk result (P file)) (λ v used_too file.
    let one : u ≡ v = same_inode u v (sym there ∙ used_too) in
    let mode : is_file d.mode ≡ true = ap (λ (w : UsedInode). is_file w.inode.mode) one ∙ file in
    subst (λ (w : UsedInode). IfOk result (P (file_of_inode blocks w))) one
    (ok_of result (λ needed. (j : ℕ) → is_file d.mode ≡ true → has_right_numbers h j u ≡ true → IsNeeded blocks u offset (end - offset) needed) (P (file_of_inode blocks u))
    (λ needed is_needed. gives blocks u needed (subst (λ (n : ℕ). IsNeeded blocks u offset n needed) size (is_needed i mode numbers_ok))) here))

-- what isn't in use is no file
pub none_told : {T : Type 0} (content : Option Image) (g : Geometry) (i : ℕ) (found : Option Dinode) (result : Result T StoreError) (P : FileNode → T → Type 0) → found ≡ None
    → IfSome content (λ image. option_map (used_inode (block image)) found ≡ used_at (reading_of g (block image)) i)
    → IfSome content (λ image. has_bad_numbers g (reading_of g (block image)) i ≡ false → IfSome (file_in (tree_of g (block image)) i) (λ file. IfOk result (P file)))
none_told None g i found result P none read = tt
none_told (Some image) g i found result P none read = λ right.
    let blocks = block image in
    let unused : ◌≡◌ {A = Option UsedInode} None (used_at (reading_of g blocks) i) = sym (ap (option_map (used_inode blocks)) none) ∙ read in
    by_file g blocks i (λ file. IfOk result (P file)) (λ u used file.
    let both : ◌≡◌ {A = Option UsedInode} None (Some u) = unused ∙ used in
    absurd (cc))
