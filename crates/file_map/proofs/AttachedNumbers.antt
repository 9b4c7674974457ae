-- The numbers of a file where it has a hole, and its pointer block.
use Rattle.std.proofs.Common.{◌≡◌, ◌≢◌, inl, inr, ℕ, ◌/◌, eqb, Bool, true, false, not, cond, if◌then◌else◌, List, [], ◌∷◌, length, map, take, drop, slice_index, Option, Some, None, refl, sym, ap, ◌∙◌}
use Rattle.std.specs.Option.{option_map}
use Rattle.std.proofs.lemmas.Bool.{cases_Bool, eqb-true, true≢false}
use Rattle.lufs_base.specs.Fields.{are_zeros}
use Rattle.lufs_base.specs.Layout.{block_size}
use Rattle.lufs_base.specs.declared.delta.Delta.{Delta}
use Rattle.volume_model.specs.declared.inode.Dinode.{Dinode}
use Rattle.volume_model.specs.Format.{Image, Blocks, block}
use Rattle.volume_model.specs.Crash.{image_after}
use Rattle.volume_model.specs.Sound.{UsedInode, NamedPointer, PointerName, Single, used_inode, size_in_blocks, FileNode}
use Rattle.change_laws.proofs.FileNodes.{file_read}
use Rattle.history_model.specs.FileBytes.{block_at}
use Rattle.meta_store.specs.declared.change.Change.{Change}
use Rattle.meta_store.specs.Laid.{laid_block}
use Rattle.meta_store.specs.Changes.{writes_of, deltas_on}
use Rattle.meta_store.specs.Merged.{merged}
use Rattle.meta_store.proofs.LaidBlocks.{block_laid_over}
use Rattle.meta_draft.specs.Drafted.{drafted_blocks, with_delta}
use Rattle.draft_laws.proofs.MergedElsewhere.{merged_elsewhere}
use Rattle.file_map.specs.Mapped.{numbered}
use Rattle.file_map.proofs.FileBlocks.{bytes_by_number}
use Rattle.file_map.proofs.NeededBlocks.{no_pointers}

none_numbered : (f : ℕ → List ℕ) (n : ℕ) → option_map f (numbered n) ≡ None → n ≡ 0
none_numbered f n none = elim (cases_Bool (eqb n 0)) [
  | inl zero ↦ eqb-true n 0 zero
  | inr some ↦
      let both : ◌≡◌ {A = Option (List ℕ)} (Some (f n)) None = sym (ap (λ (t : Bool). option_map f (if t then None else Some n)) some) ∙ none in
      absurd (cc)
]

-- where a file has a hole the number is 0
pub hole_number : (blocks : Blocks) (u : UsedInode) (index : ℕ) (file : FileNode) → are_zeros (drop (size_in_blocks u.inode.size) u.numbers) ≡ true → file ≡ file_read blocks u → block_at file index ≡ None → slice_index u.numbers index ≡ 0
hole_number blocks u index file past same hole =
    none_numbered (λ b. take block_size (blocks b)) (slice_index u.numbers index)
    (sym (bytes_by_number blocks u index past) ∙ sym (ap (λ (f : FileNode). block_at f index) same) ∙ hole)

pub one_named : (none : Bool) (p : NamedPointer) → p.name ≡ Single → eqb (length (map (λ p. p.name) (cond (not none) (p ∷ []) []))) 0 ≡ false
    → map (λ p. p.name) (cond (not none) (p ∷ []) []) ≡ Single ∷ []
one_named true p single some = absurd (true≢false some)
one_named false p single some = ap (λ (n : PointerName). n ∷ []) single

-- a file has one pointer block, or none
module _ (blocks : Blocks) (d : Dinode) (file : FileNode) (same : file ≡ file_read blocks (used_inode blocks d)) where
  pub pointers_by_number : eqb (length file.pointers) 0 ≡ eqb (slice_index d.indirect 0) 0
  pointers_by_number = ap (λ (f : FileNode). eqb (length f.pointers) 0) same ∙ no_pointers blocks d

  pub one_pointer : eqb (length file.pointers) 0 ≡ false → file.pointers ≡ Single ∷ []
  one_pointer some =
      let named = one_named (eqb (slice_index d.indirect 0) 0) (record { name = Single; block = slice_index d.indirect 0 }) refl
      (sym (ap (λ (f : FileNode). eqb (length f.pointers) 0) same) ∙ some) in
      ap (λ (f : FileNode). f.pointers) same ∙ named

  pub some_number : file.pointers ≡ Single ∷ [] → eqb (slice_index d.indirect 0) 0 ≡ false
  some_number its = sym pointers_by_number ∙ ap (λ (l : List PointerName). eqb (length l) 0) its

  pub no_number : file.pointers ≡ [] → slice_index d.indirect 0 ≡ 0
  no_number none = eqb-true (slice_index d.indirect 0) 0 (sym pointers_by_number ∙ ap (λ (l : List PointerName). eqb (length l) 0) none)

-- one more delta leaves the other blocks
pub drafted_elsewhere : (change : Change) (d : Delta) (base : Image) (b : ℕ) → b ≢ d.home / 4096 → drafted_blocks (with_delta change d) base b ≡ drafted_blocks change base b
drafted_elsewhere change d base b away =
    let written = image_after base (writes_of change.raw) in
    sym (block_laid_over (deltas_on (merged change.deltas d)) written b)
    ∙ ap (λ (l : List Delta). laid_block l (block written b)) (merged_elsewhere change.deltas d b (λ same. away (sym same)))
    ∙ block_laid_over (deltas_on change.deltas) written b
