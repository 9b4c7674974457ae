-- The files of a tree, by the inodes that they are read from.
use Rattle.std.proofs.Common.{◌≡◌, inl, inr, ℕ, Bool, true, false, Option, Some, None, Result, Ok, Err, IfSome, IfOk, refl, sym, ap, subst, ◌∙◌}
use Rattle.std.specs.Prelude.{take, slice_index}
use Rattle.std.specs.Option.{option_map, option_map_or, option_and_then}
use Rattle.std.proofs.lemmas.Bool.{cases_Bool}
use Rattle.lufs_base.specs.Layout.{block_size}
use Rattle.lufs_base.specs.declared.geometry.Geometry.{Geometry}
use Rattle.volume_model.specs.declared.inode.Dinode.{Dinode}
use Rattle.volume_model.specs.Format.{Blocks, is_file, is_directory}
use Rattle.volume_model.specs.Sound.{UsedInode, used_inode, reading_of, used_at, has_bad_numbers, FileNode, Node, node_of, tree_of}
use Rattle.volume_laws.proofs.NodeFacts.{node_of_file, node_of_directory, node_of_other}
use Rattle.volume_laws.proofs.FieldFacts.{fields_of_numbers}
use Rattle.history_model.specs.Places.{file_of, file_in}
use Rattle.history_model.specs.FileBytes.{block_at}
use Rattle.file_map.specs.Mapped.{numbered, block_mapped}
use Rattle.file_map.specs.Needed.{file_of_inode}
use Rattle.file_map.proofs.FoundInodes.{numbers_right}
use Rattle.file_map.proofs.FileBlocks.{bytes_by_number}

of_used : (blocks : Blocks) (o : Option UsedInode) (P : FileNode → Type 0) → ((u : UsedInode) → o ≡ Some u → is_file u.inode.mode ≡ true → P (file_of_inode blocks u))
    → IfSome (option_map_or file_of (option_map (node_of blocks) o) None) P
of_used blocks None P each = tt
of_used blocks (Some u) P each = elim (cases_Bool (is_file u.inode.mode)) [
  | inl file ↦ subst (λ (n : Node). IfSome (file_of n) P) (sym (node_of_file blocks u file)) (each u refl file)
  | inr other ↦ elim (cases_Bool (is_directory u.inode.mode)) [
    | inl directory ↦ subst (λ (n : Node). IfSome (file_of n) P) (sym (node_of_directory blocks u directory)) tt
    | inr link ↦ subst (λ (n : Node). IfSome (file_of n) P) (sym (node_of_other blocks u other link)) tt
  ]
]

-- what holds of each file that is read from an inode holds of inode i, where it is a file
pub by_file : (g : Geometry) (blocks : Blocks) (i : ℕ) (P : FileNode → Type 0)
    → ((u : UsedInode) → used_at (reading_of g blocks) i ≡ Some u → is_file u.inode.mode ≡ true → P (file_of_inode blocks u)) → IfSome (file_in (tree_of g blocks) i) P
unfolding tree_of
by_file g blocks i P each = of_used blocks (used_at (reading_of g blocks) i) P each

-- the bytes of a file lie in the blocks that it has
pub bytes_mapped : (g : Geometry) (blocks : Blocks) (i index : ℕ) → has_bad_numbers g (reading_of g blocks) i ≡ false
    → IfSome (file_in (tree_of g blocks) i) (λ file. block_at file index ≡ option_map (λ b. take block_size (blocks b)) (block_mapped (reading_of g blocks) i index))
bytes_mapped g blocks i index right =
    by_file g blocks i (λ file. block_at file index ≡ option_map (λ b. take block_size (blocks b)) (block_mapped (reading_of g blocks) i index)) (λ u used file.
    bytes_by_number blocks u index (fields_of_numbers g i u (numbers_right g blocks i u used right)).none_past
    ∙ sym (ap (λ (o : Option UsedInode). option_map (λ b. take block_size (blocks b)) (option_and_then (λ v. numbered (slice_index v.numbers index)) o)) used))
