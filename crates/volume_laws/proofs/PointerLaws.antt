-- What numbers in a pointer block change of a reading, of a tree and of its shape.
use Rattle.std.proofs.Common.{◌≡◌, ◌≤◌, ℕ, ◌+◌, ◌*◌, eqb, false, length, take, drop, slice_index, Some, ap, ◌∙◌}
use Rattle.std.specs.Option.{option_map}
use Rattle.lufs_base.specs.Layout.{IsGeometry}
use Rattle.lufs_base.specs.declared.geometry.Geometry.{Geometry}
use Rattle.volume_model.specs.Format.{Blocks, pointers_of}
use Rattle.volume_model.specs.Sound.{UsedInode, InodeState, InUse, Single, reading_of, used_at, used_of, pointer_claim, IsLaid, read_length, with_node, shape_of, shape_of_node, node_of, tree_of}
use Rattle.volume_laws.specs.Changes.{AgreeWhereReadBut, AgreeInMetadataBut, with_state, with_numbers}
use Rattle.volume_laws.proofs.LessAgreement.{agree_in_metadata_but}
use Rattle.volume_laws.proofs.BodyChanges.{has_record, only_owner, claims_of_others}
use Rattle.volume_laws.proofs.NumberChange.{numbers_state, its_pointer}
use Rattle.volume_laws.proofs.OneEntry.{one_state, one_node, one_shape}

module _ (g : Geometry) (blocks others : Blocks) (i j n : ℕ) (u : UsedInode) (ok : IsGeometry g) (laid : IsLaid g (reading_of g blocks))
    (used : used_at (reading_of g blocks) i ≡ Some u) (past : length u.chunks ≤ 8 * (12 + j)) (fits : j + n ≤ 1024)
    (there : eqb (slice_index u.inode.indirect 0) 0 ≡ false) where
  abbrev changed : UsedInode
  changed = with_numbers u (12 + j) (take n (drop j (pointers_of (others (slice_index u.inode.indirect 0)))))

  pub numbers_reading : AgreeInMetadataBut g blocks others (slice_index u.inode.indirect 0) (4 * j) (4 * n)
      → reading_of g others ≡ with_state (reading_of g blocks) i (InUse changed)
  numbers_reading agree =
      let claim = pointer_claim i (record { name = Single; block = slice_index u.inode.indirect 0 }) in
      let only = only_owner g blocks others ok laid claim (its_pointer g blocks i u used there) (4 * j) (4 * n) agree in
      one_state g blocks others i (has_record g blocks i u used).within only
      ∙ ap (with_state (reading_of g blocks) i) (numbers_state g blocks others ok laid i j n u used past fits there agree)

  pub numbers_tree : AgreeWhereReadBut g blocks others (slice_index u.inode.indirect 0) (4 * j) (4 * n)
      → tree_of g others ≡ with_node (tree_of g blocks) i (Some (node_of others changed))
  numbers_tree agree =
      let claim = pointer_claim i (record { name = Single; block = slice_index u.inode.indirect 0 }) in
      let here = its_pointer g blocks i u used there in
      let mostly = agree_in_metadata_but g blocks others (slice_index u.inode.indirect 0) (4 * j) (4 * n) agree in
      let only = only_owner g blocks others ok laid claim here (4 * j) (4 * n) mostly in
      one_node g blocks others i (has_record g blocks i u used).within only
      (claims_of_others g blocks others ok laid claim here (read_length g (reading_of g blocks)) (4 * j) (4 * n) agree)
      ∙ ap (λ (s : InodeState). with_node (tree_of g blocks) i (option_map (node_of others) (used_of s)))
      (numbers_state g blocks others ok laid i j n u used past fits there mostly)

  pub numbers_shape : AgreeInMetadataBut g blocks others (slice_index u.inode.indirect 0) (4 * j) (4 * n)
      → shape_of (tree_of g others) ≡ with_node (shape_of (tree_of g blocks)) i (Some (shape_of_node (node_of others changed)))
  numbers_shape agree =
      let claim = pointer_claim i (record { name = Single; block = slice_index u.inode.indirect 0 }) in
      let only = only_owner g blocks others ok laid claim (its_pointer g blocks i u used there) (4 * j) (4 * n) agree in
      one_shape g blocks others i (has_record g blocks i u used).within only
      ∙ ap (λ (s : InodeState). with_node (shape_of (tree_of g blocks)) i (option_map shape_of_node (option_map (node_of others) (used_of s))))
      (numbers_state g blocks others ok laid i j n u used past fits there agree)
