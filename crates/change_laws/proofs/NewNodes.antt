-- The three kinds of inodes that are made, and one that is freed.
use Rattle.std.proofs.Common.{◌≡◌, ◌≤◌, ℕ, ◌*◌, ◌/◌, ◌%◌, eqb, Bool, true, false, ◌&&◌, List, [], ◌∷◌, ◌++◌, map, take, slice_index, Option, Some, None, refl, sym, ap, ◌∙◌, subst, arith}
use Rattle.std.specs.Prelude.{◌==◌, nat_le, is_some}
use Rattle.std.specs.List.{list_all, range_with_len}
use Rattle.std.specs.Option.{option_map, unwrap_or}
use Rattle.std.proofs.lemmas.Bool.{and_parts, and_from, or_left, or_right, cond-true, cond-false, le-leb}
use Rattle.lufs_base.specs.Layout.{IsGeometry}
use Rattle.lufs_base.specs.declared.geometry.Geometry.{Geometry}
use Rattle.volume_model.specs.declared.inode.Dinode.{Dinode}
use Rattle.volume_model.specs.declared.directory.Slot.{Slot}
use Rattle.volume_model.specs.declared.hand.Hand.{Hand}
use Rattle.volume_model.specs.Format.{Blocks, is_body, is_file, is_directory, is_link, chunk_of}
use Rattle.volume_model.specs.Sound.{UsedInode, InodeState, InUse, Unused, reading_of, state_at, state_of, used_inode, used_of, used_at, numbers_of, block_numbered, chunk_at, chunks_at, held_inodes, held_blocks, size_in_blocks, most_blocks, IsStored, File, Directory, Link, with_node, attributes_of, file_block, node_of, tree_of}
use Rattle.volume_laws.specs.Changes.{with_state}
use Rattle.volume_laws.proofs.ClaimFacts.{length-inodes}
use Rattle.volume_laws.proofs.StoredClaims.{stored_is_laid}
use Rattle.volume_laws.proofs.NodeFacts.{node_of_file, node_of_directory, node_of_other, link_is_other, file_is_no_directory}
use Rattle.change_laws.specs.Hands.{times}
use Rattle.change_laws.specs.Exchange.{claimed_blocks, used_inodes, Exchanges}
use Rattle.change_laws.specs.Plans.{OnlyInodeChanges, WritesRecord, HasJustBlocks, HoldMore}
use Rattle.change_laws.proofs.InodeWrites.{written_record, stored_after}
use Rattle.change_laws.proofs.NewInodes.{body_number, first_number, no_names, held_bodies, made_stored, made_tree}

-- what is no directory has no chunks
none_to_read : (blocks : Blocks) (d : Dinode) → is_directory d.mode ≡ false → list_all is_some (chunks_at blocks d) ≡ true
none_to_read blocks d plain =
    ap (list_all is_some) (cond-false (is_directory d.mode) (map (chunk_at blocks (numbers_of blocks d)) (range_with_len 0 (d.size / 512))) [] plain)

-- an empty file
module _ (g : Geometry) (blocks others : Blocks) (i : ℕ) (d : Dinode) (hands after : List Hand) (ok : IsGeometry g) (stored : IsStored g (reading_of g blocks) hands)
    (more : HoldMore hands after (i ∷ []) []) (writes : WritesRecord g blocks others i (Some d)) (just : HasJustBlocks d []) (file : is_file d.mode ≡ true) (size : d.size ≡ 0) where
  pub file_stored : IsStored g (reading_of g others) after
  file_stored =
      let fits : (is_file d.mode && nat_le d.size (4096 * most_blocks g)) ≡ true =
      and_from (is_file d.mode) (nat_le d.size (4096 * most_blocks g)) file (le-leb d.size (4096 * most_blocks g) (omega (arith, size))) in
      made_stored g blocks others i d [] hands after ok stored more writes just (or_left _ _ (or_left _ _ fits)) (ap size_in_blocks size)
      (none_to_read others d (file_is_no_directory d.mode file))

  pub file_tree : tree_of g others ≡ with_node (tree_of g blocks) i (Some (File (record { attributes = attributes_of d; size = 0; blocks = []; pointers = [] })))
  file_tree =
      let u = used_inode others d in
      let names = no_names g others i d [] ok just refl in
      let block : ℕ → Option (List ℕ) = λ index. file_block others (slice_index u.numbers index) in
      made_tree g blocks others i d [] hands after ok stored more writes (File (record { attributes = attributes_of d; size = 0; blocks = []; pointers = [] }))
      (node_of_file others u file
      ∙ (λ t. File (record { attributes = attributes_of d; size = size t; blocks = map block (range_with_len 0 (size_in_blocks (size t))); pointers = names t })))

-- what has one block
module _ (g : Geometry) (blocks others : Blocks) (i b : ℕ) (d : Dinode) (hands after : List Hand) (ok : IsGeometry g) (stored : IsStored g (reading_of g blocks) hands)
    (more : HoldMore hands after (i ∷ []) (b ∷ [])) (writes : WritesRecord g blocks others i (Some d)) (just : HasJustBlocks d (b ∷ [])) where
  body : is_body g b ≡ true
  body = ap (λ (t : Bool). t) (and_parts (is_body g b) true (held_bodies g blocks others i d (b ∷ []) hands after ok stored more writes)).0

  first_block : block_numbered others (slice_index (numbers_of others d) 0) ≡ others b
  first_block =
      ap (block_numbered others) (first_number g others i d (b ∷ []) ok just (held_bodies g blocks others i d (b ∷ []) hands after ok stored more writes) b [] refl)
      ∙ cond-false (eqb b 0) [] (others b) (body_number g b ok body)

  -- a directory
  module _ (slots : List Slot) (directory : is_directory d.mode ≡ true) (size : d.size ≡ 512) (there : chunk_of (take 512 (others b)) ≡ Some slots) where
    one_chunk : chunks_at others d ≡ Some slots ∷ []
    one_chunk =
        cond-true (is_directory d.mode) (map (chunk_at others (numbers_of others d)) (range_with_len 0 (d.size / 512))) [] directory
        ∙ ap (λ (s : ℕ). map (chunk_at others (numbers_of others d)) (range_with_len 0 (s / 512))) size
        ∙ ap (λ (c : Option (List Slot)). c ∷ []) (ap (λ (l : List ℕ). chunk_of (take 512 l)) first_block ∙ there)

    pub directory_stored : IsStored g (reading_of g others) after
    directory_stored =
        let sized : (is_directory d.mode && d.size % 512 == 0 && nat_le 512 d.size && nat_le d.size (4096 * 256)) ≡ true =
        (λ t. directory t && size t % 512 == 0 && nat_le 512 (size t) && nat_le (size t) (4096 * 256)) in
        made_stored g blocks others i d (b ∷ []) hands after ok stored more writes just (or_left _ _ (or_right (is_file d.mode && nat_le d.size (4096 * most_blocks g)) _ sized)) (ap size_in_blocks size)
        (ap (list_all is_some) one_chunk)

    pub directory_tree : tree_of g others ≡ with_node (tree_of g blocks) i (Some (Directory (record { attributes = attributes_of d; chunks = slots ∷ [] })))
    directory_tree =
        made_tree g blocks others i d (b ∷ []) hands after ok stored more writes (Directory (record { attributes = attributes_of d; chunks = slots ∷ [] }))
        (node_of_directory others (used_inode others d) directory
        ∙ ap (λ (l : List (Option (List Slot))). Directory (record { attributes = attributes_of d; chunks = map (λ chunk. unwrap_or chunk []) l })) one_chunk)

  -- a link
  module _ (link : is_link d.mode ≡ true) (some : 1 ≤ d.size) (few : d.size ≤ 1024) where
    pub link_stored : IsStored g (reading_of g others) after
    link_stored =
        let sized : (is_link d.mode && nat_le 1 d.size && nat_le d.size 1024) ≡ true =
        and_from (is_link d.mode && nat_le 1 d.size) (nat_le d.size 1024) (and_from (is_link d.mode) (nat_le 1 d.size) link (le-leb 1 d.size some)) (le-leb d.size 1024 few) in
        let one : size_in_blocks d.size ≡ 1 = omega (arith, some, few) in
        made_stored g blocks others i d (b ∷ []) hands after ok stored more writes just (or_right _ _ sized) one (none_to_read others d (link_is_other d.mode link).1)

    pub link_tree : tree_of g others ≡ with_node (tree_of g blocks) i (Some (Link (record { attributes = attributes_of d; text = take d.size (others b) })))
    link_tree =
        let types = link_is_other d.mode link in
        made_tree g blocks others i d (b ∷ []) hands after ok stored more writes (Link (record { attributes = attributes_of d; text = take d.size (others b) }))
        (node_of_other others (used_inode others d) types.0 types.1
        ∙ ap (λ (l : List ℕ). Link (record { attributes = attributes_of d; text = take d.size l })) first_block)

-- a free record
module _ (g : Geometry) (blocks others : Blocks) (i : ℕ) (hands : List Hand) (ok : IsGeometry g) (stored : IsStored g (reading_of g blocks) hands)
    (writes : WritesRecord g blocks others i None) where
  only : OnlyInodeChanges g blocks others i
  only = written_record g blocks others i ok writes.within (stored_is_laid g (reading_of g blocks) hands stored) writes.agree

  free : state_at g others i ≡ Unused
  free = ap (state_of others) writes.there

  pub freed_reading : reading_of g others ≡ with_state (reading_of g blocks) i Unused
  freed_reading = only.reading ∙ ap (with_state (reading_of g blocks) i) free

  pub freed_tree : tree_of g others ≡ with_node (tree_of g blocks) i None
  freed_tree = only.tree ∙ ap (λ (s : InodeState). with_node (tree_of g blocks) i (option_map (node_of others) (used_of s))) free

  pub freed_stored : (u : UsedInode) (after : List Hand) → used_at (reading_of g blocks) i ≡ Some u → HoldMore after hands (i ∷ []) (claimed_blocks i (Some u))
      → IsStored g (reading_of g others) after
  freed_stored u after used more =
      let r = reading_of g blocks in
      let exchange : Exchanges g r i Unused hands after = record {
        within = omega (arith, writes.within, length-inodes g blocks);
        right = tt;
        blocks = λ b. sym (more.blocks b) ∙ ap (λ (o : Option UsedInode). times b (claimed_blocks i o ++ held_blocks hands)) (sym used);
        inodes = λ j. sym (more.inodes j) ∙ ap (λ (o : Option UsedInode). times j (used_inodes i o ++ held_inodes hands)) (sym used);
      } in
      stored_after g blocks others i hands after stored only (subst (λ (s : InodeState). Exchanges g r i s hands after) (sym free) exchange)

pub made_reading : (g : Geometry) (blocks others : Blocks) (i : ℕ) (d : Dinode) (hands : List Hand) → IsGeometry g → IsStored g (reading_of g blocks) hands
    → WritesRecord g blocks others i (Some d) → reading_of g others ≡ with_state (reading_of g blocks) i (InUse (used_inode others d))
made_reading g blocks others i d hands ok stored writes =
    let only = written_record g blocks others i ok writes.within (stored_is_laid g (reading_of g blocks) hands stored) writes.agree in
    only.reading ∙ ap (with_state (reading_of g blocks) i) (ap (state_of others) writes.there)
