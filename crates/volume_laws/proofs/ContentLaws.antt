-- What bytes of a block that a link or a file claims change of a reading, of a tree and of its shape.
use Rattle.std.proofs.Common.{◌≡◌, ◌≢◌, ◌<◌, ◌≤◌, inl, inr, ℕ, ◌+◌, ◌/◌, eqb, true, false, cond, List, [], map, set, take, slice_index, Option, Some, None, sym, ap, ◌∙◌, subst, arith}
use Rattle.std.specs.List.{range_with_len}
use Rattle.std.specs.Option.{option_map, option_map_or}
use Rattle.std.proofs.lemmas.Bool.{cases_Bool, cases_lt, cond-true, cond-false}
use Rattle.std.proofs.lemmas.List.{set-get_or, set_past}
use Rattle.std.proofs.lemmas.List.FromFn.{length-map-range_with_len, get_or-map-range_with_len}
use Rattle.lufs_base.specs.Layout.{IsGeometry}
use Rattle.lufs_base.specs.declared.geometry.Geometry.{Geometry}
use Rattle.volume_model.specs.declared.inode.Dinode.{Dinode}
use Rattle.volume_model.specs.declared.directory.Slot.{Slot}
use Rattle.volume_model.specs.Format.{Blocks, inodes_of, is_file, is_directory, is_link}
use Rattle.volume_model.specs.Sound.{NamedPointer, Single, UsedInode, InodeState, InUse, reading_of, inode_at, state_at, state_of, named_pointers, used_inode, used_of, used_at, numbers_of, chunk_at, chunks_at, AtIndex, AtPointer, index_claim, pointer_claim, IsLaid, size_in_blocks, index_length, is_of_file, part_length, read_length, metadata_length, AgreeButInFileBytes, FileNode, Node, File, with_node, shape_of, shape_of_node, attributes_of, file_block, file_blocks, pointer_names, node_of, tree_of}
use Rattle.volume_laws.specs.Changes.{AgreeWhereReadBut, AgreeInMetadataBut, with_state, with_block}
use Rattle.volume_laws.proofs.Members.{Contains_head, All_range, map_same}
use Rattle.volume_laws.proofs.ClaimFacts.{pointer_claimed, index_claimed}
use Rattle.volume_laws.proofs.ReadLengths.{same_front, index_read, pointer_read}
use Rattle.volume_laws.proofs.LaidClaims.{metadata_of_claim}
use Rattle.volume_laws.proofs.SameReading.{used_from_record, numbers_from, reading_same}
use Rattle.volume_laws.proofs.SameTree.{same_shape_of}
use Rattle.volume_laws.proofs.LessAgreement.{agree_in_metadata_but}
use Rattle.volume_laws.proofs.ListParts.{map_changed}
use Rattle.volume_laws.proofs.UnclaimedBlocks.{agree_everywhere}
use Rattle.volume_laws.proofs.OneEntry.{one_state, one_node, one_shape}
use Rattle.volume_laws.proofs.BodyChanges.{has_record, other_part, inodes_beside, only_owner, claims_of_others}
use Rattle.volume_laws.proofs.NodeFacts.{as_file, as_link, node_of_file, node_of_other, link_is_other, file_is_no_directory, node_is, file_by_node}

-- the state of what is no directory, where bytes at an index of it change
module _ (g : Geometry) (blocks others : Blocks) (ok : IsGeometry g) (laid : IsLaid g (reading_of g blocks))
    (i k at n : ℕ) (d : Dinode) (within : i < inodes_of g) (has : inode_at g blocks i ≡ Some (Some d)) (plain : is_directory d.mode ≡ false)
    (there : eqb (slice_index (numbers_of blocks d) k) 0 ≡ false) (agree : AgreeInMetadataBut g blocks others (slice_index (numbers_of blocks d) k) at n) where
  same_numbers : numbers_of others d ≡ numbers_of blocks d
  same_numbers =
      let r = reading_of g blocks in
      let u = used_inode blocks d in
      let used = used_from_record g blocks i d within has in
      let p : NamedPointer = record { name = Single; block = slice_index d.indirect 0 } in
      let among = Contains_head p [] in
      numbers_from blocks others d (λ some.
      same_front 4096 (metadata_length g r p.block) (others p.block) (blocks p.block)
      (other_part g blocks others ok laid (index_claim i u k) (index_claimed r i u k used there) (metadata_length g r) at n agree
      (pointer_claim i p) (pointer_claimed r i u p used among some) (λ same.
      let parts : AtPointer Single ≡ AtIndex k = same in
      cc)) (pointer_read g r i u p used among some))

  same_state : state_at g others i ≡ InUse (used_inode blocks d)
  same_state =
      let none : (l : List (Option (List Slot))) → cond (is_directory d.mode) l [] ≡ [] = λ l. cond-false (is_directory d.mode) l [] plain in
      let chunks : chunks_at others d ≡ chunks_at blocks d =
      none (map (chunk_at others (numbers_of others d)) (range_with_len 0 (d.size / 512)))
      ∙ sym (none (map (chunk_at blocks (numbers_of blocks d)) (range_with_len 0 (d.size / 512)))) in
      let used = used_from_record g blocks i d within has in
      let mine = index_claimed (reading_of g blocks) i (used_inode blocks d) k used there in
      let inode = inodes_beside g blocks others ok laid (index_claim i (used_inode blocks d) k) mine at n agree i within ∙ has in
      ap (state_of others) inode ∙ (λ t. InUse (record { inode = d; pointers = named_pointers d; numbers = same_numbers t; chunks = chunks t }))

state_stays : (g : Geometry) (blocks others : Blocks) → IsGeometry g → IsLaid g (reading_of g blocks) → (i k at n : ℕ) (u : UsedInode)
    → used_at (reading_of g blocks) i ≡ Some u → is_directory u.inode.mode ≡ false → eqb (slice_index u.numbers k) 0 ≡ false
    → AgreeInMetadataBut g blocks others (slice_index u.numbers k) at n → state_at g others i ≡ InUse u
state_stays g blocks others ok laid i k at n u used =
    let has = has_record g blocks i u used in
    subst (λ (v : UsedInode). is_directory v.inode.mode ≡ false → eqb (slice_index v.numbers k) 0 ≡ false
    → AgreeInMetadataBut g blocks others (slice_index v.numbers k) at n → state_at g others i ≡ InUse v) has.leads
    (same_state g blocks others ok laid i k at n has.dinode has.within has.there)

-- the same state set again changes nothing
state_again : (g : Geometry) (blocks : Blocks) (i : ℕ) → i < inodes_of g → with_state (reading_of g blocks) i (state_at g blocks i) ≡ reading_of g blocks
unfolding reading_of
state_again g blocks i within =
    let states : List InodeState = map (state_at g blocks) (range_with_len 0 (inodes_of g)) in
    let s = state_at g blocks i in
    let here = get_or-map-range_with_len (state_at g blocks) 0 (inodes_of g) i i s within (let same : 0 + i ≡ i = omega arith in same) in
    ap (λ (l : List InodeState). record { groups = (reading_of g blocks).groups; inodes = l })
    (ap (set states i) (sym here) ∙ set-get_or states i s)

state_before : (g : Geometry) (blocks : Blocks) (i : ℕ) (u : UsedInode) → used_at (reading_of g blocks) i ≡ Some u → state_at g blocks i ≡ InUse u
state_before g blocks i u used =
    let has = has_record g blocks i u used in
    ap (state_of blocks) has.there ∙ ap (λ (v : UsedInode). InUse v) has.leads

module _ (g : Geometry) (blocks others : Blocks) (i k at n : ℕ) (u : UsedInode) (ok : IsGeometry g) (laid : IsLaid g (reading_of g blocks))
    (used : used_at (reading_of g blocks) i ≡ Some u) (there : eqb (slice_index u.numbers k) 0 ≡ false) where
  reading_stays : is_directory u.inode.mode ≡ false → AgreeInMetadataBut g blocks others (slice_index u.numbers k) at n → reading_of g others ≡ reading_of g blocks
  reading_stays plain agree =
      let within = (has_record g blocks i u used).within in
      let only = only_owner g blocks others ok laid (index_claim i u k) (index_claimed (reading_of g blocks) i u k used there) at n agree in
      one_state g blocks others i within only
      ∙ ap (with_state (reading_of g blocks) i) (state_stays g blocks others ok laid i k at n u used plain there agree ∙ sym (state_before g blocks i u used))
      ∙ state_again g blocks i within

  node_read_again : is_directory u.inode.mode ≡ false → AgreeWhereReadBut g blocks others (slice_index u.numbers k) at n
      → tree_of g others ≡ with_node (tree_of g blocks) i (Some (node_of others u))
  node_read_again plain agree =
      let r = reading_of g blocks in
      let here = index_claimed r i u k used there in
      let mostly = agree_in_metadata_but g blocks others (slice_index u.numbers k) at n agree in
      let only = only_owner g blocks others ok laid (index_claim i u k) here at n mostly in
      one_node g blocks others i (has_record g blocks i u used).within only
      (claims_of_others g blocks others ok laid (index_claim i u k) here (read_length g r) at n agree)
      ∙ ap (λ (s : InodeState). with_node (tree_of g blocks) i (option_map (node_of others) (used_of s)))
      (state_stays g blocks others ok laid i k at n u used plain there mostly)

  shape_read_again : is_directory u.inode.mode ≡ false → AgreeInMetadataBut g blocks others (slice_index u.numbers k) at n
      → shape_of (tree_of g others) ≡ with_node (shape_of (tree_of g blocks)) i (Some (shape_of_node (node_of others u)))
  shape_read_again plain agree =
      let only = only_owner g blocks others ok laid (index_claim i u k) (index_claimed (reading_of g blocks) i u k used there) at n agree in
      one_shape g blocks others i (has_record g blocks i u used).within only
      ∙ ap (λ (s : InodeState). with_node (shape_of (tree_of g blocks)) i (option_map shape_of_node (option_map (node_of others) (used_of s))))
      (state_stays g blocks others ok laid i k at n u used plain there agree)

  -- of a link
  pub link_reading : is_link u.inode.mode ≡ true → AgreeInMetadataBut g blocks others (slice_index u.numbers k) at n → reading_of g others ≡ reading_of g blocks
  link_reading link = reading_stays (link_is_other u.inode.mode link).1

  link_node : is_link u.inode.mode ≡ true → node_of others u ≡ as_link others u
  link_node link = let types = link_is_other u.inode.mode link in node_of_other others u types.0 types.1

  pub link_tree : is_link u.inode.mode ≡ true → AgreeWhereReadBut g blocks others (slice_index u.numbers k) at n
      → tree_of g others ≡ with_node (tree_of g blocks) i (Some (as_link others u))
  link_tree link agree =
      node_read_again (link_is_other u.inode.mode link).1 agree ∙ ap (λ (node : Node). with_node (tree_of g blocks) i (Some node)) (link_node link)

  pub link_shape : is_link u.inode.mode ≡ true → AgreeInMetadataBut g blocks others (slice_index u.numbers k) at n
      → shape_of (tree_of g others) ≡ with_node (shape_of (tree_of g blocks)) i (Some (as_link others u))
  link_shape link agree =
      shape_read_again (link_is_other u.inode.mode link).1 agree
      ∙ ap (λ (node : Node). with_node (shape_of (tree_of g blocks)) i (Some (shape_of_node node))) (link_node link)

  -- of a file
  only_file_bytes : is_file u.inode.mode ≡ true → AgreeInMetadataBut g blocks others (slice_index u.numbers k) at n → AgreeButInFileBytes g blocks others
  only_file_bytes file agree =
      let r = reading_of g blocks in
      let claim = index_claim i u k in
      let none : metadata_length g r (slice_index u.numbers k) ≡ 0 =
      metadata_of_claim g r laid claim (index_claimed r i u k used there)
      ∙ ap (λ (o : Option UsedInode). option_map_or (λ v. cond (is_of_file v claim.part) 0 (part_length v claim.part)) o 0) used
      ∙ cond-true (is_file u.inode.mode) 0 (index_length u k) file in
      agree_everywhere (metadata_length g r) blocks others (slice_index u.numbers k) at n none agree

  pub file_reading : is_file u.inode.mode ≡ true → AgreeInMetadataBut g blocks others (slice_index u.numbers k) at n → reading_of g others ≡ reading_of g blocks
  file_reading file agree = reading_same g blocks others ok (only_file_bytes file agree)

  pub file_shape : is_file u.inode.mode ≡ true → AgreeInMetadataBut g blocks others (slice_index u.numbers k) at n
      → shape_of (tree_of g others) ≡ shape_of (tree_of g blocks)
  file_shape file agree = same_shape_of g blocks others ok (only_file_bytes file agree)

  -- the bytes at another index stay
  other_index : is_file u.inode.mode ≡ true → AgreeWhereReadBut g blocks others (slice_index u.numbers k) at n
      → (index : ℕ) → index ≢ k → file_block others (slice_index u.numbers index) ≡ file_block blocks (slice_index u.numbers index)
  other_index file agree index away =
      let r = reading_of g blocks in
      let number = slice_index u.numbers index in
      elim (cases_Bool (eqb number 0)) [
        | inl none ↦ cond-true (eqb number 0) None (Some (take 4096 (others number))) none ∙ sym (cond-true (eqb number 0) None (Some (take 4096 (blocks number))) none)
        | inr some ↦
            let is : index_length u index ≡ 4096 = cond-true (is_file u.inode.mode) 4096 _ file in
            let whole : 4096 ≤ read_length g r number = omega (arith, is, index_read g r i u index used some) in
            ap (λ (bytes : List ℕ). cond (eqb number 0) None (Some bytes))
            (same_front 4096 (read_length g r number) (others number) (blocks number)
            (other_part g blocks others ok laid (index_claim i u k) (index_claimed r i u k used there) (read_length g r) at n agree
            (index_claim i u index) (index_claimed r i u index used some) (λ same.
            let parts : AtIndex index ≡ AtIndex k = same in
            let indexes : index ≡ k = cc in
            away indexes)) whole)
      ]

  blocks_changed : is_file u.inode.mode ≡ true → AgreeWhereReadBut g blocks others (slice_index u.numbers k) at n
      → file_blocks others u ≡ set (file_blocks blocks u) k (file_block others (slice_index u.numbers k))
  blocks_changed file agree =
      let s = size_in_blocks u.inode.size in
      let old : ℕ → Option (List ℕ) = λ index. file_block blocks (slice_index u.numbers index) in
      let new : ℕ → Option (List ℕ) = λ index. file_block others (slice_index u.numbers index) in
      elim (cases_lt k s) [
        | inl below ↦ map_changed old new s k below (λ index less away. other_index file agree index away)
        | inr past ↦
            map_same new old (range_with_len 0 s) (All_range (λ index. new index ≡ old index) s (λ index less. other_index file agree index (λ same. absurd (omega (arith, same, less, past)))))
            ∙ sym (set_past (map old (range_with_len 0 s)) k (new k) (omega (arith, past, length-map-range_with_len old 0 s)))
      ]

  pub file_tree : (file : FileNode) → tree_of g blocks i ≡ Some (File file) → AgreeWhereReadBut g blocks others (slice_index u.numbers k) at n
      → tree_of g others ≡ with_node (tree_of g blocks) i (Some (File (with_block file k (file_block others (slice_index u.numbers k)))))
  file_tree file stands agree =
      let test = file_by_node g blocks i u file used stands in
      let old : File file ≡ as_file blocks u = sym (node_is g blocks i u (File file) used stands) ∙ node_of_file blocks u test in
      let same : file ≡ (record { attributes = attributes_of u.inode; size = u.inode.size; blocks = file_blocks blocks u; pointers = pointer_names u }) = cc in
      let new : node_of others u ≡ File (with_block file k (file_block others (slice_index u.numbers k))) =
      node_of_file others u test
      ∙ ap (λ (l : List (Option (List ℕ))). File (record { attributes = attributes_of u.inode; size = u.inode.size; blocks = l; pointers = pointer_names u }))
      (blocks_changed test agree)
      ∙ ap (λ (f : FileNode). File (with_block f k (file_block others (slice_index u.numbers k)))) (sym same) in
      node_read_again (file_is_no_directory u.inode.mode test) agree ∙ ap (λ (node : Node). with_node (tree_of g blocks) i (Some node)) new
