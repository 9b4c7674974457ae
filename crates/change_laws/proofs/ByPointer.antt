-- A held block that a directory claims as its next one by the pointer block that it has.
use Rattle.std.proofs.Common.{◌≡◌, ◌<◌, ◌≤◌, ℕ, ◌+◌, ◌*◌, ◌/◌, ◌%◌, eqb, true, false, ◌||◌, List, [], ◌∷◌, ◌++◌, length, take, drop, set, slice_index, Option, Some, refl, sym, ap, ◌∙◌, subst, arith}
use Rattle.std.specs.Prelude.{◌==◌, nat_lt}
use Rattle.std.specs.List.{list_all}
use Rattle.std.proofs.lemmas.Bool.{and_parts, cond-false}
use Rattle.std.proofs.lemmas.List.{get_or-set_same}
use Rattle.lufs_base.specs.Fields.{u32_at}
use Rattle.lufs_base.specs.Layout.{IsGeometry}
use Rattle.lufs_base.specs.declared.geometry.Geometry.{Geometry}
use Rattle.volume_model.specs.declared.inode.Dinode.{Dinode}
use Rattle.volume_model.specs.declared.directory.Slot.{Slot}
use Rattle.volume_model.specs.declared.hand.Hand.{Hand}
use Rattle.volume_model.specs.Format.{Blocks, is_body, is_directory, chunk_of}
use Rattle.volume_model.specs.Sound.{Single, UsedInode, InodeState, InUse, Reading, reading_of, state_at, used_inode, used_of, used_at, inodes_in, held_blocks, named_pointers, numbers_of, block_numbered, chunk_at, chunks_at, size_in_blocks, first_index, pointer_claim, IsLaid, IsStored, DirectoryNode, Directory, with_node, attributes_of, tree_of}
use Rattle.volume_laws.specs.Changes.{AgreeWhereReadBut, with_state, with_number}
use Rattle.volume_laws.proofs.ClaimFacts.{length-inodes}
use Rattle.volume_laws.proofs.StoredClaims.{stored_is_laid}
use Rattle.volume_laws.proofs.LessAgreement.{agree_in_metadata_but}
use Rattle.volume_laws.proofs.NumberChange.{numbers_state, as_one_number, its_pointer}
use Rattle.volume_laws.proofs.BodyChanges.{has_record}
use Rattle.change_laws.specs.Hands.{HaveTheSame}
use Rattle.change_laws.specs.Exchange.{claimed_blocks}
use Rattle.change_laws.specs.Plans.{OnlyInodeChanges, WritesRecord, GrowsByChunk, HoldMore}
use Rattle.change_laws.proofs.OneInode.{used_changed}
use Rattle.change_laws.proofs.InodeWrites.{written_record, written_block, one_after_another, laid_after}
use Rattle.change_laws.proofs.InodeRights.{same_directory}
use Rattle.change_laws.proofs.RecordReads.{numbers_after, more_chunks, state_written}
use Rattle.change_laws.proofs.NewInodes.{body_number}
use Rattle.change_laws.proofs.Extended.{ClaimsMore, bodies_held, exchange_blocks}
use Rattle.change_laws.proofs.DirectoryGrowth.{CountsChunks, chunks_of_directory, grown_tree, grown_stored, places_after}
use Rattle.change_laws.proofs.GrowthSteps.{one_more_claim}
use Rattle.change_laws.proofs.NextBlock.{next_is_empty, next_within, pointers_stay_needed}

-- a number written in the pointer block, and then the record
module _ (g : Geometry) (blocks middle others : Blocks) (i j b : ℕ) (u : UsedInode) (d : Dinode) (directory : DirectoryNode) (slots : List Slot) (hands after : List Hand) (ok : IsGeometry g)
    (stored : IsStored g (reading_of g blocks) hands) (used : used_at (reading_of g blocks) i ≡ Some u) (stands : tree_of g blocks i ≡ Some (Directory directory))
    (agree : AgreeWhereReadBut g blocks middle (slice_index u.inode.indirect 0) (4 * j) 4) (number : u32_at (middle (slice_index u.inode.indirect 0)) (4 * j) ≡ b)
    (writes : WritesRecord g middle others i (Some d)) (grows : GrowsByChunk u.inode d) (direct : d.direct ≡ u.inode.direct) (indirect : d.indirect ≡ u.inode.indirect)
    (count : d.blocks ≡ u.inode.blocks + 1) (has_pointer : eqb (slice_index u.inode.indirect 0) 0 ≡ false) (below : 12 + j < 256)
    (eight : length directory.chunks ≡ 8 * (12 + j)) (held : HoldMore hands after [] (b ∷ [])) (there : chunk_of (take 512 (others b)) ≡ Some slots) where
  abbrev k : ℕ
  k = 12 + j

  abbrev w : UsedInode
  w = with_number u k b

  laid : IsLaid g (reading_of g blocks)
  laid = stored_is_laid g (reading_of g blocks) hands stored

  some : eqb b 0 ≡ false
  some = body_number g b ok (and_parts (is_body g b) true (bodies_held g (reading_of g blocks) hands after [] (b ∷ []) stored held)).0

  within : k < length u.numbers
  within = next_within g blocks i k u directory hands stored used stands eight below

  counts : CountsChunks u directory
  counts = chunks_of_directory g blocks i u directory hands stored used stands

  -- after the number
  first : OnlyInodeChanges g blocks middle i
  first =
      written_block g blocks middle (pointer_claim i (record { name = Single; block = slice_index u.inode.indirect 0 })) (4 * j) 4 ok laid
      (its_pointer g blocks i u used has_pointer) agree

  state_between : state_at g middle i ≡ InUse w
  state_between =
      let past : length u.chunks ≤ 8 * (12 + j) = omega (arith, counts.count, eight) in
      numbers_state g blocks middle ok laid i j 1 u used past (omega (arith, below)) has_pointer
      (agree_in_metadata_but g blocks middle (slice_index u.inode.indirect 0) (4 * j) 4 agree)
      ∙ ap (λ (v : UsedInode). InUse v) (as_one_number g blocks i j u (middle (slice_index u.inode.indirect 0)) used (omega (arith, below)) ∙ ap (with_number u k) number)

  claims_between : ClaimsMore i u w (b ∷ [])
  claims_between = one_more_claim i k b u w refl refl within (next_is_empty g blocks i k u directory hands stored used stands eight) some

  laid_between : IsLaid g (reading_of g middle)
  laid_between =
      let exchange = exchange_blocks g (reading_of g blocks) i u w (b ∷ []) hands after stored used claims_between held in
      laid_after g blocks middle i hands after stored first
      (subst (λ (s : InodeState). HaveTheSame (claimed_blocks i (used_at (reading_of g blocks) i) ++ held_blocks hands) (claimed_blocks i (used_of s) ++ held_blocks after))
      (sym state_between) exchange)

  used_between : used_at (reading_of g middle) i ≡ Some w
  used_between =
      let inside : i < inodes_in (reading_of g blocks) = omega (arith, first.within, length-inodes g blocks) in
      ap (λ (r : Reading). used_at r i) first.reading ∙ used_changed (reading_of g blocks) i (state_at g middle i) inside ∙ ap used_of state_between

  -- after the record
  only : OnlyInodeChanges g blocks others i
  only = one_after_another g blocks middle others i first (written_record g middle others i ok writes.within laid_between writes.agree)

  state : state_at g others i ≡ InUse (used_inode others d)
  state = state_written g middle others ok laid_between i d writes

  numbers : numbers_of others d ≡ set u.numbers k b
  numbers =
      let has = has_record g middle i w used_between in
      subst (λ (v : UsedInode). d.direct ≡ v.inode.direct → d.indirect ≡ v.inode.indirect → numbers_of others d ≡ v.numbers) has.leads
      (numbers_after g middle others ok laid_between i writes.within writes.agree has.dinode has.there d) direct indirect

  pointers : named_pointers d ≡ u.pointers
  pointers =
      let has = has_record g blocks i u used in
      subst (λ (v : UsedInode). d.indirect ≡ v.inode.indirect → named_pointers d ≡ v.pointers) has.leads
      (λ same t. record { name = Single; block = slice_index (same t) 0 } ∷ []) indirect

  next_chunk : chunk_at others (set u.numbers k b) (u.inode.size / 512) ≡ Some slots
  next_chunk =
      let index : (u.inode.size / 512) / 8 ≡ k = omega (arith, counts.size, eight) in
      let place : 512 * ((u.inode.size / 512) % 8) ≡ 0 = omega (arith, counts.size, eight) in
      (λ t. chunk_of (take 512 (drop (place t) (block_numbered others (slice_index (set u.numbers k b) (index t))))))
      ∙ ap (λ (n : ℕ). chunk_of (take 512 (block_numbered others n))) (get_or-set_same u.numbers k b 0 within)
      ∙ ap (λ (l : List ℕ). chunk_of (take 512 l)) (cond-false (eqb b 0) [] (others b) some) ∙ there

  chunks : chunks_at others d ≡ u.chunks ++ (Some slots ∷ [])
  chunks =
      let has = has_record g middle i w used_between in
      subst (λ (v : UsedInode). d.direct ≡ v.inode.direct → d.indirect ≡ v.inode.indirect → is_directory d.mode ≡ true → is_directory v.inode.mode ≡ true → d.size ≡ v.inode.size + 512
      → chunks_at others d ≡ v.chunks ++ (chunk_at others v.numbers (v.inode.size / 512) ∷ [])) has.leads
      (more_chunks g middle others ok laid_between i writes.within writes.agree has.dinode has.there d) direct indirect
      (same_directory d.mode u.inode.mode grows.type ∙ counts.is) counts.is grows.size
      ∙ ap (λ (c : Option (List Slot)). u.chunks ++ (c ∷ [])) next_chunk

  pub by_pointer_reading : reading_of g others ≡ with_state (reading_of g blocks) i (InUse (used_inode others d))
  by_pointer_reading = only.reading ∙ ap (with_state (reading_of g blocks) i) state

  pub by_pointer_tree : tree_of g others ≡ with_node (tree_of g blocks) i (Some (Directory (record { attributes = attributes_of d; chunks = directory.chunks ++ (slots ∷ []) })))
  by_pointer_tree = grown_tree g blocks others i u (used_inode others d) directory slots (b ∷ []) hands after stored used stands only state grows chunks

  pub by_pointer_stored : IsStored g (reading_of g others) after
  by_pointer_stored =
      let v = used_inode others d in
      let more = one_more_claim i k b u v numbers pointers within (next_is_empty g blocks i k u directory hands stored used stands eight) some in
      let needed = (λ t. list_all (λ p. p.block == 0 || nat_lt (first_index p.name) (size_in_blocks d.size)) (pointers t))
      ∙ pointers_stay_needed g blocks i k u directory hands stored used stands eight d grows in
      let places = places_after g blocks others i u v directory slots (b ∷ []) hands after stored used stands only state grows chunks k b eight below numbers some needed within in
      grown_stored g blocks others i u v directory slots (b ∷ []) hands after stored used stands only state grows chunks more places count held
