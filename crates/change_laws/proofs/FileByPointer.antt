-- A held block that a file claims at an index of its pointer block: the number is written, and then the record.
use Rattle.std.proofs.Common.{◌≡◌, ◌≢◌, ◌<◌, ◌≤◌, ℕ, ◌+◌, ◌*◌, ◌/◌, eqb, true, false, ◌||◌, List, [], ◌∷◌, ◌++◌, length, take, drop, set, slice_index, Option, Some, refl, sym, ap, ◌∙◌, subst, arith}
use Rattle.std.specs.Prelude.{◌==◌, nat_lt}
use Rattle.std.specs.List.{list_all}
use Rattle.std.proofs.lemmas.Bool.{and_parts, cond-true, eq-eqb, both_ways}
use Rattle.std.proofs.lemmas.List.{get_or-set_other}
use Rattle.lufs_base.specs.Fields.{u32_at, are_zeros}
use Rattle.lufs_base.specs.declared.geometry.Geometry.{Geometry}
use Rattle.volume_model.specs.declared.inode.Dinode.{Dinode}
use Rattle.volume_model.specs.declared.hand.Hand.{Hand}
use Rattle.volume_model.specs.Format.{Blocks, is_body, is_file}
use Rattle.volume_model.specs.Sound.{Single, UsedInode, InodeState, InUse, Reading, reading_of, state_at, used_of, used_at, used_inode, inodes_in, named_pointers, numbers_of, AtIndex, AtPointer, Claim, index_claim, pointer_claim, held_blocks, size_in_blocks, first_index, most_blocks, IsLaid, index_length, read_length, FileNode, File, with_node, attributes_of, file_blocks, tree_of}
use Rattle.volume_laws.specs.Changes.{AgreeWhereReadBut, with_state, with_number, with_block}
use Rattle.volume_laws.proofs.ClaimFacts.{length-inodes, index_claimed}
use Rattle.volume_laws.proofs.ReadLengths.{same_front, index_read}
use Rattle.volume_laws.proofs.FieldFacts.{HasRightFields, fields_of_numbers}
use Rattle.volume_laws.proofs.StoredClaims.{right_numbers, stored_is_laid}
use Rattle.volume_laws.proofs.LessAgreement.{agree_in_metadata_but}
use Rattle.volume_laws.proofs.RecordChanges.{claims_beside_inode}
use Rattle.volume_laws.proofs.BodyChanges.{other_part}
use Rattle.volume_laws.proofs.NumberChange.{numbers_of_used, numbers_state, as_one_number, its_pointer, without_chunks}
use Rattle.volume_laws.proofs.NodeFacts.{file_is_no_directory}
use Rattle.change_laws.specs.Hands.{HaveTheSame}
use Rattle.change_laws.specs.Exchange.{claimed_blocks}
use Rattle.change_laws.specs.Plans.{HasInode, ChangesInode, OnlyInodeChanges, WritesRecord, HoldMore}
use Rattle.change_laws.proofs.OneInode.{used_changed}
use Rattle.change_laws.proofs.InodeWrites.{written_record, written_block, one_after_another, laid_after}
use Rattle.change_laws.proofs.InodeRights.{same_file}
use Rattle.change_laws.proofs.RecordReads.{state_written}
use Rattle.change_laws.proofs.NumberReads.{same_pointers, same_numbers}
use Rattle.change_laws.proofs.NewInodes.{body_number}
use Rattle.change_laws.proofs.Extended.{bodies_held, exchange_blocks}
use Rattle.change_laws.proofs.GrowthSteps.{one_more_claim}
use Rattle.change_laws.proofs.FileNodes.{IsFileOf, file_of_tree, blocks_attached, blocks_stay}
use Rattle.change_laws.proofs.FilePlaces.{file_places, file_fits, past_attached, file_stored_with, file_tree_with}
use Rattle.change_laws.proofs.FileSteps.{same_names}

module _ (g : Geometry) (blocks middle others : Blocks) (i j b : ℕ) (u : UsedInode) (d : Dinode) (file : FileNode) (hands after : List Hand) (has : HasInode g blocks hands i u (File file))
    (agree : AgreeWhereReadBut g blocks middle (slice_index u.inode.indirect 0) (4 * j) 4) (number : u32_at (middle (slice_index u.inode.indirect 0)) (4 * j) ≡ b)
    (writes : WritesRecord g middle others i (Some d)) (type : d.mode / 512 ≡ u.inode.mode / 512) (size : d.size ≡ u.inode.size) (direct : d.direct ≡ u.inode.direct)
    (indirect : d.indirect ≡ u.inode.indirect) (count : d.blocks ≡ u.inode.blocks + 1) (has_pointer : eqb (slice_index u.inode.indirect 0) 0 ≡ false)
    (below : 12 + j < size_in_blocks u.inode.size) (empty : slice_index u.numbers (12 + j) ≡ 0) (held : HoldMore hands after [] (b ∷ [])) where
  abbrev k : ℕ
  k = 12 + j

  abbrev w : UsedInode
  w = with_number u k b

  abbrev pointer : Claim
  pointer = pointer_claim i (record { name = Single; block = slice_index u.inode.indirect 0 })

  laid : IsLaid g (reading_of g blocks)
  laid = stored_is_laid g (reading_of g blocks) hands has.stored

  was : IsFileOf blocks u file
  was = file_of_tree g blocks i u file has.used has.stands

  still : is_file d.mode ≡ true
  still = same_file d.mode u.inode.mode type ∙ was.is

  right : HasRightFields g i u
  right = fields_of_numbers g i u (right_numbers g (reading_of g blocks) i u hands has.stored has.used)

  fits : u.inode.size ≤ 4096 * most_blocks g
  fits = file_fits g u.inode was.is right.size

  low : j < 1024
  low = omega (arith, below, fits)

  some : eqb b 0 ≡ false
  some = body_number g b has.geometry (and_parts (is_body g b) true (bodies_held g (reading_of g blocks) hands after [] (b ∷ []) has.stored held)).0

  within : k < length u.numbers
  within = omega (arith, low, numbers_of_used g blocks i u has.used)

  -- after the number
  first : OnlyInodeChanges g blocks middle i
  first = written_block g blocks middle pointer (4 * j) 4 has.geometry laid (its_pointer g blocks i u has.used has_pointer) agree

  state_between : state_at g middle i ≡ InUse w
  state_between =
      numbers_state g blocks middle has.geometry laid i j 1 u has.used (without_chunks g blocks i j u has.used (file_is_no_directory u.inode.mode was.is)) (omega (arith, low)) has_pointer
      (agree_in_metadata_but g blocks middle (slice_index u.inode.indirect 0) (4 * j) 4 agree)
      ∙ ap (λ (v : UsedInode). InUse v) (as_one_number g blocks i j u (middle (slice_index u.inode.indirect 0)) has.used low ∙ ap (with_number u k) number)

  laid_between : IsLaid g (reading_of g middle)
  laid_between =
      let more = one_more_claim i k b u w refl refl within empty some in
      let exchange = exchange_blocks g (reading_of g blocks) i u w (b ∷ []) hands after has.stored has.used more held in
      laid_after g blocks middle i hands after has.stored first
      (subst (λ (s : InodeState). HaveTheSame (claimed_blocks i (used_at (reading_of g blocks) i) ++ held_blocks hands) (claimed_blocks i (used_of s) ++ held_blocks after))
      (sym state_between) exchange)

  used_between : used_at (reading_of g middle) i ≡ Some w
  used_between =
      let inside : i < inodes_in (reading_of g blocks) = omega (arith, first.within, length-inodes g blocks) in
      ap (λ (r : Reading). used_at r i) first.reading ∙ used_changed (reading_of g blocks) i (state_at g middle i) inside ∙ ap used_of state_between

  -- after the record
  only : OnlyInodeChanges g blocks others i
  only = one_after_another g blocks middle others i first (written_record g middle others i has.geometry writes.within laid_between writes.agree)

  state : state_at g others i ≡ InUse (used_inode others d)
  state = state_written g middle others has.geometry laid_between i d writes

  numbers : numbers_of others d ≡ set u.numbers k b
  numbers = same_numbers g middle others has.geometry laid_between i w d used_between writes direct indirect

  pointers : named_pointers d ≡ u.pointers
  pointers = same_pointers g middle others has.geometry laid_between i w d used_between writes indirect

  -- the bytes of the blocks that it had
  whole_blocks : (index : ℕ) → eqb (slice_index u.numbers index) 0 ≡ false → take 4096 (middle (slice_index u.numbers index)) ≡ take 4096 (blocks (slice_index u.numbers index))
  whole_blocks index is =
      let r = reading_of g blocks in
      let n = slice_index u.numbers index in
      let all : index_length u index ≡ 4096 = cond-true (is_file u.inode.mode) 4096 _ was.is in
      same_front 4096 (read_length g r n) (middle n) (blocks n)
      (other_part g blocks middle has.geometry laid pointer (its_pointer g blocks i u has.used has_pointer) (read_length g r) (4 * j) 4 agree
      (index_claim i u index) (index_claimed r i u index has.used is) (λ same.
      let parts : AtIndex index ≡ AtPointer Single = same in
      cc)) (omega (arith, all, index_read g r i u index has.used is))

  and_after : (index : ℕ) → eqb (slice_index u.numbers index) 0 ≡ false → take 4096 (others (slice_index u.numbers index)) ≡ take 4096 (middle (slice_index u.numbers index))
  and_after index is =
      let r = reading_of g middle in
      let n = slice_index u.numbers index in
      let away : index ≢ k = λ same. absurd (both_ways (eqb n 0) is (ap (λ (m : ℕ). eqb (slice_index u.numbers m) 0) same ∙ eq-eqb (slice_index u.numbers k) 0 empty)) in
      let stays : slice_index w.numbers index ≡ n = get_or-set_other u.numbers k index b 0 away in
      let claimed : eqb (slice_index w.numbers index) 0 ≡ false = ap (λ (m : ℕ). eqb m 0) stays ∙ is in
      let all : index_length w index ≡ 4096 = cond-true (is_file u.inode.mode) 4096 _ was.is in
      let m = slice_index w.numbers index in
      let same : take 4096 (others m) ≡ take 4096 (middle m) =
      same_front 4096 (read_length g r m) (others m) (middle m)
      (claims_beside_inode g middle others has.geometry laid_between i writes.within writes.agree i (index_claim i w index) (index_claimed r i w index used_between claimed) refl)
      (omega (arith, all, index_read g r i w index used_between claimed)) in
      subst (λ (c : ℕ). take 4096 (others c) ≡ take 4096 (middle c)) stays same

  pub file_by_pointer : ChangesInode g blocks others i (InUse (used_inode others d))
      (Some (File (with_block (record file { attributes = attributes_of d }) k (Some (take 4096 (others b)))))) after
  file_by_pointer =
      let v = used_inode others d in
      let s = size_in_blocks u.inode.size in
      let same : size_in_blocks d.size ≡ s = ap size_in_blocks size in
      let past = (λ t. are_zeros (drop (same t) (numbers t))) ∙ past_attached u.numbers s k b below right.none_past in
      let needed = (λ t. list_all (λ p. p.block == 0 || nat_lt (first_index p.name) (same t)) (pointers t)) ∙ right.pointers_needed in
      let few : d.size ≤ 4096 * most_blocks g = omega (arith, size, fits) in
      let node : FileNode = record { attributes = attributes_of d; size = file.size; blocks = set file.blocks k (Some (take 4096 (others b))); pointers = file.pointers } in
      let stay = blocks_stay blocks others u (λ index is. and_after index is ∙ whole_blocks index is) in
      let bytes : file_blocks others v ≡ node.blocks =
      blocks_attached others u v k b numbers size below within some
      ∙ ap (λ (l : List (Option (List ℕ))). set l k (Some (take 4096 (others b)))) (stay ∙ ap (λ (f : FileNode). f.blocks) (sym was.same)) in
      record {
        reading = only.reading ∙ ap (with_state (reading_of g blocks) i) state;
        stored = file_stored_with g blocks others i u d (b ∷ []) hands after has.stored has.used only state still
            (one_more_claim i k b u v numbers pointers within empty some) (file_places g v still few past needed) count held;
        tree = file_tree_with g blocks others i u d (b ∷ []) hands after has.stored has.used only state still node bytes
            (same_names others u d pointers ∙ ap (λ (f : FileNode). f.pointers) (sym was.same))
            ∙ ap (λ (n : ℕ). with_node (tree_of g blocks) i (Some (File (record { attributes = attributes_of d; size = n; blocks = node.blocks; pointers = node.pointers }))))
            (size ∙ ap (λ (f : FileNode). f.size) (sym was.same));
      }
