-- The two ways in which a file is cut, from the bytes that are written.
use Rattle.std.proofs.Common.{◌≡◌, ◌<◌, ◌≤◌, ℕ, ◌+◌, ◌-◌, ◌*◌, ◌/◌, eqb, Bool, true, false, not, ◌&&◌, ◌||◌, cond, List, [], ◌∷◌, ◌++◌, length, map, take, drop, replicate, slice_index, Some, refl, sym, ap, ◌∙◌, subst, arith}
use Rattle.std.specs.Prelude.{◌==◌, nat_lt, nat_le}
use Rattle.std.specs.List.{filter, list_all}
use Rattle.std.proofs.lemmas.Bool.{and_from, cond-true, or_left, eq-eqb, le-leb, lt-leb, lt-ltb, or_right}
use Rattle.std.proofs.lemmas.List.{append-nil, append_assoc, length-replicate, take-append-drop, take-append-le}
use Rattle.std.proofs.Math.Seq.{drop-append_seam}
use Rattle.std.proofs.lemmas.List.Folds.{list_all-append}
use Rattle.lufs_base.specs.Fields.{are_zeros}
use Rattle.lufs_base.specs.declared.geometry.Geometry.{Geometry}
use Rattle.volume_model.specs.declared.inode.Dinode.{Dinode}
use Rattle.volume_model.specs.declared.hand.Hand.{Hand}
use Rattle.volume_model.specs.Format.{Blocks, is_file, pointers_of}
use Rattle.volume_model.specs.Sound.{NamedPointer, PointerName, Single, UsedInode, InodeState, InUse, Reading, reading_of, state_at, used_of, used_at, used_inode, inodes_in, named_pointers, numbers_of, pointers_at, AtIndex, AtPointer, Claim, index_claim, pointer_claim, held_blocks, size_in_blocks, first_index, most_blocks, IsLaid, index_length, read_length, FileNode, File, attributes_of, file_blocks, pointer_names}
use Rattle.volume_laws.specs.Changes.{AgreeWhereReadBut, with_state, with_numbers}
use Rattle.volume_laws.proofs.ClaimFacts.{length-inodes, index_claimed}
use Rattle.volume_laws.proofs.ReadLengths.{same_front, index_read}
use Rattle.volume_laws.proofs.FieldFacts.{HasRightFields, fields_of_numbers}
use Rattle.volume_laws.proofs.StoredClaims.{right_numbers, stored_is_laid}
use Rattle.volume_laws.proofs.LessAgreement.{agree_in_metadata_but}
use Rattle.volume_laws.proofs.RecordChanges.{claims_beside_inode}
use Rattle.volume_laws.proofs.BodyChanges.{has_record, other_part}
use Rattle.volume_laws.proofs.TreeClaims.{direct_size}
use Rattle.volume_laws.proofs.NumberChange.{numbers_of_used, numbers_state, its_pointer, without_chunks}
use Rattle.volume_laws.proofs.NodeFacts.{file_is_no_directory}
use Rattle.change_laws.specs.Hands.{HaveTheSame}
use Rattle.change_laws.specs.Exchange.{claimed_blocks, Exchanges}
use Rattle.change_laws.specs.Plans.{HasInode, ChangesInode, OnlyInodeChanges, WritesRecord, HoldMore, blocks_past}
use Rattle.change_laws.proofs.OneInode.{used_changed}
use Rattle.change_laws.proofs.InodeWrites.{written_record, written_block, one_after_another, stored_after, laid_after}
use Rattle.change_laws.proofs.InodeRights.{same_file}
use Rattle.change_laws.proofs.RecordReads.{state_written}
use Rattle.change_laws.proofs.NumberReads.{same_pointers, same_numbers, numbers_without_pointer}
use Rattle.change_laws.proofs.ClaimedBlocks.{claims_one}
use Rattle.change_laws.proofs.NewInodes.{all_zeros}
use Rattle.change_laws.proofs.Extended.{ClaimsMore, HasRightPlaces}
use Rattle.change_laws.proofs.FileNodes.{IsFileOf, file_of_tree}
use Rattle.change_laws.proofs.FilePlaces.{no_chunks, file_places, file_fits, file_tree_with, past_larger}
use Rattle.change_laws.proofs.FileSteps.{same_names}
use Rattle.change_laws.proofs.CutClaims.{zeros_claim_nothing, cut_with_pointer, cut_but_pointer, none_left_past, number_left, blocks_cut, exchange_less, exchange_with_less}

-- a whole block of a file is read
whole_read : (g : Geometry) (blocks others : Blocks) (i index : ℕ) (u : UsedInode) → used_at (reading_of g blocks) i ≡ Some u → is_file u.inode.mode ≡ true
    → eqb (slice_index u.numbers index) 0 ≡ false
    → take (read_length g (reading_of g blocks) (slice_index u.numbers index)) (others (slice_index u.numbers index))
    ≡ take (read_length g (reading_of g blocks) (slice_index u.numbers index)) (blocks (slice_index u.numbers index))
    → take 4096 (others (slice_index u.numbers index)) ≡ take 4096 (blocks (slice_index u.numbers index))
whole_read g blocks others i index u used file some same =
    let r = reading_of g blocks in
    let n = slice_index u.numbers index in
    let all : index_length u index ≡ 4096 = cond-true (is_file u.inode.mode) 4096 _ file in
    same_front 4096 (read_length g r n) (others n) (blocks n) same (omega (arith, all, index_read g r i u index used some))

-- what is cut, once the state is known
module _ (g : Geometry) (blocks others : Blocks) (i s : ℕ) (u : UsedInode) (d : Dinode) (zeros : List ℕ) (file : FileNode) (hands after : List Hand)
    (has : HasInode g blocks hands i u (File file)) (only : OnlyInodeChanges g blocks others i) (state : state_at g others i ≡ InUse (used_inode others d))
    (type : d.mode / 512 ≡ u.inode.mode / 512) (smaller : d.size ≤ u.inode.size) (size : size_in_blocks d.size ≡ s)
    (are : are_zeros zeros ≡ true) (numbers : numbers_of others d ≡ take s u.numbers ++ zeros)
    (less : ClaimsMore i (used_inode others d) u (blocks_past u s)) (count : d.blocks + length (blocks_past u s) ≡ u.inode.blocks)
    (held : HoldMore after hands [] (blocks_past u s))
    (needed : list_all (λ p. p.block == 0 || nat_lt (first_index p.name) (size_in_blocks d.size)) (named_pointers d) ≡ true)
    (bytes : (index : ℕ) → index < s → eqb (slice_index u.numbers index) 0 ≡ false → take 4096 (others (slice_index u.numbers index)) ≡ take 4096 (blocks (slice_index u.numbers index))) where
  abbrev v : UsedInode
  v = used_inode others d

  was : IsFileOf blocks u file
  was = file_of_tree g blocks i u file has.used has.stands

  still : is_file d.mode ≡ true
  still = same_file d.mode u.inode.mode type ∙ was.is

  right : HasRightFields g i u
  right = fields_of_numbers g i u (right_numbers g (reading_of g blocks) i u hands has.stored has.used)

  limit : u.inode.size ≤ 4096 * most_blocks g
  limit = file_fits g u.inode was.is right.size

  fits : s ≤ length u.numbers
  fits = omega (arith, size, smaller, limit, numbers_of_used g blocks i u has.used)

  places : HasRightPlaces g v
  places =
      let past : are_zeros (drop (size_in_blocks d.size) (numbers_of others d)) ≡ true =
      ap (λ (n : ℕ). are_zeros (drop n (numbers_of others d))) size ∙ none_left_past i s u v zeros are numbers fits in
      file_places g v still (omega (arith, smaller, limit)) past needed

  pub file_cut : (names : List PointerName) → pointer_names v ≡ names
      → ChangesInode g blocks others i (InUse v) (Some (File (record { attributes = attributes_of d; size = d.size; blocks = take s file.blocks; pointers = names }))) after
  file_cut names same =
      let exchange = exchange_with_less g (reading_of g blocks) i u v (blocks_past u s) hands after has.stored has.used less held places count (no_chunks others d still) in
      let node : FileNode = record { attributes = attributes_of d; size = d.size; blocks = take s file.blocks; pointers = names } in
      let left : file_blocks others v ≡ take s file.blocks =
      blocks_cut blocks others u v s size (omega (arith, size, smaller)) (number_left i s u v zeros are numbers fits) bytes
      ∙ ap (λ (f : FileNode). take s f.blocks) (sym was.same) in
      record {
        reading = only.reading ∙ ap (with_state (reading_of g blocks) i) state;
        stored = stored_after g blocks others i hands after has.stored only (subst (λ (t : InodeState). Exchanges g (reading_of g blocks) i t hands after) (sym state) exchange);
        tree = file_tree_with g blocks others i u d [] hands after has.stored has.used only state still node left same;
      }

-- by the record alone
module _ (g : Geometry) (blocks others : Blocks) (i s : ℕ) (u : UsedInode) (d : Dinode) (file : FileNode) (hands after : List Hand)
    (has : HasInode g blocks hands i u (File file)) (writes : WritesRecord g blocks others i (Some d)) (type : d.mode / 512 ≡ u.inode.mode / 512)
    (smaller : d.size ≤ u.inode.size) (size : size_in_blocks d.size ≡ s) (low : s ≤ 12) (direct : d.direct ≡ take s u.inode.direct ++ replicate (12 - s) 0)
    (indirect : slice_index d.indirect 0 ≡ 0) (count : d.blocks + length (blocks_past u s) ≡ u.inode.blocks) (held : HoldMore after hands [] (blocks_past u s)) where
  laid_before : IsLaid g (reading_of g blocks)
  laid_before = stored_is_laid g (reading_of g blocks) hands has.stored

  abbrev rest : List ℕ
  rest = replicate (12 - s) 0 ++ (replicate 1024 0 ++ [])

  rest_is_zeros : are_zeros rest ≡ true
  rest_is_zeros =
      list_all-append (λ b. b == 0) (replicate (12 - s) 0) (replicate 1024 0 ++ [])
      ∙ and_from (are_zeros (replicate (12 - s) 0)) (are_zeros (replicate 1024 0 ++ [])) (all_zeros (12 - s)) (ap are_zeros (append-nil (replicate 1024 0)) ∙ all_zeros 1024)

  none : eqb (slice_index d.indirect 0) 0 ≡ true
  none = eq-eqb (slice_index d.indirect 0) 0 indirect

  numbers_cut : numbers_of others d ≡ take s u.numbers ++ rest
  numbers_cut =
      let found = has_record g blocks i u has.used in
      let e = found.dinode in
      let twelve : length e.direct ≡ 12 = direct_size g.version _ e found.there in
      let empty : pointers_at others (slice_index d.indirect 0) ≡ replicate 1024 0 =
      cond-true (eqb (slice_index d.indirect 0) 0) (replicate 1024 0) (pointers_of (others (slice_index d.indirect 0))) none in
      subst (λ (w : UsedInode). d.direct ≡ take s w.inode.direct ++ replicate (12 - s) 0 → numbers_of others d ≡ take s w.numbers ++ rest) found.leads (λ first.
      (λ t. first t ++ (empty t ++ [])) ∙ append_assoc (take s e.direct) (replicate (12 - s) 0) (replicate 1024 0 ++ [])
      ∙ ap (λ (l : List ℕ). l ++ rest) (sym (take-append-le s e.direct (pointers_at blocks (slice_index e.indirect 0) ++ []) (omega (arith, twelve, low))))) direct

  pub cut_in_record : ChangesInode g blocks others i (InUse (used_inode others d)) (Some (File (record { attributes = attributes_of d; size = d.size; blocks = take s file.blocks; pointers = [] }))) after
  cut_in_record =
      let w = used_inode others d in
      let only_record = written_record g blocks others i has.geometry writes.within laid_before writes.agree in
      let claims : filter claims_one (map (λ p. p.block) (named_pointers d)) ≡ [] = ap (λ (t : Bool). cond (not t) (slice_index d.indirect 0 ∷ []) []) none in
      let names : pointer_names w ≡ [] = ap (λ (t : Bool). map (λ (p : NamedPointer). p.name) (cond (not t) (named_pointers d) [])) none in
      let wanted : ((slice_index d.indirect 0 == 0 || nat_lt 12 (size_in_blocks d.size)) && true) ≡ true =
      ap (λ (t : Bool). t && true) (or_left (slice_index d.indirect 0 == 0) (nat_lt 12 (size_in_blocks d.size)) none) in
      let one = (file_of_tree g blocks i u file has.used has.stands).is in
      file_cut g blocks others i s u d rest file hands after has only_record (state_written g blocks others has.geometry laid_before i d writes) type smaller size
      rest_is_zeros numbers_cut (cut_with_pointer i s u w rest rest_is_zeros numbers_cut (le-leb s 12 low) claims) count held wanted
      (λ index less some. whole_read g blocks others i index u has.used one some
      (claims_beside_inode g blocks others has.geometry laid_before i writes.within writes.agree i (index_claim i u index) (index_claimed (reading_of g blocks) i u index has.used some) refl))
      [] names

-- by the record alone, where nothing is claimed past the direct blocks
module _ (g : Geometry) (blocks others : Blocks) (i : ℕ) (u : UsedInode) (d : Dinode) (file : FileNode) (hands : List Hand)
    (has : HasInode g blocks hands i u (File file)) (writes : WritesRecord g blocks others i (Some d)) (type : d.mode / 512 ≡ u.inode.mode / 512)
    (smaller : d.size ≤ u.inode.size) (high : 12 < size_in_blocks d.size) (none : slice_index u.inode.indirect 0 ≡ 0)
    (direct : d.direct ≡ u.inode.direct) (indirect : d.indirect ≡ u.inode.indirect) (count : d.blocks ≡ u.inode.blocks) where
  laid_here : IsLaid g (reading_of g blocks)
  laid_here = stored_is_laid g (reading_of g blocks) hands has.stored

  abbrev end : ℕ
  end = size_in_blocks d.size

  only_zeros : are_zeros (drop end u.numbers) ≡ true
  only_zeros =
      let found = has_record g blocks i u has.used in
      let twelve : length u.inode.direct ≡ 12 = ap (λ (v : UsedInode). length v.inode.direct) (sym found.leads) ∙ direct_size g.version _ found.dinode found.there in
      let after_direct : are_zeros (drop 12 u.numbers) ≡ true =
      ap (λ (l : List ℕ). are_zeros (drop 12 l)) (numbers_without_pointer g blocks i u has.used (eq-eqb (slice_index u.inode.indirect 0) 0 none))
      ∙ ap (λ (m : ℕ). are_zeros (drop m (u.inode.direct ++ (replicate 1024 0 ++ [])))) (sym twelve)
      ∙ ap are_zeros (drop-append_seam u.inode.direct (replicate 1024 0 ++ []) ∙ append-nil (replicate 1024 0)) ∙ all_zeros 1024 in
      past_larger u.numbers 12 end (omega (arith, high)) after_direct

  nothing_past : blocks_past u end ≡ []
  nothing_past =
      ap (λ (t : Bool). filter claims_one (cond t (map (λ q. q.block) u.pointers) [] ++ drop end u.numbers)) (lt-leb end 12 high) ∙ zeros_claim_nothing (drop end u.numbers) only_zeros

  pub shortened : ChangesInode g blocks others i (InUse (used_inode others d)) (Some (File (record file { attributes = attributes_of d; size = d.size; blocks = take end file.blocks }))) hands
  shortened =
      let w = used_inode others d in
      let one : IsFileOf blocks u file = file_of_tree g blocks i u file has.used has.stands in
      let same : numbers_of others d ≡ take end u.numbers ++ drop end u.numbers =
      same_numbers g blocks others has.geometry laid_here i u d has.used writes direct indirect ∙ sym (take-append-drop end u.numbers) in
      let pointers = same_pointers g blocks others has.geometry laid_here i u d has.used writes indirect in
      let less = cut_but_pointer i end u w (drop end u.numbers) only_zeros same (lt-leb end 12 high) pointers in
      let counted : d.blocks + length (blocks_past u end) ≡ u.inode.blocks = omega (arith, count, ap length nothing_past) in
      let held : HoldMore hands hands [] (blocks_past u end) =
      subst (λ (l : List ℕ). HoldMore hands hands [] l) (sym nothing_past) (record { inodes = λ j. refl; blocks = λ b. refl }) in
      let wanted : list_all (λ p. p.block == 0 || nat_lt (first_index p.name) end) (named_pointers d) ≡ true =
      ap (λ (t : Bool). t && true) (or_right (slice_index d.indirect 0 == 0) (nat_lt 12 end) (lt-ltb 12 end high)) in
      let names : pointer_names w ≡ file.pointers = same_names others u d pointers ∙ ap (λ (f : FileNode). f.pointers) (sym one.same) in
      file_cut g blocks others i end u d (drop end u.numbers) file hands hands has (written_record g blocks others i has.geometry writes.within laid_here writes.agree)
      (state_written g blocks others has.geometry laid_here i d writes) type smaller refl only_zeros same less counted held wanted
      (λ index below some. whole_read g blocks others i index u has.used one.is some
      (claims_beside_inode g blocks others has.geometry laid_here i writes.within writes.agree i (index_claim i u index) (index_claimed (reading_of g blocks) i u index has.used some) refl))
      file.pointers names

-- by the pointer block, and then the record
module _ (g : Geometry) (blocks middle others : Blocks) (i j n : ℕ) (u : UsedInode) (d : Dinode) (file : FileNode) (hands after : List Hand)
    (has : HasInode g blocks hands i u (File file)) (has_pointer : eqb (slice_index u.inode.indirect 0) 0 ≡ false) (inside : j + n ≤ 1024)
    (all_past : size_in_blocks u.inode.size ≤ 12 + j + n) (agree : AgreeWhereReadBut g blocks middle (slice_index u.inode.indirect 0) (4 * j) (4 * n))
    (cleared : take n (drop j (pointers_of (middle (slice_index u.inode.indirect 0)))) ≡ replicate n 0)
    (writes : WritesRecord g middle others i (Some d)) (type : d.mode / 512 ≡ u.inode.mode / 512) (smaller : d.size ≤ u.inode.size) (size : size_in_blocks d.size ≡ 12 + j)
    (high : 0 < j) (direct : d.direct ≡ u.inode.direct) (indirect : d.indirect ≡ u.inode.indirect)
    (count : d.blocks + length (blocks_past u (12 + j)) ≡ u.inode.blocks) (held : HoldMore after hands [] (blocks_past u (12 + j))) where
  abbrev k : ℕ
  k = 12 + j

  abbrev left_zeros : List ℕ
  left_zeros = replicate n 0 ++ drop (k + length (replicate {A = ℕ} n 0)) u.numbers

  abbrev w : UsedInode
  w = with_numbers u k (replicate n 0)

  abbrev pointer : Claim
  pointer = pointer_claim i (record { name = Single; block = slice_index u.inode.indirect 0 })

  laid_first : IsLaid g (reading_of g blocks)
  laid_first = stored_is_laid g (reading_of g blocks) hands has.stored

  it_was : IsFileOf blocks u file
  it_was = file_of_tree g blocks i u file has.used has.stands

  its_right : HasRightFields g i u
  its_right = fields_of_numbers g i u (right_numbers g (reading_of g blocks) i u hands has.stored has.used)

  are_left : are_zeros left_zeros ≡ true
  are_left =
      let end = k + length (replicate {A = ℕ} n 0) in
      let past : are_zeros (drop end u.numbers) ≡ true =
      past_larger u.numbers (size_in_blocks u.inode.size) end (omega (arith, all_past, length-replicate {A = ℕ} n 0)) its_right.none_past in
      list_all-append (λ b. b == 0) (replicate n 0) (drop end u.numbers)
      ∙ and_from (are_zeros (replicate n 0)) (are_zeros (drop end u.numbers)) (all_zeros n) past

  above : nat_le k 12 ≡ false
  above = lt-leb k 12 (omega (arith, high))

  first_write : OnlyInodeChanges g blocks middle i
  first_write = written_block g blocks middle pointer (4 * j) (4 * n) has.geometry laid_first (its_pointer g blocks i u has.used has_pointer) agree

  state_first : state_at g middle i ≡ InUse w
  state_first =
      numbers_state g blocks middle has.geometry laid_first i j n u has.used (without_chunks g blocks i j u has.used (file_is_no_directory u.inode.mode it_was.is)) inside has_pointer
      (agree_in_metadata_but g blocks middle (slice_index u.inode.indirect 0) (4 * j) (4 * n) agree)
      ∙ ap (λ (l : List ℕ). InUse (with_numbers u k l)) cleared

  laid_middle : IsLaid g (reading_of g middle)
  laid_middle =
      let less_first = cut_but_pointer i k u w left_zeros are_left refl above refl in
      let exchange = exchange_less g (reading_of g blocks) i u w (blocks_past u k) hands after has.stored has.used less_first held in
      laid_after g blocks middle i hands after has.stored first_write
      (subst (λ (t : InodeState). HaveTheSame (claimed_blocks i (used_at (reading_of g blocks) i) ++ held_blocks hands) (claimed_blocks i (used_of t) ++ held_blocks after))
      (sym state_first) exchange)

  used_middle : used_at (reading_of g middle) i ≡ Some w
  used_middle =
      let within : i < inodes_in (reading_of g blocks) = omega (arith, first_write.within, length-inodes g blocks) in
      ap (λ (r : Reading). used_at r i) first_write.reading ∙ used_changed (reading_of g blocks) i (state_at g middle i) within ∙ ap used_of state_first

  numbers_after_both : numbers_of others d ≡ take k u.numbers ++ left_zeros
  numbers_after_both = same_numbers g middle others has.geometry laid_middle i w d used_middle writes direct indirect

  pointers_after_both : named_pointers d ≡ u.pointers
  pointers_after_both = same_pointers g middle others has.geometry laid_middle i w d used_middle writes indirect

  bytes_left : (index : ℕ) → index < k → eqb (slice_index u.numbers index) 0 ≡ false → take 4096 (others (slice_index u.numbers index)) ≡ take 4096 (blocks (slice_index u.numbers index))
  bytes_left index below some =
      let r = reading_of g blocks in
      let fit : k ≤ length u.numbers = omega (arith, inside, numbers_of_used g blocks i u has.used) in
      let stays : slice_index w.numbers index ≡ slice_index u.numbers index = number_left i k u w left_zeros are_left refl fit index below in
      let claimed : eqb (slice_index w.numbers index) 0 ≡ false = ap (λ (m : ℕ). eqb m 0) stays ∙ some in
      let last : take 4096 (others (slice_index w.numbers index)) ≡ take 4096 (middle (slice_index w.numbers index)) =
      whole_read g middle others i index w used_middle it_was.is claimed
      (claims_beside_inode g middle others has.geometry laid_middle i writes.within writes.agree i (index_claim i w index) (index_claimed (reading_of g middle) i w index used_middle claimed) refl) in
      subst (λ (c : ℕ). take 4096 (others c) ≡ take 4096 (middle c)) stays last
      ∙ whole_read g blocks middle i index u has.used it_was.is some
      (other_part g blocks middle has.geometry laid_first pointer (its_pointer g blocks i u has.used has_pointer) (read_length g r) (4 * j) (4 * n) agree
      (index_claim i u index) (index_claimed r i u index has.used some) (λ same.
      let parts : AtIndex index ≡ AtPointer Single = same in
      cc))

  pub cut_in_pointers : ChangesInode g blocks others i (InUse (used_inode others d)) (Some (File (record file { attributes = attributes_of d; size = d.size; blocks = take k file.blocks }))) after
  cut_in_pointers =
      let x = used_inode others d in
      let only_both = one_after_another g blocks middle others i first_write (written_record g middle others i has.geometry writes.within laid_middle writes.agree) in
      let wanted : list_all (λ p. p.block == 0 || nat_lt (first_index p.name) (size_in_blocks d.size)) (named_pointers d) ≡ true =
      ap (λ (t : Bool). t && true) (or_right (slice_index d.indirect 0 == 0) (nat_lt 12 (size_in_blocks d.size)) (lt-ltb 12 (size_in_blocks d.size) (omega (arith, size, high)))) in
      let names : pointer_names x ≡ file.pointers = same_names others u d pointers_after_both ∙ ap (λ (f : FileNode). f.pointers) (sym it_was.same) in
      file_cut g blocks others i k u d left_zeros file hands after has only_both (state_written g middle others has.geometry laid_middle i d writes) type smaller size
      are_left numbers_after_both (cut_but_pointer i k u x left_zeros are_left numbers_after_both above pointers_after_both) count held wanted bytes_left
      file.pointers names
