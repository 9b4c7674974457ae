-- A directory gets a new block by a pointer block, which it has or gets too.
use Rattle.std.proofs.Common.{◌≡◌, ◌≢◌, ◌<◌, ◌≤◌, ◌⊎◌, inl, ℕ, ◌+◌, ◌*◌, ◌/◌, ◌%◌, ◌^◌, eqb, Bool, true, false, cond, List, [], ◌∷◌, ◌++◌, length, take, drop, set, replicate, slice_index, Option, Some, refl, sym, ap, ◌∙◌, subst, arith}
use Rattle.std.specs.List.{Contains}
use Rattle.std.proofs.lemmas.Bool.{both_ways}
use Rattle.lufs_base.specs.Fields.{u32_at}
use Rattle.lufs_base.specs.declared.geometry.Geometry.{Geometry}
use Rattle.lufs_base.specs.declared.delta.Delta.{Delta}
use Rattle.lufs_base.specs.declared.delta.DeltaKind.TheVariants.{Chunk, Zero, Pointers}
use Rattle.volume_model.specs.declared.hand.Hand.{Hand}
use Rattle.volume_model.specs.declared.inode.Dinode.{Dinode}
use Rattle.volume_model.specs.declared.directory.Slot.{Slot}
use Rattle.volume_model.specs.Format.{Image, Blocks, block, inodes_of, is_body, IsDinode, dinode_bytes, IsChunk, chunk_bytes, chunk_of, numbers_bytes, pointers_of}
use Rattle.volume_model.specs.Sound.{Single, UsedInode, InUse, state_at, used_of, pointers_at, Reading, reading_of, inodes_in, used_inode, NamedPointer, used_at, pointer_claim, claims_of, is_claimed, IsLaid, read_length, DirectoryNode, Node, Directory, attributes_of}
use Rattle.volume_laws.proofs.Members.{Contains_head}
use Rattle.volume_laws.proofs.ClaimFacts.{length-inodes, used_in_volume, used_within, claims_its_block}
use Rattle.volume_laws.proofs.LaidClaims.{body_of_claim}
use Rattle.volume_laws.proofs.StoredClaims.{stored_is_laid}
use Rattle.volume_laws.proofs.UnclaimedBlocks.{nothing_read}
use Rattle.change_laws.specs.Plans.{HasInode, ChangesInode, WritesRecord, GrowsByChunk, HoldMore}
use Rattle.change_laws.proofs.DirectoryGrowth.{CountsChunks, chunks_of_directory}
use Rattle.change_laws.proofs.ByPointer.{by_pointer_reading, by_pointer_stored, by_pointer_tree}
use Rattle.volume_laws.specs.Changes.{AgreeBut, AgreeWhereReadBut, with_number}
use Rattle.volume_laws.proofs.LessAgreement.{agree_in_metadata_but}
use Rattle.volume_laws.proofs.NumberChange.{numbers_state, as_one_number, its_pointer}
use Rattle.volume_laws.proofs.BodyChanges.{HasRecord, has_record}
use Rattle.volume_laws.proofs.Rows.{length-row}
use Rattle.change_laws.proofs.NextBlock.{next_is_empty, next_within}
use Rattle.change_laws.proofs.NumberReads.{pointer_blocks}
use Rattle.change_laws.proofs.OneInode.{used_changed}
use Rattle.dir_blocks.proofs.WrittenSlots.{chunk_read_back_of}
use Rattle.meta_store.specs.declared.change.Change.{Change}
use Rattle.meta_store.proofs.MergedTable.{IsLoggable}
use Rattle.meta_store.specs.Deltas.{inode_delta, chunk_delta, zero_delta, pointers_delta}
use Rattle.meta_draft.specs.Drafted.{drafted_blocks, with_delta}
use Rattle.meta_store.specs.Suited.{suits_claims}
use Rattle.draft_laws.specs.Laying.{with_laid}
use Rattle.draft_laws.specs.Follows.{is_loose}
use Rattle.draft_laws.specs.Drafts.{IsDraft, Draws, MayAttach}
use Rattle.draft_laws.proofs.Continues.{held_free}
use Rattle.draft_laws.proofs.Contents.{AreSized, drafted_sized, sized_with, agree_but, agree_through, away, there, unread}
use Rattle.draft_laws.proofs.RecordDeltas.{inode_loggable, inode_suited, chunk_loggable, zero_loggable, pointers_loggable}
use Rattle.draft_laws.proofs.SuitedParts.{suits_at_index, suits_at_pointer, part_fits}
use Rattle.draft_laws.proofs.InodeDrawn.{drawn_by_many}
use Rattle.draft_laws.proofs.Merging.{all_laid_in}
use Rattle.draft_laws.proofs.Written.{writes_it}
use Rattle.draft_laws.proofs.ChunkStep.{chunk_block, chunk_place}
use Rattle.draft_laws.proofs.NewSteps.{held_by, once_first, beside_records, some_number}
use Rattle.draft_laws.proofs.BlockClaims.{number_here, kept_claims, added_claims}
use Rattle.draft_laws.proofs.PointerRows.{block_fits, one_number_there}
use Rattle.draft_laws.proofs.GrowthDrawn.{MayBeNew, attached, new_in_whole}
use Rattle.draft_laws.proofs.DirectoryGrows.{is_directory_still, keeps, news, gives, no_rest}

module _ (g : Geometry) (base : Image) (taken : ℕ → Bool) (change : Change) (hands after : List Hand) (i j b : ℕ) (u : UsedInode) (d : Dinode) (directory : DirectoryNode) (slots : List Slot)
    (draft : IsDraft g base taken change hands) (has : HasInode g (drafted_blocks change base) hands i u (Directory directory)) (is : IsDinode g.version d) (grows : GrowsByChunk u.inode d)
    (chunk : IsChunk slots) (held : HoldMore hands after [] (b ∷ [])) (may : MayAttach g base taken change b) (direct : d.direct ≡ u.inode.direct) (indirect : d.indirect ≡ u.inode.indirect)
    (count : d.blocks ≡ u.inode.blocks + 1) (has_pointer : eqb (slice_index u.inode.indirect 0) 0 ≡ false) (below : 12 + j < 256) (eight : length directory.chunks ≡ 8 * (12 + j)) where
  abbrev blocks : Blocks
  blocks = drafted_blocks change base

  abbrev r : Reading
  r = reading_of g blocks

  abbrev before : Reading
  before = reading_of g (block base)

  abbrev k : ℕ
  k = 12 + j

  abbrev p : ℕ
  p = slice_index u.inode.indirect 0

  abbrev zeros : Delta
  zeros = zero_delta b

  abbrev first_chunk : Delta
  first_chunk = chunk_delta b 0 (chunk_bytes slots)

  abbrev number : Delta
  number = pointers_delta p j (numbers_bytes (b ∷ []))

  abbrev its_record : Delta
  its_record = inode_delta g i (dinode_bytes (Some d))

  abbrev node : Option Node
  node = Some (Directory (record { attributes = attributes_of d; chunks = directory.chunks ++ slots ∷ [] }))

  abbrev cleared : Blocks
  cleared = with_laid blocks zeros

  abbrev filled : Blocks
  filled = with_laid cleared first_chunk

  abbrev middle : Blocks
  middle = with_laid filled number

  abbrev others : Blocks
  others = with_laid middle its_record

  abbrev v : UsedInode
  v = used_inode others d

  r_laid : IsLaid g r
  r_laid = stored_is_laid g r hands has.stored

  counts : CountsChunks u directory
  counts = chunks_of_directory g blocks i u directory hands has.stored has.used has.stands

  inside : i < inodes_in r
  inside = used_within r i u has.used

  within : i < inodes_of g
  within = omega (arith, inside, length-inodes g blocks)

  sized : AreSized g blocks
  sized = drafted_sized g base change draft.room draft.recorded.raw

  free_block : (is_body g b ≡ true) × (is_claimed r b ≡ false)
  free_block = held_free g r hands has.stored b (held_by hands after [] (b ∷ []) b held (once_first b []))

  nothing : read_length g r b ≡ 0
  nothing = nothing_read g r b free_block.0 free_block.1

  small : b < 2 ^ 32
  small = block_fits g b has.geometry free_block.0

  pointer_there : Contains (claims_of r) (pointer_claim i (record { name = Single; block = p }))
  pointer_there = its_pointer g blocks i u has.used has_pointer

  pointer_body : is_body g p ≡ true
  pointer_body = body_of_claim g r r_laid (pointer_claim i (record { name = Single; block = p })) pointer_there

  pointer_apart : b ≢ p
  pointer_apart = λ same. both_ways (is_claimed r b) free_block.1 (ap (is_claimed r) same ∙ claims_its_block r (pointer_claim i (record { name = Single; block = p })) pointer_there)

  low : 0 < 8
  low = omega arith

  zeros_own : IsLoggable g zeros
  zeros_own = zero_loggable g b free_block.0

  chunk_own : IsLoggable g first_chunk
  chunk_own = chunk_loggable g b 0 slots free_block.0 low chunk

  number_own : IsLoggable g number
  number_own = pointers_loggable g p j (b ∷ []) pointer_body (omega arith) (omega (arith, below))

  record_own : IsLoggable g its_record
  record_own = inode_loggable g i (Some d) draft.geometry within is

  cleared_sized : AreSized g cleared
  cleared_sized = sized_with g blocks zeros sized zeros_own refl

  filled_sized : AreSized g filled
  filled_sized = sized_with g cleared first_chunk cleared_sized chunk_own refl

  middle_sized : AreSized g middle
  middle_sized = sized_with g filled number filled_sized number_own refl

  at : (4096 * b) / 4096 ≡ b
  at = omega arith

  pointer_at : (4096 * p + 4 * j) / 4096 ≡ p
  pointer_at = omega (arith, below)

  pointer_place : (4096 * p + 4 * j) % 4096 ≡ 4 * j
  pointer_place = omega (arith, below)

  four : length (numbers_bytes (b ∷ [])) ≡ 4
  four = length-row (b ∷ [])

  unread_now : (c : ℕ) → take (read_length g r c) (filled c) ≡ take (read_length g r c) (blocks c)
  unread_now c =
      let lengths = read_length g r in
      unread g cleared first_chunk cleared_sized chunk_own refl lengths (ap lengths (chunk_block b 0 low) ∙ nothing) c
      ∙ unread g blocks zeros sized zeros_own refl lengths (ap lengths at ∙ nothing) c

  agree : AgreeWhereReadBut g blocks middle p (4 * j) 4
  agree =
      let lengths = read_length g r in
      let there_now = agree_through lengths blocks filled middle ((4096 * p + 4 * j) / 4096) ((4096 * p + 4 * j) % 4096) (length (numbers_bytes (b ∷ []))) unread_now (agree_but g filled number filled_sized number_own refl lengths) in
      subst (λ (n : ℕ). AgreeBut lengths blocks middle p (4 * j) n) four
      (subst (λ (q : ℕ). AgreeBut lengths blocks middle p q (length (numbers_bytes (b ∷ [])))) pointer_place
      (subst (λ (c : ℕ). AgreeBut lengths blocks middle c ((4096 * p + 4 * j) % 4096) (length (numbers_bytes (b ∷ [])))) pointer_at there_now))

  number_is : u32_at (middle p) (4 * j) ≡ b
  number_is =
      one_number_there b j (middle p) small
      ((λ t. take (sym four t) (drop (sym pointer_place t) (middle (sym pointer_at t)))) ∙ there g filled number filled_sized number_own refl)

  writes : WritesRecord g middle others i (Some d)
  writes = writes_it g middle i (Some d) draft.geometry within is middle_sized

  first_bytes : chunk_of (take 512 (others b)) ≡ Some slots
  first_bytes =
      let kept : others b ≡ filled b =
      away g middle its_record middle_sized record_own refl b (beside_records g b i draft.geometry free_block.0 within)
      ∙ away g filled number filled_sized number_own refl b (λ same. pointer_apart (same ∙ pointer_at)) in
      let bytes : take 512 (filled b) ≡ chunk_bytes slots =
      (λ t. take 512 (drop (sym (chunk_place b 0 low) t) (filled (sym (chunk_block b 0 low) t)))) ∙ there g cleared first_chunk cleared_sized chunk_own refl in
      ap (λ (l : List ℕ). chunk_of (take 512 l)) kept ∙ ap chunk_of bytes ∙ chunk_read_back_of slots chunk

  changes : ChangesInode g blocks others i (InUse v) node after
  changes = record {
    reading = by_pointer_reading g blocks middle others i j b u d directory slots hands after has.geometry has.stored has.used has.stands agree number_is writes grows direct indirect count has_pointer below eight held first_bytes;
    stored = by_pointer_stored g blocks middle others i j b u d directory slots hands after has.geometry has.stored has.used has.stands agree number_is writes grows direct indirect count has_pointer below eight held first_bytes;
    tree = by_pointer_tree g blocks middle others i j b u d directory slots hands after has.geometry has.stored has.used has.stands agree number_is writes grows direct indirect count has_pointer below eight held first_bytes;
  }

  -- its numbers after the one in the pointer block is written
  between : HasRecord g middle i (with_number u k b)
  between =
      let past : length u.chunks ≤ 8 * (12 + j) = omega (arith, counts.count, eight) in
      let state : state_at g middle i ≡ InUse (with_number u k b) =
      numbers_state g blocks middle has.geometry r_laid i j 1 u has.used past (omega (arith, below)) has_pointer (agree_in_metadata_but g blocks middle p (4 * j) 4 agree)
      ∙ ap (λ (x : UsedInode). InUse x) (as_one_number g blocks i j u (middle p) has.used (omega (arith, below)) ∙ ap (with_number u k) number_is) in
      has_record g middle i (with_number u k b) (used_in_volume g middle i within ∙ ap used_of state)

  numbers : v.numbers ≡ set u.numbers k b
  numbers =
      let e = between.dinode in
      let same : e ≡ u.inode = ap (λ (x : UsedInode). x.inode) between.leads in
      let pointer_kept : others p ≡ middle p = away g middle its_record middle_sized record_own refl p (beside_records g p i draft.geometry pointer_body within) in
      let rows : pointers_at others p ≡ pointers_at middle p = ap (λ (l : List ℕ). cond (eqb p 0) (replicate 1024 0) (pointers_of l)) pointer_kept in
      let its : slice_index d.indirect 0 ≡ p = ap (λ (l : List ℕ). slice_index l 0) indirect in
      let old : slice_index e.indirect 0 ≡ p = ap (λ (x : Dinode). slice_index x.indirect 0) same in
      let fronts : d.direct ≡ e.direct = direct ∙ ap (λ (x : Dinode). x.direct) (sym same) in
      let tails : pointers_at others (slice_index d.indirect 0) ≡ pointers_at middle (slice_index e.indirect 0) = ap (pointers_at others) its ∙ rows ∙ ap (pointers_at middle) (sym old) in
      (λ t. fronts t ++ (tails t ++ [])) ∙ ap (λ (x : UsedInode). x.numbers) between.leads

  pub block_added_by_pointer : Draws g base taken change (with_delta (with_delta (with_delta (with_delta change zeros) first_chunk) number) its_record) i node (Some d.links) after
  block_added_by_pointer =
      let was = pointer_blocks g blocks i u has.used in
      let pointers : v.pointers ≡ u.pointers = (λ t. record { name = Single; block = slice_index (indirect t) 0 } ∷ []) ∙ sym was in
      let empty = next_is_empty g blocks i k u directory hands has.stored has.used has.stands eight in
      let fits_numbers = next_within g blocks i k u directory hands has.stored has.used has.stands eight below in
      let more : List Delta = zeros ∷ first_chunk ∷ number ∷ its_record ∷ [] in
      let may_be : MayBeNew g base taken change more b = (may, Contains_head zeros (first_chunk ∷ number ∷ its_record ∷ [])) in
      let old_pointers = λ (q : NamedPointer) (here : Contains u.pointers q) (some : eqb q.block 0 ≡ false). subst (λ (l : List NamedPointer). Contains l q) (sym pointers) here in
      let new_pointers : (q : NamedPointer) → Contains v.pointers q → eqb q.block 0 ≡ false → Contains u.pointers q ⊎ MayBeNew g base taken change more q.block =
      λ q here some. inl (subst (λ (l : List NamedPointer). Contains l q) pointers here) in
      let kept_then = kept_claims (MayBeNew g base taken change more) i k b u v numbers empty fits_numbers may_be old_pointers new_pointers in
      let added_all = added_claims (MayBeNew g base taken change more) i k b u v numbers empty fits_numbers may_be old_pointers new_pointers in
      let added = attached g base taken change more i u v added_all in
      let its_number = number_here (MayBeNew g base taken change more) i k b u v numbers empty fits_numbers may_be old_pointers new_pointers in
      let s = reading_of g others in
      let used : used_at s i ≡ Some v = ap (λ (x : Reading). used_at x i) changes.reading ∙ used_changed r i (InUse v) inside in
      let directory_now = is_directory_still g base taken change hands after others i u d directory has grows kept_then added in
      let some = some_number g (slice_index v.numbers k) b draft.geometry free_block.0 its_number in
      let zeros_fit : suits_claims s Zero ((4096 * b) / 4096) ≡ true = ap (suits_claims s Zero) (at ∙ sym its_number) ∙ suits_at_index s i v k Zero used some directory_now in
      let chunk_fits : suits_claims s Chunk ((4096 * b + 512 * 0) / 4096) ≡ true = ap (suits_claims s Chunk) (chunk_block b 0 low ∙ sym its_number) ∙ suits_at_index s i v k Chunk used some directory_now in
      let pointer : NamedPointer = record { name = Single; block = p } in
      let pointer_here : Contains v.pointers pointer = subst (λ (l : List NamedPointer). Contains l pointer) (sym (pointers ∙ was)) (Contains_head pointer []) in
      let number_fits : suits_claims s Pointers ((4096 * p + 4 * j) / 4096) ≡ true = ap (suits_claims s Pointers) pointer_at ∙ suits_at_pointer s i v pointer Pointers used pointer_here has_pointer refl in
      drawn_by_many g base taken change hands after others i (InUse v) node draft inside changes
      (keeps g base taken change hands after others i u d directory has grows kept_then added before)
      (news g base taken change hands after others i u d directory has grows kept_then added)
      more refl (
        record { own = zeros_own; lays = refl; fitting = zeros_fit },
        (
          record { own = chunk_own; lays = refl; fitting = chunk_fits },
          (
            record { own = number_own; lays = refl; fitting = number_fits },
            (record { own = record_own; lays = refl; fitting = inode_suited g i (Some d) draft.geometry within is s }, tt),
          ),
        ),
      )
      (λ many. gives g base taken change hands after others i u d directory has grows kept_then added (all_laid_in change.deltas more)
      (λ claim mine free place under. new_in_whole g base taken change more s (is_loose before after) i u v r has.used many added_all claim mine free place under)
      (λ claim mine part rest place from high. absurd (no_rest g base taken change hands after others i u d directory has grows kept_then added k eight rest))
      (λ claim mine. part_fits g others after changes.stored i v claim used mine))
