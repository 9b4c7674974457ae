-- A directory gets one chunk more, by the deltas of that chunk, of a new block, of pointers to it, and of its record.
use Rattle.std.proofs.Common.{◌≡◌, ◌≢◌, ◌<◌, ◌⊎◌, inl, inr, ℕ, ◌+◌, ◌-◌, ◌*◌, ◌/◌, ◌%◌, min, eqb, Bool, true, false, not, List, [], ◌∷◌, ◌++◌, length, map, take, drop, slice_index, Option, Some, refl, sym, ap, ◌∙◌, subst, arith}
use Rattle.std.specs.Prelude.{slice_set}
use Rattle.std.specs.List.{Contains, filter}
use Rattle.std.specs.Option.{option_map_or}
use Rattle.std.proofs.lemmas.Bool.{cond-true, cond-false, both_ways}
use Rattle.lufs_base.specs.declared.geometry.Geometry.{Geometry}
use Rattle.lufs_base.specs.declared.delta.Delta.{Delta}
use Rattle.lufs_base.specs.declared.delta.DeltaKind.TheVariants.{Chunk, Zero}
use Rattle.volume_model.specs.declared.hand.Hand.{Hand}
use Rattle.volume_model.specs.declared.inode.Dinode.{Dinode}
use Rattle.volume_model.specs.declared.directory.Slot.{Slot}
use Rattle.volume_model.specs.Format.{Image, Blocks, block, inodes_of, is_body, is_directory, IsDinode, dinode_bytes, IsChunk, chunk_bytes, chunk_of}
use Rattle.volume_model.specs.Sound.{UsedInode, InUse, Reading, reading_of, inodes_in, used_inode, NamedPointer, used_at, Claim, index_claim, index_claims, pointer_claim, claims_in, is_claimed, IsLaid, chunk_at, index_length, read_length, DirectoryNode, Node, Directory, attributes_of}
use Rattle.volume_laws.proofs.Members.{Contains_head}
use Rattle.volume_laws.proofs.ClaimFacts.{length-inodes, used_within, claimed_in, claims_its_block, index_claimed}
use Rattle.volume_laws.proofs.LaidClaims.{length_of_claim, body_of_claim}
use Rattle.volume_laws.proofs.FieldFacts.{fields_of_numbers}
use Rattle.volume_laws.proofs.StoredClaims.{right_numbers, stored_is_laid}
use Rattle.volume_laws.proofs.SameReading.{not_file}
use Rattle.volume_laws.proofs.UnclaimedBlocks.{nothing_read}
use Rattle.change_laws.specs.Plans.{HasInode, ChangesInode, GrowsByChunk, HoldMore}
use Rattle.change_laws.proofs.DirectoryGrowth.{CountsChunks, chunks_of_directory}
use Rattle.change_laws.proofs.GrowthSteps.{written_reading, size_stored, size_tree}
use Rattle.change_laws.proofs.DirectBlock.{direct_stored, direct_tree}
use Rattle.change_laws.proofs.NextBlock.{next_is_empty, next_within}
use Rattle.change_laws.proofs.NumberReads.{same_pointers, same_numbers, numbers_with_direct}
use Rattle.change_laws.proofs.ChunkSteps.{number_there}
use Rattle.change_laws.proofs.OneInode.{used_changed}
use Rattle.dir_blocks.proofs.WrittenSlots.{chunk_read_back_of}
use Rattle.meta_store.specs.declared.change.Change.{Change}
use Rattle.meta_store.specs.Conditions.{is_given}
use Rattle.meta_store.specs.Deltas.{inode_delta, chunk_delta, zero_delta}
use Rattle.meta_draft.specs.Drafted.{drafted_blocks, with_delta}
use Rattle.meta_store.specs.Merged.{merged}
use Rattle.meta_store.specs.Suited.{suits_claims}
use Rattle.draft_laws.specs.Laying.{with_laid}
use Rattle.draft_laws.specs.Follows.{is_loose}
use Rattle.draft_laws.specs.Drafts.{IsDraft, Draws, MayAttach}
use Rattle.draft_laws.proofs.MetadataLengths.{placed_claim}
use Rattle.draft_laws.proofs.Continues.{held_free}
use Rattle.draft_laws.proofs.Contents.{AreSized, drafted_sized, sized_with, away, there, unread, unread_past}
use Rattle.draft_laws.proofs.RecordDeltas.{inode_loggable, inode_suited, chunk_loggable, zero_loggable}
use Rattle.draft_laws.proofs.SuitedParts.{suits_at_index, part_fits}
use Rattle.draft_laws.proofs.InodeDrawn.{step_laid, first_fit, drawn, drawn_by_many}
use Rattle.draft_laws.proofs.Merging.{one_more, all_laid_in, ManyMore}
use Rattle.draft_laws.proofs.Written.{writes_over}
use Rattle.draft_laws.proofs.ChunkStep.{chunk_block, chunk_place}
use Rattle.draft_laws.proofs.NewSteps.{held_by, once_first, beside_records, some_number}
use Rattle.draft_laws.proofs.BlockClaims.{number_here, kept_claims, added_claims}
use Rattle.draft_laws.proofs.DirectoryGrows.{is_directory_still, keeps, news, gives, no_rest}

-- a new block, which a zero block gives in whole
abbrev pub MayBeNew : (g : Geometry) (base : Image) (taken : ℕ → Bool) (change : Change) → List Delta → ℕ → Type 0
MayBeNew g base taken change more c = MayAttach g base taken change c × Contains more (zero_delta c)

pub attached : (g : Geometry) (base : Image) (taken : ℕ → Bool) (change : Change) (more : List Delta) (i : ℕ) (u v : UsedInode)
    → ((claim : Claim) → Contains (claims_in i v) claim → Contains (claims_in i u) claim ⊎ MayBeNew g base taken change more claim.block)
    → (claim : Claim) → Contains (claims_in i v) claim → Contains (claims_in i u) claim ⊎ MayAttach g base taken change claim.block
attached g base taken change more i u v all claim mine = elim (all claim mine) [ inl old ↦ inl old | inr new ↦ inr new.0 ]

pub given_in_whole : (g : Geometry) (base : Image) (change : Change) (more : List Delta) (s : Reading) (loose : ℕ → Bool) (c place : ℕ) → ManyMore g base s loose change more → Contains more (zero_delta c) → place < 4096
    → is_given (all_laid_in change.deltas more) c place ≡ true
given_in_whole g base change more s loose c place many here low =
    let at : (4096 * c) / 4096 ≡ c = omega arith in
    subst (λ (b : ℕ). is_given (all_laid_in change.deltas more) b place ≡ true) at (many.new (zero_delta c) here place (omega arith) (omega (arith, low)) low)

pub new_in_whole : (g : Geometry) (base : Image) (taken : ℕ → Bool) (change : Change) (more : List Delta) (s : Reading) (loose : ℕ → Bool) (i : ℕ) (u v : UsedInode) (r : Reading) → used_at r i ≡ Some u
    → ManyMore g base s loose change more → ((claim : Claim) → Contains (claims_in i v) claim → Contains (claims_in i u) claim ⊎ MayBeNew g base taken change more claim.block)
    → (claim : Claim) → Contains (claims_in i v) claim → is_claimed r claim.block ≡ false → (place : ℕ) → place < 4096 → is_given (all_laid_in change.deltas more) claim.block place ≡ true
new_in_whole g base taken change more s loose i u v r used many all claim mine free place low = elim (all claim mine) [
  | inl old ↦ absurd (both_ways (is_claimed r claim.block) free (claims_its_block r claim (claimed_in r i u claim used old)))
  | inr new ↦ given_in_whole g base change more s loose claim.block place many new.1 low
]

-- as many bytes of the last block are read as it has chunks
read_to_here : (g : Geometry) (r : Reading) (i : ℕ) (u : UsedInode) (n : ℕ) → IsLaid g r → used_at r i ≡ Some u → is_directory u.inode.mode ≡ true → length u.chunks ≡ n → n % 8 ≢ 0
    → eqb (slice_index u.numbers (n / 8)) 0 ≡ false → read_length g r (slice_index u.numbers (n / 8)) ≡ 512 * (n % 8)
read_to_here g r i u n laid used directory count rest some =
    let index = n / 8 in
    let plain = not_file u.inode.mode directory in
    let is : index_length u index ≡ 512 * min 8 (length u.chunks - 8 * index) = cond-false _ 4096 _ plain ∙ cond-true (is_directory u.inode.mode) (512 * min 8 (length u.chunks - 8 * index)) _ directory in
    length_of_claim g r laid (index_claim i u index) (index_claimed r i u index used some)
    ∙ ap (λ (o : Option UsedInode). option_map_or (λ u. index_length u index) o 0) used
    ∙ is ∙ (let size : 512 * min 8 (length u.chunks - 8 * index) ≡ 512 * (n % 8) = omega (arith, count) in size)

-- the last block of a directory, if it isn't full
last_number : (g : Geometry) (blocks : Blocks) (hands : List Hand) (i : ℕ) (u : UsedInode) (directory : DirectoryNode) → HasInode g blocks hands i u (Directory directory) → length directory.chunks % 8 ≢ 0
    → eqb (slice_index u.numbers (length directory.chunks / 8)) 0 ≡ false
last_number g blocks hands i u directory has rest =
    let counts = chunks_of_directory g blocks i u directory hands has.stored has.used has.stands in
    let right = fields_of_numbers g i u (right_numbers g (reading_of g blocks) i u hands has.stored has.used) in
    number_there g i u right (not_file u.inode.mode counts.is) (length directory.chunks / 8) (omega (arith, counts.size, rest))

module _ (g : Geometry) (base : Image) (taken : ℕ → Bool) (change : Change) (hands : List Hand) (i : ℕ) (u : UsedInode) (d : Dinode) (directory : DirectoryNode) (slots : List Slot)
    (draft : IsDraft g base taken change hands) (has : HasInode g (drafted_blocks change base) hands i u (Directory directory)) (is : IsDinode g.version d) (grows : GrowsByChunk u.inode d)
    (chunk : IsChunk slots) where
  abbrev blocks : Blocks
  blocks = drafted_blocks change base

  abbrev r : Reading
  r = reading_of g blocks

  abbrev before : Reading
  before = reading_of g (block base)

  abbrev n : ℕ
  n = length directory.chunks

  abbrev its_record : Delta
  its_record = inode_delta g i (dinode_bytes (Some d))

  abbrev node : Option Node
  node = Some (Directory (record { attributes = attributes_of d; chunks = directory.chunks ++ slots ∷ [] }))

  r_laid : IsLaid g r
  r_laid = stored_is_laid g r hands has.stored

  counts : CountsChunks u directory
  counts = chunks_of_directory g blocks i u directory hands has.stored has.used has.stands

  inside : i < inodes_in r
  inside = used_within r i u has.used

  within : i < inodes_of g
  within = omega (arith, inside, length-inodes g blocks)

  sized : AreSized g blocks
  sized = drafted_sized g base change draft.room draft.recorded.raw

  -- in the last block
  module _ (direct : d.direct ≡ u.inode.direct) (indirect : d.indirect ≡ u.inode.indirect) (count : d.blocks ≡ u.inode.blocks) (rest : n % 8 ≢ 0) where
    abbrev b : ℕ
    b = slice_index u.numbers (n / 8)

    abbrev next_chunk : Delta
    next_chunk = chunk_delta b (n % 8) (chunk_bytes slots)

    pub chunk_added : Draws g base taken change (with_delta (with_delta change next_chunk) its_record) i node (Some d.links) hands
    chunk_added =
        let low : n % 8 < 8 = omega arith in
        let some = last_number g blocks hands i u directory has rest in
        let body = body_of_claim g r r_laid (index_claim i u (n / 8)) (index_claimed r i u (n / 8) has.used some) in
        let chunk_own = chunk_loggable g b (n % 8) slots body low chunk in
        let record_own = inode_loggable g i (Some d) draft.geometry within is in
        let filled = with_laid blocks next_chunk in
        let others = with_laid filled its_record in
        let v : UsedInode = used_inode others d in
        let filled_sized = sized_with g blocks next_chunk sized chunk_own refl in
        let at = chunk_block b (n % 8) low in
        let place_is = chunk_place b (n % 8) low in
        let lengths = read_length g r in
        let read_of = read_to_here g r i u n r_laid has.used counts.is counts.count rest some in
        let unread_now = unread_past g blocks next_chunk sized chunk_own refl lengths (omega (arith, ap lengths at, read_of, place_is)) in
        let writes = writes_over g blocks filled i (Some d) draft.geometry within is filled_sized unread_now in
        let kept : others b ≡ filled b = away g filled its_record filled_sized record_own refl b (beside_records g b i draft.geometry body within) in
        let bytes : take 512 (drop (512 * (n % 8)) (filled b)) ≡ chunk_bytes slots =
        (λ t. take 512 (drop (sym place_is t) (filled (sym at t)))) ∙ there g blocks next_chunk sized chunk_own refl in
        let read : chunk_at others u.numbers n ≡ Some slots =
        ap (λ (l : List ℕ). chunk_of (take 512 (drop (512 * (n % 8)) l))) (cond-false (eqb b 0) [] (others b) some ∙ kept) ∙ ap chunk_of bytes ∙ chunk_read_back_of slots chunk in
        let changes : ChangesInode g blocks others i (InUse v) node hands = record {
          reading = written_reading g blocks others i u d directory slots hands has.geometry has.stored has.used has.stands writes grows;
          stored = size_stored g blocks others i u d directory slots hands has.geometry has.stored has.used has.stands writes grows direct indirect count rest read;
          tree = size_tree g blocks others i u d directory slots hands has.geometry has.stored has.used has.stands writes grows direct indirect count rest read;
        } in
        let numbers = same_numbers g blocks others has.geometry r_laid i u d has.used writes direct indirect in
        let pointers = same_pointers g blocks others has.geometry r_laid i u d has.used writes indirect in
        let claims : claims_in i v ≡ claims_in i u = λ t. filter (λ claim. not (eqb claim.block 0)) (map (pointer_claim i) (pointers t) ++ index_claims i 0 (numbers t)) in
        let kept_claims = λ (claim : Claim) (mine : Contains (claims_in i u) claim). subst (λ (l : List Claim). Contains l claim) (sym claims) mine in
        let back = λ (claim : Claim) (mine : Contains (claims_in i v) claim). subst (λ (l : List Claim). Contains l claim) claims mine in
        let added : (claim : Claim) → Contains (claims_in i v) claim → Contains (claims_in i u) claim ⊎ MayAttach g base taken change claim.block = λ claim mine. inl (back claim mine) in
        let keep = keeps g base taken change hands hands others i u d directory has grows kept_claims added before in
        let new = news g base taken change hands hands others i u d directory has grows kept_claims added in
        let s = reading_of g others in
        let loose = is_loose before hands in
        let laid = step_laid g base taken change hands hands others i (InUse v) node draft inside changes keep new in
        let fit = first_fit g base taken change hands hands others i (InUse v) node draft inside changes keep new in
        let used : used_at s i ≡ Some v = ap (λ (x : Reading). used_at x i) changes.reading ∙ used_changed r i (InUse v) inside in
        let number : slice_index v.numbers (n / 8) ≡ b = ap (λ (l : List ℕ). slice_index l (n / 8)) numbers in
        let directory_now = is_directory_still g base taken change hands hands others i u d directory has grows kept_claims added in
        let fitting : suits_claims s Chunk ((4096 * b + 512 * (n % 8)) / 4096) ≡ true =
        ap (suits_claims s Chunk) (at ∙ sym number) ∙ suits_at_index s i v (n / 8) Chunk used (ap (λ (m : ℕ). eqb m 0) number ∙ some) directory_now in
        let m1 = one_more g base s loose change next_chunk draft.room laid fit chunk_own refl fitting in
        let c1 = with_delta change next_chunk in
        let m2 = one_more g base s loose c1 its_record draft.room laid m1.next record_own refl (inode_suited g i (Some d) draft.geometry within is s) in
        let same = m2.laid ∙ ap (λ (x : Blocks). with_laid x its_record) m1.laid in
        let deltas = merged (merged change.deltas next_chunk) its_record in
        let still = λ (c place : ℕ) (below : place < 4096) (given : is_given change.deltas c place ≡ true). m2.still c place below (m1.still c place below given) in
        let give = gives g base taken change hands hands others i u d directory has grows kept_claims added deltas
        (λ claim mine free place below. absurd (both_ways (is_claimed r claim.block) free (claims_its_block r claim (claimed_in r i u claim has.used (back claim mine)))))
        (λ claim mine part rest place from below.
        let its : claim.block ≡ b = (placed_claim i u claim mine).numbered (n / 8) part in
        let small : place < 4096 = omega (arith, below, low) in
        let given : is_given (merged change.deltas next_chunk) ((4096 * b + 512 * (n % 8)) / 4096) place ≡ true = m1.new place (omega (arith, from, place_is)) (omega (arith, below, place_is)) small in
        subst (λ (c : ℕ). is_given deltas c place ≡ true) (sym its)
        (m2.still b place small (subst (λ (c : ℕ). is_given (merged change.deltas next_chunk) c place ≡ true) at given)))
        (λ claim mine. part_fits g others hands changes.stored i v claim used mine) in
        drawn g base taken change hands hands others i (InUse v) node draft inside changes keep new deltas m2.next same still give

  -- in a new block, which is given in whole
  module _ (k b : ℕ) (after : List Hand) (held : HoldMore hands after [] (b ∷ [])) (may : MayAttach g base taken change b) (eight : n ≡ 8 * k) where
    abbrev zeros : Delta
    zeros = zero_delta b

    abbrev first_chunk : Delta
    first_chunk = chunk_delta b 0 (chunk_bytes slots)

    free_block : (is_body g b ≡ true) × (is_claimed r b ≡ false)
    free_block = held_free g r hands has.stored b (held_by hands after [] (b ∷ []) b held (once_first b []))

    nothing : read_length g r b ≡ 0
    nothing = nothing_read g r b free_block.0 free_block.1

    module _ (direct : d.direct ≡ slice_set u.inode.direct k b) (indirect : d.indirect ≡ u.inode.indirect) (count : d.blocks ≡ u.inode.blocks + 1) (below : k < 12) where
      pub block_added : Draws g base taken change (with_delta (with_delta (with_delta change zeros) first_chunk) its_record) i node (Some d.links) after
      block_added =
          let low : 0 < 8 = omega arith in
          let zeros_own = zero_loggable g b free_block.0 in
          let chunk_own = chunk_loggable g b 0 slots free_block.0 low chunk in
          let record_own = inode_loggable g i (Some d) draft.geometry within is in
          let cleared = with_laid blocks zeros in
          let filled = with_laid cleared first_chunk in
          let others = with_laid filled its_record in
          let v : UsedInode = used_inode others d in
          let cleared_sized = sized_with g blocks zeros sized zeros_own refl in
          let filled_sized = sized_with g cleared first_chunk cleared_sized chunk_own refl in
          let at : (4096 * b) / 4096 ≡ b = omega arith in
          let chunk_at_block = chunk_block b 0 low in
          let chunk_at_place = chunk_place b 0 low in
          let lengths = read_length g r in
          let unread_now : (c : ℕ) → take (lengths c) (filled c) ≡ take (lengths c) (blocks c) = λ c.
          unread g cleared first_chunk cleared_sized chunk_own refl lengths (ap lengths chunk_at_block ∙ nothing) c
          ∙ unread g blocks zeros sized zeros_own refl lengths (ap lengths at ∙ nothing) c in
          let writes = writes_over g blocks filled i (Some d) draft.geometry within is filled_sized unread_now in
          let kept : others b ≡ filled b = away g filled its_record filled_sized record_own refl b (beside_records g b i draft.geometry free_block.0 within) in
          let bytes : take 512 (filled b) ≡ chunk_bytes slots =
          (λ t. take 512 (drop (sym chunk_at_place t) (filled (sym chunk_at_block t)))) ∙ there g cleared first_chunk cleared_sized chunk_own refl in
          let read : chunk_of (take 512 (others b)) ≡ Some slots = ap (λ (l : List ℕ). chunk_of (take 512 l)) kept ∙ ap chunk_of bytes ∙ chunk_read_back_of slots chunk in
          let changes : ChangesInode g blocks others i (InUse v) node after = record {
            reading = written_reading g blocks others i u d directory slots hands has.geometry has.stored has.used has.stands writes grows;
            stored = direct_stored g blocks others i k b u d directory slots hands after has.geometry has.stored has.used has.stands writes grows direct indirect count below eight held read;
            tree = direct_tree g blocks others i k b u d directory slots hands after has.geometry has.stored has.used has.stands writes grows direct indirect count below eight held read;
          } in
          let numbers = numbers_with_direct g blocks others has.geometry r_laid i u d has.used writes k b below direct indirect in
          let pointers = same_pointers g blocks others has.geometry r_laid i u d has.used writes indirect in
          let empty = next_is_empty g blocks i k u directory hands has.stored has.used has.stands eight in
          let fits_numbers = next_within g blocks i k u directory hands has.stored has.used has.stands eight (omega (arith, below)) in
          let more : List Delta = zeros ∷ first_chunk ∷ its_record ∷ [] in
          let may_be : MayBeNew g base taken change more b = (may, Contains_head zeros (first_chunk ∷ its_record ∷ [])) in
          let old_pointers = λ (p : NamedPointer) (here : Contains u.pointers p) (some : eqb p.block 0 ≡ false). subst (λ (l : List NamedPointer). Contains l p) (sym pointers) here in
          let new_pointers : (p : NamedPointer) → Contains v.pointers p → eqb p.block 0 ≡ false → Contains u.pointers p ⊎ MayBeNew g base taken change more p.block =
          λ p here some. inl (subst (λ (l : List NamedPointer). Contains l p) pointers here) in
          let kept_then = kept_claims (MayBeNew g base taken change more) i k b u v numbers empty fits_numbers may_be old_pointers new_pointers in
          let added_all = added_claims (MayBeNew g base taken change more) i k b u v numbers empty fits_numbers may_be old_pointers new_pointers in
          let added = attached g base taken change more i u v added_all in
          let number = number_here (MayBeNew g base taken change more) i k b u v numbers empty fits_numbers may_be old_pointers new_pointers in
          let s = reading_of g others in
          let used : used_at s i ≡ Some v = ap (λ (x : Reading). used_at x i) changes.reading ∙ used_changed r i (InUse v) inside in
          let directory_now = is_directory_still g base taken change hands after others i u d directory has grows kept_then added in
          let some = some_number g (slice_index v.numbers k) b draft.geometry free_block.0 number in
          let zeros_fit : suits_claims s Zero ((4096 * b) / 4096) ≡ true = ap (suits_claims s Zero) (at ∙ sym number) ∙ suits_at_index s i v k Zero used some directory_now in
          let chunk_fits : suits_claims s Chunk ((4096 * b + 512 * 0) / 4096) ≡ true = ap (suits_claims s Chunk) (chunk_at_block ∙ sym number) ∙ suits_at_index s i v k Chunk used some directory_now in
          drawn_by_many g base taken change hands after others i (InUse v) node draft inside changes
          (keeps g base taken change hands after others i u d directory has grows kept_then added before)
          (news g base taken change hands after others i u d directory has grows kept_then added)
          more refl (
            record { own = zeros_own; lays = refl; fitting = zeros_fit },
            (
              record { own = chunk_own; lays = refl; fitting = chunk_fits },
              (record { own = record_own; lays = refl; fitting = inode_suited g i (Some d) draft.geometry within is s }, tt),
            ),
          )
          (λ many. gives g base taken change hands after others i u d directory has grows kept_then added (all_laid_in change.deltas more)
          (λ claim mine free place low. new_in_whole g base taken change more s (is_loose before after) i u v r has.used many added_all claim mine free place low)
          (λ claim mine part rest place from high. absurd (no_rest g base taken change hands after others i u d directory has grows kept_then added k eight rest))
          (λ claim mine. part_fits g others after changes.stored i v claim used mine))
