-- A held inode becomes an empty file, a directory with one chunk in a held block, or a link with its text there.
use Rattle.std.proofs.Common.{◌≡◌, ◌≢◌, ◌<◌, ◌≤◌, inl, inr, ℕ, ◌+◌, ◌-◌, ◌*◌, ◌/◌, ◌%◌, eqb, Bool, true, false, cond, List, [], ◌∷◌, length, take, drop, slice_index, Option, Some, None, refl, sym, ap, ◌∙◌, subst, arith}
use Rattle.std.specs.List.{All, Contains}
use Rattle.std.proofs.lemmas.Bool.{cond-true, both_ways, eq-eqb, false≢true, lt-ltb, and_from}
use Rattle.lufs_base.specs.Layout.{IsGeometry, inode_address}
use Rattle.lufs_base.specs.declared.geometry.Geometry.{Geometry}
use Rattle.lufs_base.specs.declared.delta.Delta.{Delta}
use Rattle.lufs_base.specs.declared.delta.DeltaKind.TheVariants.{Chunk, Zero, LinkText}
use Rattle.volume_model.specs.declared.hand.Hand.{Hand}
use Rattle.volume_model.specs.declared.inode.Dinode.{Dinode}
use Rattle.volume_model.specs.declared.directory.Slot.{Slot}
use Rattle.volume_model.specs.Format.{Image, Blocks, block, inodes_of, is_body, is_file, is_directory, is_link, IsDinode, dinode_bytes, IsChunk, chunk_bytes, chunk_of}
use Rattle.volume_model.specs.Sound.{UsedInode, InodeState, InUse, Reading, reading_of, inodes_in, used_inode, used_of, used_at, Part, AtIndex, AtPointer, Claim, index_claim, claims_in, claims_of, is_claimed, held_inodes, held_blocks, is_among, IsStored, read_length, Node, File, Directory, Link, attributes_of}
use Rattle.volume_laws.specs.Changes.{with_state}
use Rattle.volume_laws.proofs.Members.{Contains_cases, Contains_map}
use Rattle.volume_laws.proofs.ClaimFacts.{length-inodes, claimed_in, index_claimed}
use Rattle.volume_laws.proofs.LaidClaims.{one_claim}
use Rattle.volume_laws.proofs.RecordChanges.{body_apart}
use Rattle.volume_laws.proofs.SameReading.{inode_record_block}
use Rattle.volume_laws.proofs.NodeFacts.{link_is_other}
use Rattle.volume_laws.proofs.UnclaimedBlocks.{nothing_read}
use Rattle.change_laws.specs.Hands.{times}
use Rattle.change_laws.specs.Exchange.{claimed_blocks}
use Rattle.change_laws.specs.Plans.{ChangesInode, HasJustBlocks, HoldMore}
use Rattle.change_laws.proofs.Counts.{times-append, times-cons, among_counted, holds_of}
use Rattle.change_laws.proofs.NewInodes.{body_number, claims_are, first_number}
use Rattle.change_laws.proofs.OneInode.{used_changed}
use Rattle.dir_blocks.proofs.WrittenSlots.{chunk_read_back_of}
use Rattle.meta_store.specs.declared.change.Change.{Change}
use Rattle.meta_store.specs.Conditions.{is_given}
use Rattle.meta_store.specs.Deltas.{inode_delta, chunk_delta, zero_delta, text_delta}
use Rattle.meta_draft.specs.Drafted.{drafted_blocks, with_delta}
use Rattle.meta_store.specs.Merged.{merged}
use Rattle.meta_store.specs.Suited.{suits_part, suits_claims}
use Rattle.draft_laws.specs.Laying.{with_laid}
use Rattle.draft_laws.specs.Follows.{is_loose}
use Rattle.draft_laws.specs.Drafts.{IsDraft, Draws, MayAttach}
use Rattle.draft_laws.proofs.MetadataLengths.{metadata_of_part, link_part}
use Rattle.draft_laws.proofs.Continues.{Gives, held_free}
use Rattle.draft_laws.proofs.OneInodeStep.{MayComeAs, inode_gives}
use Rattle.draft_laws.proofs.Contents.{AreSized, drafted_sized, sized_with, away, there, unread}
use Rattle.draft_laws.proofs.RecordDeltas.{inode_loggable, inode_suited, chunk_loggable, zero_loggable, text_loggable}
use Rattle.draft_laws.proofs.SuitedParts.{suits_at_index, part_fits}
use Rattle.draft_laws.proofs.InodeDrawn.{KeepsOrLoses, HadOrGets, step_laid, first_fit, drawn, drawn_by_one}
use Rattle.draft_laws.proofs.Merging.{one_more}
use Rattle.draft_laws.proofs.Written.{writes_it, writes_over}
use Rattle.draft_laws.proofs.ChangeFacts.{file_made, directory_made, link_made}
use Rattle.draft_laws.proofs.ChunkStep.{chunk_block, chunk_place}

no_block : (b : ℕ) → Contains [] b → ⊥
no_block b here = omega (arith, here.1)

-- the block of a claim is one of those that the inode claims
pub among_blocks : (i : ℕ) (v : UsedInode) (claim : Claim) → Contains (claims_in i v) claim → Contains (claimed_blocks i (Some v)) claim.block
among_blocks i v claim mine = Contains_map (λ (c : Claim). c.block) (claims_in i v) claim mine

pub one_of_one : (b c : ℕ) → Contains (b ∷ []) c → c ≡ b
one_of_one b c here = elim (Contains_cases b [] c here) [
  | inl same ↦ sym same
  | inr rest ↦ absurd (no_block c rest)
]

-- what a hand holds is free
pub held_by : (hands after : List Hand) (inodes blocks : List ℕ) (b : ℕ) → HoldMore hands after inodes blocks → 1 ≤ times b blocks → is_among b (held_blocks hands) ≡ true
held_by hands after inodes blocks b more some =
    let enough : 0 < times b (held_blocks hands) = omega (arith, more.blocks b, times-append b blocks (held_blocks after), some) in
    among_counted b (held_blocks hands) ∙ lt-ltb 0 (times b (held_blocks hands)) enough

pub once_first : (b : ℕ) (blocks : List ℕ) → 1 ≤ times b (b ∷ blocks)
once_first b blocks =
    let one : ℕ = 1 in
    let here : cond (eqb b b) 1 0 ≡ one = cond-true (eqb b b) 1 0 (eq-eqb b b refl) in
    omega (arith, times-cons b b blocks, here)

pub free_inode : (g : Geometry) (r : Reading) (hands after : List Hand) (i : ℕ) (blocks : List ℕ) → IsStored g r hands → HoldMore hands after (i ∷ []) blocks → (used_at r i ≡ None) × (i < inodes_in r)
free_inode g r hands after i blocks stored more =
    let some : 1 ≤ times i (held_inodes hands) = omega (arith, more.inodes i, times-append i (i ∷ []) (held_inodes after), once_first i []) in (
      holds_of (λ j. used_at r j ≡ None) (held_inodes hands) i stored.apart.inodes_free some,
      (holds_of (λ j. (2 ≤ j) × (j < inodes_in r)) (held_inodes hands) i stored.apart.inodes_usable some).1,
    )

chunk_of_directory : (v : UsedInode) (part : Part) → suits_part Chunk v part ≡ true → is_directory v.inode.mode ≡ true
chunk_of_directory v (AtIndex index) fitting = fitting
chunk_of_directory v (AtPointer name) fitting = absurd (false≢true fitting)

pub none_some : (u : UsedInode) → None ≡ Some u → ⊥
none_some u same = cc

-- a free inode has no claims
pub keeps_none : (r : Reading) (i : ℕ) → used_at r i ≡ None → (before : Reading) (after : List Hand) (state : InodeState) → KeepsOrLoses before r after i state
keeps_none r i free before after state u used claim mine = absurd (none_some u (sym free ∙ used))

pub same_use : (v w : UsedInode) → used_of (InUse v) ≡ Some w → w ≡ v
same_use v w now = let both : Some w ≡ Some v = sym now in cc

-- the new file
pub file_drawn : (g : Geometry) (base : Image) (taken : ℕ → Bool) (change : Change) (hands after : List Hand) (i : ℕ) (d : Dinode) → IsDraft g base taken change hands → HoldMore hands after (i ∷ []) []
    → IsDinode g.version d → HasJustBlocks d [] → is_file d.mode ≡ true → d.size ≡ 0
    → Draws g base taken change (with_delta change (inode_delta g i (dinode_bytes (Some d)))) i
    (Some (File (record { attributes = attributes_of d; size = 0; blocks = []; pointers = [] }))) (Some d.links) after
file_drawn g base taken change hands after i d draft more is just file size =
    let blocks = drafted_blocks change base in
    let r = reading_of g blocks in
    let delta = inode_delta g i (dinode_bytes (Some d)) in
    let others = with_laid blocks delta in
    let v : UsedInode = used_inode others d in
    let free = free_inode g r hands after i [] draft.stored more in
    let within : i < inodes_of g = omega (arith, free.1, length-inodes g blocks) in
    let sized = drafted_sized g base change draft.room draft.recorded.raw in
    let writes = writes_it g blocks i (Some d) draft.geometry within is sized in
    let changes = file_made g blocks others i d hands after draft.geometry draft.stored more writes just file size in
    let none : claimed_blocks i (Some v) ≡ [] = claims_are g others i d [] draft.geometry just refl in
    let no_claim : (w : UsedInode) → used_of (InUse v) ≡ Some w → (claim : Claim) → Contains (claims_in i w) claim → ⊥ = λ w now claim mine.
    no_block claim.block (subst (λ (l : List ℕ). Contains l claim.block) (ap (λ (x : UsedInode). claimed_blocks i (Some x)) (same_use v w now) ∙ none) (among_blocks i w claim mine)) in
    let node = Some (File (record { attributes = attributes_of d; size = 0; blocks = []; pointers = [] })) in
    drawn_by_one g base taken change hands after others i (InUse v) node draft free.1 changes
    (keeps_none r i free.0 (reading_of g (block base)) after (InUse v))
    (λ w now claim mine. absurd (no_claim w now claim mine))
    delta refl (inode_loggable g i (Some d) draft.geometry within is) refl (inode_suited g i (Some d) draft.geometry within is (reading_of g others))
    (inode_gives g r i (InUse v) free.1 (merged change.deltas delta)
    (λ u w was now claim mine its place low high. absurd (no_claim w now claim its))
    (λ w now claim mine unclaimed place below. absurd (no_claim w now claim mine))
    (λ w now claim mine unclaimed chunk place below. absurd (no_claim w now claim mine)))

-- a body block has no records of inodes
pub beside_records : (g : Geometry) (b i : ℕ) → IsGeometry g → is_body g b ≡ true → i < inodes_of g → b ≢ inode_address g i / 4096
beside_records g b i ok body within = body_apart g b (inode_address g i / 4096) 4096 body (inode_record_block g i ok within).1 (omega arith)

-- what a claim of a new block may be
pub may_attach : (g : Geometry) (base : Image) (taken : ℕ → Bool) (change : Change) (b : ℕ) (v : UsedInode) (claim : Claim) → MayAttach g base taken change b → claim.block ≡ b
    → MayComeAs (reading_of g (block base)) taken change.raw v claim
may_attach g base taken change b v claim may same = record {
  in_transaction = ap taken same ∙ may.in_transaction;
  unclaimed = ap (is_claimed (reading_of g (block base))) same ∙ may.unclaimed;
  unwritten = λ _. subst (λ (c : ℕ). All (λ w. w.first / 8 ≢ c) change.raw) (sym same) may.unwritten;
}

-- a number of a body block is not 0
pub some_number : (g : Geometry) (n b : ℕ) → IsGeometry g → is_body g b ≡ true → n ≡ b → eqb n 0 ≡ false
some_number g n b ok body same = ap (λ (m : ℕ). eqb m 0) same ∙ body_number g b ok body

module _ (g : Geometry) (base : Image) (taken : ℕ → Bool) (change : Change) (hands after : List Hand) (i b : ℕ) (d : Dinode) (draft : IsDraft g base taken change hands)
    (more : HoldMore hands after (i ∷ []) (b ∷ [])) (may : MayAttach g base taken change b) (is : IsDinode g.version d) (just : HasJustBlocks d (b ∷ [])) where
  abbrev blocks : Blocks
  blocks = drafted_blocks change base

  abbrev r : Reading
  r = reading_of g blocks

  free_block : (is_body g b ≡ true) × (is_claimed r b ≡ false)
  free_block = held_free g r hands draft.stored b (held_by hands after (i ∷ []) (b ∷ []) b more (once_first b []))

  free : (used_at r i ≡ None) × (i < inodes_in r)
  free = free_inode g r hands after i (b ∷ []) draft.stored more

  within : i < inodes_of g
  within = omega (arith, free.1, length-inodes g blocks)

  sized : AreSized g blocks
  sized = drafted_sized g base change draft.room draft.recorded.raw

  nothing : read_length g r b ≡ 0
  nothing = nothing_read g r b free_block.0 free_block.1

  apart : b ≢ inode_address g i / 4096
  apart = beside_records g b i draft.geometry free_block.0 within

  -- the claims of the new inode
  its_block : (others : Blocks) (claim : Claim) → Contains (claims_in i (used_inode others d)) claim → claim.block ≡ b
  its_block others claim mine =
      let v : UsedInode = used_inode others d in
      let one : claimed_blocks i (Some v) ≡ b ∷ [] = claims_are g others i d (b ∷ []) draft.geometry just (and_from (is_body g b) true free_block.0 refl) in
      one_of_one b claim.block (subst (λ (l : List ℕ). Contains l claim.block) one (among_blocks i v claim mine))

  first : (others : Blocks) → slice_index (used_inode others d).numbers 0 ≡ b
  first others = first_number g others i d (b ∷ []) draft.geometry just (and_from (is_body g b) true free_block.0 refl) b [] refl

  news : (others : Blocks) → HadOrGets (reading_of g (block base)) r taken change i (InUse (used_inode others d))
  news others w now claim mine =
      let v : UsedInode = used_inode others d in
      let same : w ≡ v = same_use v w now in
      inr (may_attach g base taken change b w claim may (its_block others claim (subst (λ (x : UsedInode). Contains (claims_in i x) claim) same mine)))

  -- where deltas give all that the new inode has of the block
  gives_block : (others : Blocks) (deltas : List Delta) → ((claim : Claim) → Contains (claims_in i (used_inode others d)) claim → (place : ℕ) → place < metadata_of_part (used_inode others d) claim.part → is_given deltas b place ≡ true)
      → (is_directory d.mode ≡ true → (place : ℕ) → place < 4096 → is_given deltas b place ≡ true) → Gives r (with_state r i (InUse (used_inode others d))) deltas
  gives_block others deltas part whole =
      let v : UsedInode = used_inode others d in
      inode_gives g r i (InUse v) free.1 deltas
      (λ u w was now claim mine its place low high. absurd (none_some u (sym free.0 ∙ was)))
      (λ w now claim mine unclaimed place below.
      let same : w ≡ v = same_use v w now in
      let there : Contains (claims_in i v) claim = subst (λ (x : UsedInode). Contains (claims_in i x) claim) same mine in
      subst (λ (c : ℕ). is_given deltas c place ≡ true) (sym (its_block others claim there))
      (part claim there place (subst (λ (x : UsedInode). place < metadata_of_part x claim.part) same below)))
      (λ w now claim mine unclaimed chunk place below.
      let same : w ≡ v = same_use v w now in
      let there : Contains (claims_in i v) claim = subst (λ (x : UsedInode). Contains (claims_in i x) claim) same mine in
      subst (λ (c : ℕ). is_given deltas c place ≡ true) (sym (its_block others claim there))
      (whole (chunk_of_directory v claim.part (sym (ap (λ (x : UsedInode). suits_part Chunk x claim.part) same) ∙ chunk)) place below))

  -- a directory of one chunk
  module _ (slots : List Slot) (chunk : IsChunk slots) (directory : is_directory d.mode ≡ true) (size : d.size ≡ 512) where
    abbrev zeros : Delta
    zeros = zero_delta b

    abbrev first_chunk : Delta
    first_chunk = chunk_delta b 0 (chunk_bytes slots)

    abbrev record_of : Delta
    record_of = inode_delta g i (dinode_bytes (Some d))

    pub directory_drawn : Draws g base taken change (with_delta (with_delta (with_delta change zeros) first_chunk) record_of) i
        (Some (Directory (record { attributes = attributes_of d; chunks = slots ∷ [] }))) (Some d.links) after
    directory_drawn =
        let low : 0 < 8 = omega arith in
        let zeros_own = zero_loggable g b free_block.0 in
        let chunk_own = chunk_loggable g b 0 slots free_block.0 low chunk in
        let record_own = inode_loggable g i (Some d) draft.geometry within is in
        let cleared = with_laid blocks zeros in
        let filled = with_laid cleared first_chunk in
        let others = with_laid filled record_of in
        let v : UsedInode = used_inode others d in
        let cleared_sized = sized_with g blocks zeros sized zeros_own refl in
        let filled_sized = sized_with g cleared first_chunk cleared_sized chunk_own refl in
        let at : (4096 * b) / 4096 ≡ b = omega arith in
        let chunk_at_block = chunk_block b 0 low in
        let chunk_at_place = chunk_place b 0 low in
        let lengths = read_length g r in
        let unread_now : (c : ℕ) → take (lengths c) (filled c) ≡ take (lengths c) (blocks c) = λ c.
        unread g cleared first_chunk cleared_sized chunk_own refl lengths (ap lengths chunk_at_block ∙ nothing) c
        ∙ unread g blocks zeros sized zeros_own refl lengths (ap lengths at ∙ nothing) c in
        let writes = writes_over g blocks filled i (Some d) draft.geometry within is filled_sized unread_now in
        let kept : others b ≡ filled b = away g filled record_of filled_sized record_own refl b apart in
        let bytes : take 512 (filled b) ≡ chunk_bytes slots =
        (λ t. take 512 (drop (sym chunk_at_place t) (filled (sym chunk_at_block t)))) ∙ there g cleared first_chunk cleared_sized chunk_own refl in
        let read : chunk_of (take 512 (others b)) ≡ Some slots = ap (λ (l : List ℕ). chunk_of (take 512 l)) kept ∙ ap chunk_of bytes ∙ chunk_read_back_of slots chunk in
        let changes = directory_made g blocks others i b d slots hands after draft.geometry draft.stored more writes just directory size read in
        let node = Some (Directory (record { attributes = attributes_of d; chunks = slots ∷ [] })) in
        let before = reading_of g (block base) in
        let s = reading_of g others in
        let loose = is_loose before after in
        let keeps = keeps_none r i free.0 before after (InUse v) in
        let laid = step_laid g base taken change hands after others i (InUse v) node draft free.1 changes keeps (news others) in
        let fit = first_fit g base taken change hands after others i (InUse v) node draft free.1 changes keeps (news others) in
        let used : used_at s i ≡ Some v = ap (λ (x : Reading). used_at x i) changes.reading ∙ used_changed r i (InUse v) free.1 in
        let number = first others in
        let some = some_number g (slice_index v.numbers 0) b draft.geometry free_block.0 number in
        let zeros_fit : suits_claims s Zero ((4096 * b) / 4096) ≡ true = ap (suits_claims s Zero) (at ∙ sym number) ∙ suits_at_index s i v 0 Zero used some directory in
        let chunk_fits : suits_claims s Chunk ((4096 * b + 512 * 0) / 4096) ≡ true = ap (suits_claims s Chunk) (chunk_at_block ∙ sym number) ∙ suits_at_index s i v 0 Chunk used some directory in
        let m1 = one_more g base s loose change zeros draft.room laid fit zeros_own refl zeros_fit in
        let c1 = with_delta change zeros in
        let m2 = one_more g base s loose c1 first_chunk draft.room laid m1.next chunk_own refl chunk_fits in
        let c2 = with_delta c1 first_chunk in
        let m3 = one_more g base s loose c2 record_of draft.room laid m2.next record_own refl (inode_suited g i (Some d) draft.geometry within is s) in
        let same = m3.laid ∙ ap (λ (x : Blocks). with_laid x record_of) (m2.laid ∙ ap (λ (x : Blocks). with_laid x first_chunk) m1.laid) in
        let deltas = merged (merged (merged change.deltas zeros) first_chunk) record_of in
        let still = λ (c place : ℕ) (low : place < 4096) (given : is_given change.deltas c place ≡ true). m3.still c place low (m2.still c place low (m1.still c place low given)) in
        let whole : (place : ℕ) → place < 4096 → is_given deltas b place ≡ true = λ place below.
        let given : is_given (merged change.deltas zeros) ((4096 * b) / 4096) place ≡ true = m1.new place (omega arith) (omega (arith, below)) below in
        m3.still b place below (m2.still b place below (subst (λ (c : ℕ). is_given (merged change.deltas zeros) c place ≡ true) at given)) in
        let gives = gives_block others deltas
        (λ claim mine place below. whole place (omega (arith, below, part_fits g others after changes.stored i v claim used mine)))
        (λ _. whole) in
        drawn g base taken change hands after others i (InUse v) node draft free.1 changes keeps (news others) deltas m3.next same still gives

  -- a link
  module _ (text : List ℕ) (link : is_link d.mode ≡ true) (size : d.size ≡ length text) (long : 1 ≤ length text) (few : length text ≤ 1024) where
    abbrev its_text : Delta
    its_text = text_delta b text

    abbrev its_record : Delta
    its_record = inode_delta g i (dinode_bytes (Some d))

    pub link_drawn : Draws g base taken change (with_delta (with_delta change its_text) its_record) i (Some (Link (record { attributes = attributes_of d; text = text }))) (Some d.links) after
    link_drawn =
        let text_own = text_loggable g b text free_block.0 long few in
        let record_own = inode_loggable g i (Some d) draft.geometry within is in
        let filled = with_laid blocks its_text in
        let others = with_laid filled its_record in
        let v : UsedInode = used_inode others d in
        let filled_sized = sized_with g blocks its_text sized text_own refl in
        let at : (4096 * b) / 4096 ≡ b = omega arith in
        let place_is : (4096 * b) % 4096 ≡ 0 = omega arith in
        let lengths = read_length g r in
        let unread_now : (c : ℕ) → take (lengths c) (filled c) ≡ take (lengths c) (blocks c) = λ c. unread g blocks its_text sized text_own refl lengths (ap lengths at ∙ nothing) c in
        let writes = writes_over g blocks filled i (Some d) draft.geometry within is filled_sized unread_now in
        let kept : others b ≡ filled b = away g filled its_record filled_sized record_own refl b apart in
        let bytes : take (length text) (filled b) ≡ text =
        (λ t. take (length text) (drop (sym place_is t) (filled (sym at t)))) ∙ there g blocks its_text sized text_own refl in
        let read : take d.size (others b) ≡ text = (λ t. take (size t) (kept t)) ∙ bytes in
        let found = link_made g blocks others i b d hands after draft.geometry draft.stored more writes just link (omega (arith, size, long)) (omega (arith, size, few)) in
        let node : Option Node = Some (Link (record { attributes = attributes_of d; text = text })) in
        let changes : ChangesInode g blocks others i (InUse v) node after =
        subst (λ (l : List ℕ). ChangesInode g blocks others i (InUse v) (Some (Link (record { attributes = attributes_of d; text = l }))) after) read found in
        let before = reading_of g (block base) in
        let s = reading_of g others in
        let loose = is_loose before after in
        let keeps = keeps_none r i free.0 before after (InUse v) in
        let laid = step_laid g base taken change hands after others i (InUse v) node draft free.1 changes keeps (news others) in
        let fit = first_fit g base taken change hands after others i (InUse v) node draft free.1 changes keeps (news others) in
        let used : used_at s i ≡ Some v = ap (λ (x : Reading). used_at x i) changes.reading ∙ used_changed r i (InUse v) free.1 in
        let number = first others in
        let some = some_number g (slice_index v.numbers 0) b draft.geometry free_block.0 number in
        let text_fits : suits_claims s LinkText ((4096 * b) / 4096) ≡ true = ap (suits_claims s LinkText) (at ∙ sym number) ∙ suits_at_index s i v 0 LinkText used some link in
        let m1 = one_more g base s loose change its_text draft.room laid fit text_own refl text_fits in
        let c1 = with_delta change its_text in
        let m2 = one_more g base s loose c1 its_record draft.room laid m1.next record_own refl (inode_suited g i (Some d) draft.geometry within is s) in
        let same = m2.laid ∙ ap (λ (x : Blocks). with_laid x its_record) m1.laid in
        let deltas = merged (merged change.deltas its_text) its_record in
        let still = λ (c place : ℕ) (low : place < 4096) (given : is_given change.deltas c place ≡ true). m2.still c place low (m1.still c place low given) in
        let gives = gives_block others deltas
        (λ claim mine place below.
        let claim_there : Contains (claims_of s) claim = claimed_in s i v claim used mine in
        let one : index_claim i v 0 ≡ claim = one_claim g s laid claim (index_claim i v 0) claim_there (index_claimed s i v 0 used some) (number ∙ sym (its_block others claim mine)) in
        let its : metadata_of_part v claim.part ≡ d.size - 4096 * 0 = ap (λ (c : Claim). metadata_of_part v c.part) (sym one) ∙ link_part v 0 link in
        let short : place < length text = omega (arith, below, its, size) in
        let inside : place < 4096 = omega (arith, short, few) in
        let given : is_given (merged change.deltas its_text) ((4096 * b) / 4096) place ≡ true = m1.new place (omega arith) (omega (arith, short)) inside in
        m2.still b place inside (subst (λ (c : ℕ). is_given (merged change.deltas its_text) c place ≡ true) at given))
        (λ directory. absurd (both_ways (is_directory d.mode) (link_is_other d.mode link).1 directory)) in
        drawn g base taken change hands after others i (InUse v) node draft free.1 changes keeps (news others) deltas m2.next same still gives
