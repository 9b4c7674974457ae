-- A directory gets its first block by a pointer block, which it gets too.
use Rattle.std.proofs.Common.{◌≡◌, ◌≢◌, ◌<◌, ◌≤◌, ◌⊎◌, inl, inr, ℕ, ◌+◌, ◌*◌, ◌/◌, ◌%◌, ◌^◌, eqb, Bool, true, false, cond, List, [], ◌∷◌, ◌++◌, length, take, drop, set, replicate, slice_index, Option, Some, refl, sym, ap, ◌∙◌, subst, arith}
use Rattle.std.specs.List.{Contains}
use Rattle.std.proofs.lemmas.Bool.{cond-true, both_ways, eq-eqb}
use Rattle.std.proofs.lemmas.List.{take_all, set-append_right}
use Rattle.lufs_base.specs.Fields.{put_at}
use Rattle.lufs_base.specs.declared.geometry.Geometry.{Geometry}
use Rattle.lufs_base.specs.declared.delta.Delta.{Delta}
use Rattle.lufs_base.specs.declared.delta.DeltaKind.TheVariants.{Chunk, Zero, Pointers}
use Rattle.volume_model.specs.declared.hand.Hand.{Hand}
use Rattle.volume_model.specs.declared.inode.Dinode.{Dinode}
use Rattle.volume_model.specs.declared.directory.Slot.{Slot}
use Rattle.volume_model.specs.Format.{Image, Blocks, block, inodes_of, is_body, IsDinode, dinode_bytes, IsChunk, chunk_bytes, chunk_of, numbers_bytes, pointers_of}
use Rattle.volume_model.specs.Sound.{Single, UsedInode, InUse, Reading, reading_of, inodes_in, used_inode, NamedPointer, used_at, is_claimed, IsLaid, IsStored, held_blocks, read_length, DirectoryNode, Node, Directory, attributes_of}
use Rattle.volume_laws.proofs.Members.{Contains_cases, Contains_head, Contains_behind}
use Rattle.volume_laws.proofs.ClaimFacts.{length-inodes, used_within}
use Rattle.volume_laws.proofs.StoredClaims.{stored_is_laid}
use Rattle.volume_laws.proofs.UnclaimedBlocks.{nothing_read}
use Rattle.change_laws.specs.Plans.{HasInode, ChangesInode, WritesRecord, GrowsByChunk, HoldMore}
use Rattle.change_laws.proofs.GrowthSteps.{written_reading}
use Rattle.change_laws.proofs.FirstPointer.{pointer_stored, pointer_tree}
use Rattle.volume_laws.proofs.BodyChanges.{has_record}
use Rattle.change_laws.proofs.NextBlock.{next_is_empty, next_within, no_pointer}
use Rattle.volume_laws.proofs.TreeClaims.{direct_size}
use Rattle.volume_laws.proofs.Counting.{times_apart}
use Rattle.change_laws.specs.Hands.{times}
use Rattle.change_laws.proofs.Counts.{times-append, times-cons}
use Rattle.change_laws.proofs.Places.{body_inside}
use Rattle.change_laws.proofs.NumberReads.{pointer_blocks, numbers_by_pointer, numbers_without_pointer}
use Rattle.change_laws.proofs.OneInode.{used_changed}
use Rattle.dir_blocks.proofs.WrittenSlots.{chunk_read_back_of}
use Rattle.meta_store.specs.declared.change.Change.{Change}
use Rattle.meta_store.proofs.MergedTable.{IsLoggable}
use Rattle.meta_store.specs.Deltas.{inode_delta, chunk_delta, zero_delta, pointers_delta}
use Rattle.meta_draft.specs.Drafted.{drafted_blocks, with_delta}
use Rattle.meta_store.specs.Suited.{suits_claims}
use Rattle.draft_laws.specs.Laying.{with_laid}
use Rattle.draft_laws.specs.Follows.{is_loose}
use Rattle.draft_laws.specs.Drafts.{IsDraft, Draws, MayAttach}
use Rattle.draft_laws.proofs.Continues.{held_free}
use Rattle.draft_laws.proofs.Contents.{AreSized, drafted_sized, sized_with, here, away, there, unread}
use Rattle.draft_laws.proofs.RecordDeltas.{inode_loggable, inode_suited, chunk_loggable, zero_loggable, pointers_loggable}
use Rattle.draft_laws.proofs.SuitedParts.{suits_at_index, suits_at_pointer, part_fits}
use Rattle.draft_laws.proofs.InodeDrawn.{drawn_by_many}
use Rattle.draft_laws.proofs.Merging.{all_laid_in}
use Rattle.draft_laws.proofs.Written.{writes_over}
use Rattle.draft_laws.proofs.ChunkStep.{chunk_block, chunk_place}
use Rattle.draft_laws.proofs.NewSteps.{held_by, once_first, beside_records, some_number}
use Rattle.draft_laws.proofs.BlockClaims.{number_here, kept_claims, added_claims}
use Rattle.draft_laws.proofs.PointerRows.{block_fits, one_in_row}
use Rattle.draft_laws.proofs.GrowthDrawn.{MayBeNew, attached, new_in_whole}
use Rattle.draft_laws.proofs.DirectoryGrows.{is_directory_still, keeps, news, gives, no_rest}

-- of two blocks that a hand has neither is the other
held_apart : (g : Geometry) (r : Reading) (hands after : List Hand) (p b : ℕ) → IsStored g r hands → HoldMore hands after [] (p ∷ (b ∷ [])) → (1 ≤ times b (p ∷ (b ∷ []))) × (p ≢ b)
held_apart g r hands after p b stored held =
    let once : ℕ = 1 in
    let one = once_first b [] in
    let all = times-append b (p ∷ (b ∷ [])) (held_blocks after) in
    let both = times-cons b p (b ∷ []) in (
      let enough : 1 ≤ times b (p ∷ (b ∷ [])) = omega (arith, one, both) in enough,
      (λ same.
          let again : cond (eqb p b) 1 0 ≡ once = cond-true (eqb p b) 1 0 (eq-eqb p b same) in
          omega (arith, one, all, both, again, held.blocks b, times_apart b (held_blocks hands) stored.apart.blocks)),
    )

pub only_one : (q other : NamedPointer) → Contains (other ∷ []) q → q ≡ other
only_one q other here = elim (Contains_cases other [] q here) [
  | inl same ↦ sym same
  | inr rest ↦ absurd (omega (arith, rest.1))
]

module _ (g : Geometry) (base : Image) (taken : ℕ → Bool) (change : Change) (hands after : List Hand) (i p b : ℕ) (u : UsedInode) (d : Dinode) (directory : DirectoryNode) (slots : List Slot)
    (draft : IsDraft g base taken change hands) (has : HasInode g (drafted_blocks change base) hands i u (Directory directory)) (is : IsDinode g.version d) (grows : GrowsByChunk u.inode d)
    (chunk : IsChunk slots) (held : HoldMore hands after [] (p ∷ (b ∷ []))) (may_p : MayAttach g base taken change p) (may_b : MayAttach g base taken change b) (direct : d.direct ≡ u.inode.direct)
    (indirect : slice_index d.indirect 0 ≡ p) (count : d.blocks ≡ u.inode.blocks + 2) (eight : length directory.chunks ≡ 8 * 12) where
  abbrev blocks : Blocks
  blocks = drafted_blocks change base

  abbrev r : Reading
  r = reading_of g blocks

  abbrev before : Reading
  before = reading_of g (block base)

  abbrev pointer_zeros : Delta
  pointer_zeros = zero_delta p

  abbrev number : Delta
  number = pointers_delta p 0 (numbers_bytes (b ∷ []))

  abbrev zeros : Delta
  zeros = zero_delta b

  abbrev first_chunk : Delta
  first_chunk = chunk_delta b 0 (chunk_bytes slots)

  abbrev its_record : Delta
  its_record = inode_delta g i (dinode_bytes (Some d))

  abbrev node : Option Node
  node = Some (Directory (record { attributes = attributes_of d; chunks = directory.chunks ++ slots ∷ [] }))

  abbrev pointer_cleared : Blocks
  pointer_cleared = with_laid blocks pointer_zeros

  abbrev rowed : Blocks
  rowed = with_laid pointer_cleared number

  abbrev cleared : Blocks
  cleared = with_laid rowed zeros

  abbrev filled : Blocks
  filled = with_laid cleared first_chunk

  abbrev others : Blocks
  others = with_laid filled its_record

  abbrev v : UsedInode
  v = used_inode others d

  r_laid : IsLaid g r
  r_laid = stored_is_laid g r hands has.stored

  inside : i < inodes_in r
  inside = used_within r i u has.used

  within : i < inodes_of g
  within = omega (arith, inside, length-inodes g blocks)

  sized : AreSized g blocks
  sized = drafted_sized g base change draft.room draft.recorded.raw

  apart : (1 ≤ times b (p ∷ (b ∷ []))) × (p ≢ b)
  apart = held_apart g r hands after p b has.stored held

  free_pointer : (is_body g p ≡ true) × (is_claimed r p ≡ false)
  free_pointer = held_free g r hands has.stored p (held_by hands after [] (p ∷ (b ∷ [])) p held (once_first p (b ∷ [])))

  free_block : (is_body g b ≡ true) × (is_claimed r b ≡ false)
  free_block = held_free g r hands has.stored b (held_by hands after [] (p ∷ (b ∷ [])) b held apart.0)

  nothing_of : (c : ℕ) → (is_body g c ≡ true) × (is_claimed r c ≡ false) → read_length g r c ≡ 0
  nothing_of c free = nothing_read g r c free.0 free.1

  small : b < 2 ^ 32
  small = block_fits g b has.geometry free_block.0

  low : 0 < 8
  low = omega arith

  pointer_zeros_own : IsLoggable g pointer_zeros
  pointer_zeros_own = zero_loggable g p free_pointer.0

  number_own : IsLoggable g number
  number_own = pointers_loggable g p 0 (b ∷ []) free_pointer.0 (omega arith) (omega arith)

  zeros_own : IsLoggable g zeros
  zeros_own = zero_loggable g b free_block.0

  chunk_own : IsLoggable g first_chunk
  chunk_own = chunk_loggable g b 0 slots free_block.0 low chunk

  record_own : IsLoggable g its_record
  record_own = inode_loggable g i (Some d) draft.geometry within is

  pointer_cleared_sized : AreSized g pointer_cleared
  pointer_cleared_sized = sized_with g blocks pointer_zeros sized pointer_zeros_own refl

  rowed_sized : AreSized g rowed
  rowed_sized = sized_with g pointer_cleared number pointer_cleared_sized number_own refl

  cleared_sized : AreSized g cleared
  cleared_sized = sized_with g rowed zeros rowed_sized zeros_own refl

  filled_sized : AreSized g filled
  filled_sized = sized_with g cleared first_chunk cleared_sized chunk_own refl

  at : (c : ℕ) → (4096 * c) / 4096 ≡ c
  at c = omega arith

  place : (c : ℕ) → (4096 * c) % 4096 ≡ 0
  place c = omega arith

  number_at : (4096 * p + 4 * 0) / 4096 ≡ p
  number_at = omega arith

  number_place : (4096 * p + 4 * 0) % 4096 ≡ 0
  number_place = omega arith

  unread_now : (c : ℕ) → take (read_length g r c) (filled c) ≡ take (read_length g r c) (blocks c)
  unread_now c =
      let lengths = read_length g r in
      unread g cleared first_chunk cleared_sized chunk_own refl lengths (ap lengths (chunk_block b 0 low) ∙ nothing_of b free_block) c
      ∙ unread g rowed zeros rowed_sized zeros_own refl lengths (ap lengths (at b) ∙ nothing_of b free_block) c
      ∙ unread g pointer_cleared number pointer_cleared_sized number_own refl lengths (ap lengths number_at ∙ nothing_of p free_pointer) c
      ∙ unread g blocks pointer_zeros sized pointer_zeros_own refl lengths (ap lengths (at p) ∙ nothing_of p free_pointer) c

  writes : WritesRecord g blocks others i (Some d)
  writes = writes_over g blocks filled i (Some d) draft.geometry within is filled_sized unread_now

  all_zeros_there : pointer_cleared p ≡ replicate 4096 0
  all_zeros_there =
      let size = pointer_cleared_sized p (body_inside g p free_pointer.0) in
      sym (take_all 4096 (pointer_cleared p) (omega (arith, size)))
      ∙ (λ t. take 4096 (drop (sym (place p) t) (pointer_cleared (sym (at p) t)))) ∙ there g blocks pointer_zeros sized pointer_zeros_own refl

  row : pointers_of (others p) ≡ b ∷ replicate 1023 0
  row =
      let kept : others p ≡ rowed p =
      away g filled its_record filled_sized record_own refl p (beside_records g p i draft.geometry free_pointer.0 within)
      ∙ away g cleared first_chunk cleared_sized chunk_own refl p (λ same. apart.1 (same ∙ chunk_block b 0 low))
      ∙ away g rowed zeros rowed_sized zeros_own refl p (λ same. apart.1 (same ∙ at b)) in
      let put : rowed p ≡ put_at (pointer_cleared p) 0 (numbers_bytes (b ∷ [])) =
      (λ t. rowed (sym number_at t)) ∙ here g pointer_cleared number pointer_cleared_sized number_own refl
      ∙ (λ t. put_at (pointer_cleared (number_at t)) (number_place t) (numbers_bytes (b ∷ []))) in
      ap pointers_of (kept ∙ put) ∙ one_in_row b (pointer_cleared p) small all_zeros_there

  first_bytes : chunk_of (take 512 (others b)) ≡ Some slots
  first_bytes =
      let kept : others b ≡ filled b = away g filled its_record filled_sized record_own refl b (beside_records g b i draft.geometry free_block.0 within) in
      let bytes : take 512 (filled b) ≡ chunk_bytes slots =
      (λ t. take 512 (drop (sym (chunk_place b 0 low) t) (filled (sym (chunk_block b 0 low) t)))) ∙ there g cleared first_chunk cleared_sized chunk_own refl in
      ap (λ (l : List ℕ). chunk_of (take 512 l)) kept ∙ ap chunk_of bytes ∙ chunk_read_back_of slots chunk

  changes : ChangesInode g blocks others i (InUse v) node after
  changes = record {
    reading = written_reading g blocks others i u d directory slots hands has.geometry has.stored has.used has.stands writes grows;
    stored = pointer_stored g blocks others i p b u d directory slots hands after has.geometry has.stored has.used has.stands writes grows direct indirect count eight held row first_bytes;
    tree = pointer_tree g blocks others i p b u d directory slots hands after has.geometry has.stored has.used has.stands writes grows direct indirect count eight held row first_bytes;
  }

  none : eqb (slice_index u.inode.indirect 0) 0 ≡ true
  none = no_pointer g blocks i 12 u directory hands has.stored has.used has.stands eight refl

  some_pointer : eqb p 0 ≡ false
  some_pointer = some_number g p p draft.geometry free_pointer.0 refl

  numbers : v.numbers ≡ set u.numbers 12 b
  numbers =
      let found = has_record g blocks i u has.used in
      let e = found.dinode in
      let size : length u.inode.direct ≡ 12 = ap (λ (x : UsedInode). length x.inode.direct) (sym found.leads) ∙ direct_size g.version _ e found.there in
      numbers_by_pointer g blocks others has.geometry r_laid i u d has.used writes p (b ∷ replicate 1023 0) direct indirect some_pointer row
      ∙ sym (ap (λ (l : List ℕ). set l 12 b) (numbers_without_pointer g blocks i u has.used none) ∙ set-append_right u.inode.direct (replicate 1024 0 ++ []) 12 12 b size (omega arith))

  pub pointer_added : Draws g base taken change (with_delta (with_delta (with_delta (with_delta (with_delta change pointer_zeros) number) zeros) first_chunk) its_record) i node (Some d.links) after
  pointer_added =
      let was = pointer_blocks g blocks i u has.used in
      let pointer : NamedPointer = record { name = Single; block = p } in
      let now : v.pointers ≡ pointer ∷ [] = λ t. record { name = Single; block = indirect t } ∷ [] in
      let empty = next_is_empty g blocks i 12 u directory hands has.stored has.used has.stands eight in
      let fits_numbers = next_within g blocks i 12 u directory hands has.stored has.used has.stands eight (omega arith) in
      let more : List Delta = pointer_zeros ∷ number ∷ zeros ∷ first_chunk ∷ its_record ∷ [] in
      let last : List Delta = zeros ∷ first_chunk ∷ its_record ∷ [] in
      let new_p : MayBeNew g base taken change more p = (may_p, Contains_head pointer_zeros (number ∷ last)) in
      let new_b : MayBeNew g base taken change more b =
      (may_b, Contains_behind pointer_zeros (number ∷ last) zeros (Contains_behind number last zeros (Contains_head zeros (first_chunk ∷ its_record ∷ [])))) in
      let old_pointers : (q : NamedPointer) → Contains u.pointers q → eqb q.block 0 ≡ false → Contains v.pointers q = λ q here_q some.
      absurd (both_ways (eqb q.block 0) some (ap (λ (x : NamedPointer). eqb x.block 0) (only_one q (record { name = Single; block = slice_index u.inode.indirect 0 }) (subst (λ (l : List NamedPointer). Contains l q) was here_q)) ∙ none)) in
      let new_pointers : (q : NamedPointer) → Contains v.pointers q → eqb q.block 0 ≡ false → Contains u.pointers q ⊎ MayBeNew g base taken change more q.block = λ q here_q some.
      inr (subst (λ (x : NamedPointer). MayBeNew g base taken change more x.block) (sym (only_one q pointer (subst (λ (l : List NamedPointer). Contains l q) now here_q))) new_p) in
      let kept_then = kept_claims (MayBeNew g base taken change more) i 12 b u v numbers empty fits_numbers new_b old_pointers new_pointers in
      let added_all = added_claims (MayBeNew g base taken change more) i 12 b u v numbers empty fits_numbers new_b old_pointers new_pointers in
      let added = attached g base taken change more i u v added_all in
      let its_number = number_here (MayBeNew g base taken change more) i 12 b u v numbers empty fits_numbers new_b old_pointers new_pointers in
      let s = reading_of g others in
      let used : used_at s i ≡ Some v = ap (λ (x : Reading). used_at x i) changes.reading ∙ used_changed r i (InUse v) inside in
      let directory_now = is_directory_still g base taken change hands after others i u d directory has grows kept_then added in
      let some = some_number g (slice_index v.numbers 12) b draft.geometry free_block.0 its_number in
      let zeros_fit : suits_claims s Zero ((4096 * b) / 4096) ≡ true = ap (suits_claims s Zero) (at b ∙ sym its_number) ∙ suits_at_index s i v 12 Zero used some directory_now in
      let chunk_fits : suits_claims s Chunk ((4096 * b + 512 * 0) / 4096) ≡ true = ap (suits_claims s Chunk) (chunk_block b 0 low ∙ sym its_number) ∙ suits_at_index s i v 12 Chunk used some directory_now in
      let pointer_here : Contains v.pointers pointer = subst (λ (l : List NamedPointer). Contains l pointer) (sym now) (Contains_head pointer []) in
      let pointer_zeros_fit : suits_claims s Zero ((4096 * p) / 4096) ≡ true = ap (suits_claims s Zero) (at p) ∙ suits_at_pointer s i v pointer Zero used pointer_here some_pointer refl in
      let number_fits : suits_claims s Pointers ((4096 * p + 4 * 0) / 4096) ≡ true = ap (suits_claims s Pointers) number_at ∙ suits_at_pointer s i v pointer Pointers used pointer_here some_pointer refl in
      drawn_by_many g base taken change hands after others i (InUse v) node draft inside changes
      (keeps g base taken change hands after others i u d directory has grows kept_then added before)
      (news g base taken change hands after others i u d directory has grows kept_then added)
      more refl (
        record { own = pointer_zeros_own; lays = refl; fitting = pointer_zeros_fit },
        (
          record { own = number_own; lays = refl; fitting = number_fits },
          (
            record { own = zeros_own; lays = refl; fitting = zeros_fit },
            (
              record { own = chunk_own; lays = refl; fitting = chunk_fits },
              (record { own = record_own; lays = refl; fitting = inode_suited g i (Some d) draft.geometry within is s }, tt),
            ),
          ),
        ),
      )
      (λ many. gives g base taken change hands after others i u d directory has grows kept_then added (all_laid_in change.deltas more)
      (λ claim mine free place under. new_in_whole g base taken change more s (is_loose before after) i u v r has.used many added_all claim mine free place under)
      (λ claim mine part rest place from high. absurd (no_rest g base taken change hands after others i u d directory has grows kept_then added 12 eight rest))
      (λ claim mine. part_fits g others after changes.stored i v claim used mine))
