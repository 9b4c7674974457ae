-- An inode in use is freed: it and its blocks are held after, and these are still to be freed.
use Rattle.std.proofs.Common.{◌≡◌, ◌<◌, ◌≤◌, inl, inr, ℕ, ◌*◌, ◌%◌, eqb, Bool, true, false, not, ◌&&◌, List, [], ◌∷◌, slice_index, Some, None, refl, sym, ap, ◌∙◌, subst, arith}
use Rattle.std.specs.Prelude.{All, nat_lt, nat_le, ◌==◌, slice_index_or}
use Rattle.std.specs.List.{Contains}
use Rattle.std.proofs.lemmas.Bool.{cases_Bool, both_ways, and_parts, eq-eqb, ltb-true, lt-ltb, cond-true}
use Rattle.std.proofs.lemmas.List.Elements.{All-contains, All-map, All-contains_itself}
use Rattle.lufs_base.specs.declared.geometry.Geometry.{Geometry}
use Rattle.lufs_base.specs.declared.delta.DeltaKind.TheVariants.{Chunk, Pointers, LinkText}
use Rattle.volume_model.specs.declared.hand.Hand.{Hand}
use Rattle.volume_model.specs.Format.{Image, Blocks, block, inodes_of, is_file, is_directory, is_link, dinode_bytes}
use Rattle.volume_model.specs.Sound.{Single, UsedInode, Unused, Reading, reading_of, inodes_in, used_at, Claim, index_claim, pointer_claim, claims_in, claims_of, is_claimed, held_blocks, is_among, index_length, most_blocks, metadata_claim_length, metadata_length, IsStored, Node}
use Rattle.volume_laws.proofs.ClaimFacts.{length-inodes, used_within, claimed_in, claims_its_block, index_claimed}
use Rattle.volume_laws.proofs.FieldFacts.{fields_of_numbers}
use Rattle.volume_laws.proofs.LaidClaims.{metadata_of_claim}
use Rattle.volume_laws.proofs.StoredClaims.{right_numbers, stored_is_laid}
use Rattle.volume_laws.proofs.NumberChange.{its_pointer}
use Rattle.change_laws.specs.Hands.{HoldTheSame, times}
use Rattle.change_laws.specs.Exchange.{claimed_blocks}
use Rattle.change_laws.specs.Plans.{HasInode, HoldMore}
use Rattle.change_laws.proofs.Counts.{among_counted}
use Rattle.change_laws.proofs.SameHands.{stored_same}
use Rattle.meta_store.specs.declared.change.Change.{Change}
use Rattle.meta_store.specs.Merged.{merged}
use Rattle.meta_store.specs.Deltas.{inode_delta}
use Rattle.meta_draft.specs.Drafted.{drafted_blocks, with_delta}
use Rattle.draft_laws.specs.Laying.{with_laid}
use Rattle.draft_laws.specs.Follows.{is_loose, FollowsSoFar}
use Rattle.draft_laws.specs.Drafts.{IsDraft, Draws}
use Rattle.draft_laws.proofs.ClaimUses.{passes_of}
use Rattle.draft_laws.proofs.MetadataLengths.{claim_some, type_of_size}
use Rattle.draft_laws.proofs.OneInodeStep.{length_with, suits_with, inode_gives}
use Rattle.draft_laws.proofs.Contents.{drafted_sized}
use Rattle.draft_laws.proofs.RecordDeltas.{inode_loggable, inode_suited}
use Rattle.draft_laws.proofs.InodeDrawn.{drawn_by_one}
use Rattle.draft_laws.proofs.Written.{writes_it}
use Rattle.draft_laws.proofs.ChangeFacts.{inode_freed}
use Rattle.draft_laws.proofs.RecordSteps.{same_used}
use Rattle.draft_laws.proofs.NewSteps.{among_blocks, held_by, none_some}

-- a member stands there once at least
pub once_there : (b : ℕ) (numbers : List ℕ) → Contains numbers b → 1 ≤ times b numbers
once_there b numbers here =
    let among : is_among b numbers ≡ true = passes_of (λ (m : ℕ). eqb m b) numbers b here (eq-eqb b b refl) in
    let some = ltb-true 0 (times b numbers) (sym (among_counted b numbers) ∙ among) in
    omega (arith, some)

pub freed_drawn : (g : Geometry) (base : Image) (taken : ℕ → Bool) (change : Change) (hands after : List Hand) (i : ℕ) (u : UsedInode) (node : Node) → IsDraft g base taken change hands
    → HasInode g (drafted_blocks change base) hands i u node → All (λ b. is_claimed (reading_of g (block base)) b ≡ true) (claimed_blocks i (Some u))
    → HoldMore after hands (i ∷ []) (claimed_blocks i (Some u))
    → Draws g base taken change (with_delta change (inode_delta g i (dinode_bytes None))) i None None after
freed_drawn g base taken change hands after i u node draft has claimed more =
    let blocks = drafted_blocks change base in
    let r = reading_of g blocks in
    let before = reading_of g (block base) in
    let delta = inode_delta g i (dinode_bytes None) in
    let others = with_laid blocks delta in
    let inside : i < inodes_in r = used_within r i u has.used in
    let within : i < inodes_of g = omega (arith, inside, length-inodes g blocks) in
    let sized = drafted_sized g base change draft.room draft.recorded.raw in
    let writes = writes_it g blocks i None has.geometry within tt sized in
    let changes = inode_freed g blocks others i u node hands after has writes more in
    drawn_by_one g base taken change hands after others i Unused None draft inside changes
    (λ w was claim mine.
    let same : w ≡ u = same_used u w w r i has.used was in
    let its : Contains (claims_in i u) claim = subst (λ (x : UsedInode). Contains (claims_in i x) claim) same mine in
    let here = among_blocks i u claim its in
    inr (
      All-contains (λ b. is_claimed before b ≡ true) (claimed_blocks i (Some u)) claim.block claimed here,
      held_by after hands (i ∷ []) (claimed_blocks i (Some u)) claim.block more (once_there claim.block (claimed_blocks i (Some u)) here),
    ))
    (λ w now claim mine. absurd (none_some w now))
    delta refl (inode_loggable g i None has.geometry within tt) refl (inode_suited g i None has.geometry within tt (reading_of g others))
    (inode_gives g r i Unused inside (merged change.deltas delta)
    (λ x w was now claim mine its place low high. absurd (none_some w now))
    (λ w now claim mine free place below. absurd (none_some w now))
    (λ w now claim mine free chunk place below. absurd (none_some w now)))

-- a draft with hands that hold the same
pub hands_alike : (g : Geometry) (base : Image) (taken : ℕ → Bool) (change : Change) (hands others : List Hand) → HoldTheSame hands others → IsDraft g base taken change hands → IsDraft g base taken change others
hands_alike g base taken change hands others same draft =
    let before = reading_of g (block base) in
    let s = reading_of g (drafted_blocks change base) in
    let among : (b : ℕ) → is_among b (held_blocks hands) ≡ is_among b (held_blocks others) = λ b.
    among_counted b (held_blocks hands) ∙ ap (λ (n : ℕ). nat_lt 0 n) (sym (same.blocks b)) ∙ sym (among_counted b (held_blocks others)) in
    let loose : is_loose before hands ≡ is_loose before others = λ t b. is_claimed before b && among b t in
    record {
      geometry = draft.geometry;
      room = draft.room;
      start = draft.start;
      began = draft.began;
      recorded = draft.recorded;
      stored = stored_same hands others same g s draft.stored;
      follows = subst (λ (l : ℕ → Bool). FollowsSoFar g change taken l before s) loose draft.follows;
    }

-- which blocks of an inode hold metadata
module _ (g : Geometry) (blocks : Blocks) (hands : List Hand) (i : ℕ) (u : UsedInode) (stored : IsStored g (reading_of g blocks) hands) (used : used_at (reading_of g blocks) i ≡ Some u) where
  abbrev r : Reading
  r = reading_of g blocks

  pub all_claimed : All (λ b. is_claimed r b ≡ true) (claimed_blocks i (Some u))
  all_claimed =
      All-map (λ b. is_claimed r b ≡ true) (λ (c : Claim). c.block) (claims_in i u) (λ k d inside.
      claims_its_block r (slice_index_or (claims_in i u) k d) (claimed_in r i u (slice_index_or (claims_in i u) k d) used (All-contains_itself (claims_in i u) k d inside)))

  length_of : (claim : Claim) → Contains (claims_of r) claim → metadata_length g r claim.block ≡ metadata_claim_length r claim
  length_of claim here = metadata_of_claim g r (stored_is_laid g r hands stored) claim here

  pub pointer_metadata : eqb (slice_index u.inode.indirect 0) 0 ≡ false → nat_lt 0 (metadata_length g r (slice_index u.inode.indirect 0)) ≡ true
  pointer_metadata some =
      let claim = pointer_claim i (record { name = Single; block = slice_index u.inode.indirect 0 }) in
      let here = its_pointer g blocks i u used some in
      let enough = claim_some g blocks hands stored claim Pointers here (suits_with r Pointers claim u used) in
      lt-ltb 0 (metadata_length g r (slice_index u.inode.indirect 0)) (omega (arith, enough, length_of claim here))

  pub index_metadata : (k : ℕ) → eqb (slice_index u.numbers k) 0 ≡ false → nat_lt 0 (metadata_length g r (slice_index u.numbers k)) ≡ not (is_file u.inode.mode)
  index_metadata k some =
      let claim = index_claim i u k in
      let here = index_claimed r i u k used some in
      let m = u.inode.mode in
      let right = fields_of_numbers g i u (right_numbers g r i u hands stored used) in
      elim (cases_Bool (is_file m)) [
        | inl file ↦
            let none : metadata_length g r (slice_index u.numbers k) ≡ 0 =
            length_of claim here ∙ length_with r claim u used ∙ cond-true (is_file m) 0 (index_length u k) file in
            ap (nat_lt 0) none ∙ sym (ap not file)
        | inr other ↦
            let enough : 0 < metadata_claim_length r claim = elim (type_of_size (is_file m) (is_directory m && u.inode.size % 512 == 0 && nat_le 512 u.inode.size) (is_link m && nat_le 1 u.inode.size)
            (nat_le u.inode.size (4096 * most_blocks g)) (nat_le u.inode.size (4096 * 256)) (nat_le u.inode.size 1024) right.size) [
              | inl file ↦ absurd (both_ways (is_file m) other file)
              | inr rest ↦ elim rest [
                | inl some_directory ↦
                    let directory : is_directory m ≡ true = (and_parts (is_directory m) (u.inode.size % 512 == 0) (and_parts (is_directory m && u.inode.size % 512 == 0) (nat_le 512 u.inode.size) some_directory).0).0 in
                    claim_some g blocks hands stored claim Chunk here (suits_with r Chunk claim u used ∙ directory)
                | inr some_link ↦
                    let link : is_link m ≡ true = (and_parts (is_link m) (nat_le 1 u.inode.size) some_link.0).0 in
                    claim_some g blocks hands stored claim LinkText here (suits_with r LinkText claim u used ∙ link)
              ]
            ] in
            lt-ltb 0 (metadata_length g r (slice_index u.numbers k)) (omega (arith, enough, length_of claim here)) ∙ sym (ap not other)
      ]
