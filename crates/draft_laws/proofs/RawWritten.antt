-- One raw write more: in a block that is held, or in one of a file.
use Rattle.std.proofs.Common.{◌≡◌, ◌≢◌, ◌<◌, ◌≤◌, inl, inr, ℕ, ◌+◌, ◌*◌, ◌/◌, ◌%◌, eqb, Bool, true, false, not, ◌||◌, cond, List, [], ◌∷◌, length, take, slice_index, Option, Some, None, refl, sym, ap, ◌∙◌, subst, arith}
use Rattle.std.specs.Prelude.{slice_index_or}
use Rattle.std.specs.List.{All, Contains}
use Rattle.std.specs.Option.{option_map}
use Rattle.std.proofs.lemmas.Bool.{cases_Bool, both_ways, cond-true, cond-false, and_left, and_right, ne_eqb, eqb-true, eq-eqb}
use Rattle.std.proofs.lemmas.List.Elements.{All-push, All-head, All-tail, All-weaker}
use Rattle.lufs_base.specs.Fields.{put_at}
use Rattle.lufs_base.specs.Layout.{blocks_of}
use Rattle.lufs_base.specs.declared.geometry.Geometry.{Geometry}
use Rattle.lufs_base.specs.declared.delta.Delta.{Delta}
use Rattle.lufs_base.specs.declared.delta.DeltaKind.TheVariants.{Chunk}
use Rattle.volume_model.specs.declared.hand.Hand.{Hand}
use Rattle.volume_model.specs.Format.{Image, Blocks, block, is_body, is_file}
use Rattle.volume_model.specs.Crash.{image_after}
use Rattle.volume_model.specs.Log.{is_cancel, lays_on}
use Rattle.volume_model.specs.Sound.{UsedInode, Reading, reading_of, used_at, Claim, index_claim, claims_of, is_claimed, IsLaid, IsStored, held_blocks, is_among, metadata_length, read_length, FileNode, File, with_node, file_block, tree_of}
use Rattle.volume_laws.specs.Changes.{AgreeBut, AgreeWhereReadBut, with_block}
use Rattle.volume_laws.proofs.ClaimFacts.{claims_its_block, index_claimed}
use Rattle.volume_laws.proofs.LaidClaims.{metadata_of_claim}
use Rattle.volume_laws.proofs.StoredClaims.{stored_is_laid}
use Rattle.volume_laws.proofs.SameReading.{reading_same}
use Rattle.volume_laws.proofs.SameTree.{agree_in_metadata, same_tree_of}
use Rattle.volume_laws.proofs.LessAgreement.{agree_in_metadata_but}
use Rattle.volume_laws.proofs.ContentLaws.{file_reading, file_tree}
use Rattle.volume_laws.proofs.NodeFacts.{file_by_node}
use Rattle.volume_laws.proofs.UnclaimedBlocks.{agree_where_read}
use Rattle.change_laws.specs.Plans.{HasInode}
use Rattle.change_laws.proofs.Places.{body_inside}
use Rattle.meta_store.specs.declared.change.Change.{Change}
use Rattle.meta_store.specs.declared.change.RawWrite.{RawWrite}
use Rattle.meta_store.specs.Laid.{laid_block}
use Rattle.meta_store.specs.Changes.{writes_of, deltas_on, frees}
use Rattle.meta_store.specs.Conditions.{IsInBlock}
use Rattle.meta_store.specs.Suited.{suits_block}
use Rattle.meta_store.proofs.LaidBlocks.{block_laid_over, nothing_laid}
use Rattle.meta_store.proofs.PlainSteps.{raw_fits, raw_size}
use Rattle.meta_store.proofs.PutBytes.{block_put, raw_more}
use Rattle.meta_draft.specs.Drafted.{drafted_blocks, with_raw}
use Rattle.draft_laws.specs.Follows.{is_loose, FollowsSoFar}
use Rattle.draft_laws.specs.Drafts.{IsDraft, Draws}
use Rattle.draft_laws.specs.Freeing.{KeepsTree}
use Rattle.draft_laws.proofs.SuitedBeside.{unsuited}
use Rattle.draft_laws.proofs.MetadataLengths.{suited_some}
use Rattle.draft_laws.proofs.Continues.{held_free, none_of_free}
use Rattle.draft_laws.proofs.OneInodeStep.{length_with}
use Rattle.draft_laws.proofs.Contents.{drafted_sized, put_agree}
use Rattle.draft_laws.proofs.FileParts.{none_at_index}

-- no delta that lays bytes lies on the block
none_on : (b : ℕ) (deltas : List Delta) → All (λ e. e.home / 4096 ≡ b → is_cancel e.kind ≡ false → ⊥) deltas → deltas_on deltas b ≡ []
none_on b [] all = refl
none_on b (e ∷ deltas) all =
    let rest = none_on b deltas (All-tail (λ (x : Delta). x.home / 4096 ≡ b → is_cancel x.kind ≡ false → ⊥) e deltas all) in
    let first = All-head (λ (x : Delta). x.home / 4096 ≡ b → is_cancel x.kind ≡ false → ⊥) e deltas all in
    let out : lays_on b e ≡ false = elim (cases_Bool (eqb (e.home / 4096) b)) [
      | inr apart ↦ and_left (eqb (e.home / 4096) b) (not (is_cancel e.kind)) apart
      | inl here ↦ elim (cases_Bool (is_cancel e.kind)) [
        | inl cancel ↦ and_right (eqb (e.home / 4096) b) (not (is_cancel e.kind)) (ap not cancel)
        | inr lays ↦ absurd (first (eqb-true (e.home / 4096) b here) lays)
      ]
    ] in
    cond-false (lays_on b e) (e ∷ deltas_on deltas b) (deltas_on deltas b) out ∙ rest

module _ (g : Geometry) (base : Image) (taken : ℕ → Bool) (change : Change) (hands : List Hand) (w : RawWrite) (draft : IsDraft g base taken change hands) (in_block : IsInBlock g w) where
  abbrev b : ℕ
  b = w.first / 8

  abbrev at : ℕ
  at = 512 * (w.first % 8)

  abbrev next : Change
  next = with_raw change w

  abbrev blocks : Blocks
  blocks = drafted_blocks change base

  abbrev others : Blocks
  others = drafted_blocks next base

  abbrev r : Reading
  r = reading_of g blocks

  abbrev before : Reading
  before = reading_of g (block base)

  r_laid : IsLaid g r
  r_laid = stored_is_laid g r hands draft.stored

  abbrev under : Image
  under = image_after base (writes_of change.raw)

  whole : 4096 * blocks_of g ≤ length base
  whole = omega (arith, draft.room)

  under_size : length under ≡ length base
  under_size = raw_size base change.raw (All-weaker (IsInBlock g) (λ v. 512 * v.first + length v.bytes ≤ length base) (λ v its. raw_fits g base v whole its) change.raw draft.recorded.raw)

  inside : b < blocks_of g
  inside = body_inside g b in_block.body

  -- what the write puts into the image
  put : (c : ℕ) → block (image_after base (writes_of next.raw)) c ≡ cond (eqb c b) (put_at (block under c) at w.bytes) (block under c)
  put c =
      let its_block : (512 * w.first) / 4096 ≡ b = omega arith in
      let its_place : (512 * w.first) % 4096 ≡ at = omega arith in
      ap (λ (image : Image). block image c) (raw_more base change.raw w)
      ∙ block_put under (512 * w.first) w.bytes c (omega (arith, its_place, in_block.inside)) (omega (arith, its_block, inside, whole, under_size))
      ∙ (λ t. cond (eqb c (its_block t)) (put_at (block under c) (its_place t) w.bytes) (block under c))

  elsewhere : (c : ℕ) → c ≢ b → others c ≡ blocks c
  elsewhere c apart =
      sym (block_laid_over (deltas_on change.deltas) (image_after base (writes_of next.raw)) c)
      ∙ ap (laid_block (deltas_on change.deltas c)) (put c ∙ cond-false (eqb c b) (put_at (block under c) at w.bytes) (block under c) (ne_eqb c b apart))
      ∙ block_laid_over (deltas_on change.deltas) under c

  -- where no delta lies on the block
  module _ (none : All (λ e. e.home / 4096 ≡ b → is_cancel e.kind ≡ false → ⊥) change.deltas) where
    there : others b ≡ put_at (blocks b) at w.bytes
    there =
        let nothing = none_on b change.deltas none in
        let now : others b ≡ block (image_after base (writes_of next.raw)) b =
        sym (block_laid_over (deltas_on change.deltas) (image_after base (writes_of next.raw)) b)
        ∙ ap (λ (l : List Delta). laid_block l (block (image_after base (writes_of next.raw)) b)) nothing ∙ sym (nothing_laid (block (image_after base (writes_of next.raw)) b)) in
        let then : blocks b ≡ block under b =
        sym (block_laid_over (deltas_on change.deltas) under b) ∙ ap (λ (l : List Delta). laid_block l (block under b)) nothing ∙ sym (nothing_laid (block under b)) in
        now ∙ put b ∙ cond-true (eqb b b) (put_at (block under b) at w.bytes) (block under b) (eq-eqb b b refl) ∙ ap (λ (l : List ℕ). put_at l at w.bytes) (sym then)

    agree : (lengths : ℕ → ℕ) → AgreeBut lengths blocks others b at (length w.bytes)
    agree lengths =
        let size = drafted_sized g base change draft.room draft.recorded.raw b inside in
        put_agree lengths blocks others b at w.bytes (omega (arith, size, in_block.inside)) elsewhere there

    -- the change is still a draft, with the same reading
    module _ (same : reading_of g others ≡ r) (empty_before : metadata_length g before b ≡ 0) (empty_now : metadata_length g r b ≡ 0) where
      follows : FollowsSoFar g next taken (is_loose before hands) before r
      follows = record {
        raw_before = All-push (λ (v : RawWrite). metadata_length g before (v.first / 8) ≡ 0) change.raw w draft.follows.raw_before empty_before;
        raw_after = All-push (λ (v : RawWrite). metadata_length g r (v.first / 8) ≡ 0) change.raw w draft.follows.raw_after empty_now;
        suited = draft.follows.suited;
        loosened = draft.follows.loosened;
        given = draft.follows.given;
        stays = draft.follows.stays;
        grows = draft.follows.grows;
        claimed = λ c was now.
            let first = draft.follows.claimed c was now in
            record { body = first.body; in_transaction = first.in_transaction; bit = first.bit; whole = first.whole };
        marked = λ c freed.
            let first = draft.follows.marked c freed in
            record { claimed = first.claimed; unclaimed = first.unclaimed; metadata = first.metadata };
        bits = record { set = draft.follows.bits.set; cleared = draft.follows.bits.cleared };
      }

      still_draft : IsDraft g base taken next hands
      still_draft = record {
        geometry = draft.geometry;
        room = draft.room;
        start = draft.start;
        began = draft.began;
        recorded = record { deltas = draft.recorded.deltas; cancels = draft.recorded.cancels; raw = All-push (IsInBlock g) change.raw w draft.recorded.raw in_block };
        stored = subst (λ (x : Reading). IsStored g x hands) (sym same) draft.stored;
        follows = subst (λ (x : Reading). FollowsSoFar g next taken (is_loose before hands) before x) (sym same) follows;
      }

  -- in a block of a hand that wasn't claimed before
  module _ (held : is_among b (held_blocks hands) ≡ true) (unclaimed : is_claimed before b ≡ false) where
    free : (is_body g b ≡ true) × (is_claimed r b ≡ false)
    free = held_free g r hands draft.stored b held

    none_held : All (λ e. e.home / 4096 ≡ b → is_cancel e.kind ≡ false → ⊥) change.deltas
    none_held k d within =
        let e : Delta = slice_index_or change.deltas k d in
        λ its lays.
        let tight : is_loose before hands (e.home / 4096) ≡ false = and_left (is_claimed before (e.home / 4096)) (is_among (e.home / 4096) (held_blocks hands)) (ap (is_claimed before) its ∙ unclaimed) in
        let fitting : suits_block g r e.kind (e.home / 4096) ≡ true = ap (λ (t : Bool). t || suits_block g r e.kind (e.home / 4096)) (sym lays) ∙ draft.follows.suited k d within tight in
        unsuited g r r_laid e.kind b free.0 free.1 (sym (ap (suits_block g r e.kind) its) ∙ fitting)

    pub raw_held : KeepsTree g base taken change next hands × (others b ≡ put_at (blocks b) at w.bytes)
    raw_held =
        let agrees = agree_where_read g blocks others b at (length w.bytes) free.0 free.1 (agree none_held (read_length g r)) in
        let same = reading_same g blocks others draft.geometry (agree_in_metadata g blocks others agrees) in (
          record {
            draft = still_draft none_held same (none_of_free g before b free.0 unclaimed) (none_of_free g r b free.0 free.1);
            tree = same_tree_of g blocks others draft.geometry agrees;
            used = λ k. ap (λ (x : Reading). used_at x k) same;
          },
          there none_held,
        )

  -- in a block of a file
  module _ (i k : ℕ) (u : UsedInode) (file : FileNode) (has : HasInode g blocks hands i u (File file)) (number : slice_index u.numbers k ≡ b) (some : eqb b 0 ≡ false) where
    file_was : is_file u.inode.mode ≡ true
    file_was = file_by_node g blocks i u file has.used has.stands

    abbrev claim : Claim
    claim = index_claim i u k

    some_number : eqb (slice_index u.numbers k) 0 ≡ false
    some_number = ap (λ (m : ℕ). eqb m 0) number ∙ some

    claimed : Contains (claims_of r) claim
    claimed = index_claimed r i u k has.used some_number

    is_claimed_now : is_claimed r b ≡ true
    is_claimed_now = sym (ap (is_claimed r) number) ∙ claims_its_block r claim claimed

    empty : metadata_length g r b ≡ 0
    empty = sym (ap (metadata_length g r) number) ∙ metadata_of_claim g r r_laid claim claimed ∙ length_with r claim u has.used ∙ none_at_index u k file_was

    unheld : is_loose before hands b ≡ false
    unheld = and_right (is_claimed before b) (is_among b (held_blocks hands)) (elim (cases_Bool (is_among b (held_blocks hands))) [
      | inl held ↦ absurd (both_ways (is_claimed r b) (held_free g r hands draft.stored b held).1 is_claimed_now)
      | inr not_so ↦ not_so
    ])

    none_of_file : All (λ e. e.home / 4096 ≡ b → is_cancel e.kind ≡ false → ⊥) change.deltas
    none_of_file n d within =
        let e : Delta = slice_index_or change.deltas n d in
        λ its lays.
        let tight : is_loose before hands (e.home / 4096) ≡ false = ap (is_loose before hands) its ∙ unheld in
        let fitting : suits_block g r e.kind (e.home / 4096) ≡ true = ap (λ (t : Bool). t || suits_block g r e.kind (e.home / 4096)) (sym lays) ∙ draft.follows.suited n d within tight in
        let enough = suited_some g blocks hands draft.stored e.kind b (sym (ap (suits_block g r e.kind) its) ∙ fitting) in
        omega (arith, enough, empty)

    empty_then : metadata_length g before b ≡ 0
    empty_then = elim (cases_Bool (is_claimed before b)) [
      | inr unclaimed ↦ none_of_free g before b in_block.body unclaimed
      | inl was ↦
          let unfreed : frees change b ≡ false = elim (cases_Bool (frees change b)) [
            | inl freed ↦ absurd (both_ways (is_claimed r b) (draft.follows.marked b freed).unclaimed is_claimed_now)
            | inr not_so ↦ not_so
          ] in
          let stays = draft.follows.stays b was unfreed unheld in
          elim (cases_Bool (suits_block g before Chunk b)) [
            | inl chunk ↦ absurd (omega (arith, suited_some g blocks hands draft.stored Chunk b (stays.kinds Chunk ∙ chunk), empty))
            | inr no_chunk ↦ sym (stays.length no_chunk) ∙ empty
          ]
    ]

    pub raw_of_file : Draws g base taken change next i
        (Some (File (with_block file k (Some (take 4096 (put_at (drafted_blocks change base b) at w.bytes)))))) (Some u.inode.links) hands
    raw_of_file =
        let agrees : AgreeWhereReadBut g blocks others (slice_index u.numbers k) at (length w.bytes) =
        subst (λ (c : ℕ). AgreeWhereReadBut g blocks others c at (length w.bytes)) (sym number) (agree none_of_file (read_length g r)) in
        let mostly = agree_in_metadata_but g blocks others (slice_index u.numbers k) at (length w.bytes) agrees in
        let same = file_reading g blocks others i k at (length w.bytes) u draft.geometry r_laid has.used some_number file_was mostly in
        let tree = file_tree g blocks others i k at (length w.bytes) u draft.geometry r_laid has.used some_number file has.stands agrees in
        let bytes : file_block others (slice_index u.numbers k) ≡ Some (take 4096 (put_at (blocks b) at w.bytes)) =
        ap (file_block others) number ∙ cond-false (eqb b 0) None (Some (take 4096 (others b))) some ∙ ap (λ (l : List ℕ). Some (take 4096 l)) (there none_of_file) in
        record {
          draft = still_draft none_of_file same empty_then empty;
          tree = tree ∙ ap (λ (o : Option (List ℕ)). with_node (tree_of g blocks) i (Some (File (with_block file k o)))) bytes;
          own_links = ap (λ (x : Reading). option_map (λ (v : UsedInode). v.inode.links) (used_at x i)) same ∙ ap (option_map (λ (v : UsedInode). v.inode.links)) has.used;
          others = λ m apart. ap (λ (x : Reading). used_at x m) same;
        }
