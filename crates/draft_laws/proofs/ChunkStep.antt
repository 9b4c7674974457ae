-- A chunk of a directory becomes another one.
use Rattle.std.proofs.Common.{◌≡◌, ◌<◌, ℕ, ◌+◌, ◌*◌, ◌/◌, ◌%◌, eqb, Bool, true, false, List, [], length, take, drop, slice_index, Some, refl, sym, ap, ◌∙◌, subst, arith}
use Rattle.std.specs.Prelude.{slice_set}
use Rattle.std.specs.Option.{unwrap_or}
use Rattle.std.proofs.lemmas.Bool.{cond-false}
use Rattle.std.proofs.lemmas.List.{length-set, length-map}
use Rattle.lufs_base.specs.declared.geometry.Geometry.{Geometry}
use Rattle.lufs_base.specs.declared.delta.DeltaKind.TheVariants.{Chunk}
use Rattle.volume_model.specs.declared.hand.Hand.{Hand}
use Rattle.volume_model.specs.declared.directory.Slot.{Slot}
use Rattle.volume_model.specs.Format.{Image, Blocks, block, is_body, is_directory, IsChunk, chunk_bytes, chunk_of}
use Rattle.volume_model.specs.Sound.{UsedInode, InUse, Reading, reading_of, inodes_in, used_at, index_claim, chunk_at, read_length, DirectoryNode, Directory}
use Rattle.volume_laws.specs.Changes.{AgreeBut, with_chunk}
use Rattle.volume_laws.proofs.ClaimFacts.{used_within, index_claimed}
use Rattle.volume_laws.proofs.FieldFacts.{fields_of_numbers}
use Rattle.volume_laws.proofs.LaidClaims.{body_of_claim}
use Rattle.volume_laws.proofs.StoredClaims.{right_numbers, stored_is_laid}
use Rattle.volume_laws.proofs.SameReading.{not_file, chunks_counted}
use Rattle.volume_laws.proofs.NodeClaims.{directory_size}
use Rattle.volume_laws.proofs.NodeFacts.{directory_by_node}
use Rattle.volume_laws.proofs.BodyChanges.{has_record}
use Rattle.change_laws.specs.Plans.{HasInode}
use Rattle.change_laws.proofs.ChunkSteps.{number_there}
use Rattle.change_laws.proofs.OneInode.{used_changed}
use Rattle.dir_blocks.proofs.WrittenSlots.{chunk_read_back_of}
use Rattle.meta_store.specs.declared.change.Change.{Change}
use Rattle.meta_store.specs.Deltas.{chunk_delta}
use Rattle.meta_draft.specs.Drafted.{drafted_blocks, with_delta}
use Rattle.meta_store.specs.Merged.{merged}
use Rattle.meta_store.specs.Suited.{suits_claims}
use Rattle.draft_laws.specs.Laying.{with_laid}
use Rattle.draft_laws.specs.Drafts.{IsDraft, Draws}
use Rattle.draft_laws.proofs.Contents.{drafted_sized, agree_but, there}
use Rattle.draft_laws.proofs.RecordDeltas.{chunk_loggable}
use Rattle.draft_laws.proofs.SuitedParts.{suits_at_index}
use Rattle.draft_laws.proofs.InodeDrawn.{drawn_by_one}
use Rattle.draft_laws.proofs.ChangeFacts.{chunk_replaced}
use Rattle.draft_laws.proofs.RecordSteps.{keeps_all, has_all, gives_all}

-- what is known of chunk k of a directory that is stored right
pub record HasChunk (g : Geometry) (u : UsedInode) (k : ℕ) : Type 0 where
  pub directory : is_directory u.inode.mode ≡ true
  pub within : k < length u.chunks
  pub some : eqb (slice_index u.numbers (k / 8)) 0 ≡ false
  pub body : is_body g (slice_index u.numbers (k / 8)) ≡ true

pub has_chunk : (g : Geometry) (blocks : Blocks) (hands : List Hand) (i k : ℕ) (u : UsedInode) (node : DirectoryNode) → HasInode g blocks hands i u (Directory node) → k < length node.chunks → HasChunk g u k
has_chunk g blocks hands i k u node has below =
    let r = reading_of g blocks in
    let by_node = directory_by_node g blocks i u node has.used has.stands in
    let right = fields_of_numbers g i u (right_numbers g r i u hands has.stored has.used) in
    let found = has_record g blocks i u has.used in
    let directory : is_directory u.inode.mode ≡ true = by_node.0 in
    let no_file = not_file u.inode.mode directory in
    let count : length node.chunks ≡ length u.chunks = ap (λ (d : DirectoryNode). length d.chunks) by_node.1 ∙ length-map u.chunks (λ chunk. unwrap_or chunk []) in
    let counted : length u.chunks ≡ u.inode.size / 512 =
    subst (λ (v : UsedInode). is_directory v.inode.mode ≡ true → length v.chunks ≡ v.inode.size / 512) found.leads (chunks_counted blocks found.dinode) directory in
    let some = number_there g i u right no_file (k / 8) (omega (arith, below, count, counted, directory_size g u.inode right.size no_file directory)) in
    let within : k < length u.chunks = omega (arith, below, count) in
    record {
      directory = directory;
      within = within;
      some = some;
      body = body_of_claim g r (stored_is_laid g r hands has.stored) (index_claim i u (k / 8)) (index_claimed r i u (k / 8) has.used some);
    }

-- where a chunk lies
pub chunk_block : (b j : ℕ) → j < 8 → (4096 * b + 512 * j) / 4096 ≡ b
chunk_block b j low = omega (arith, low)

pub chunk_place : (b j : ℕ) → j < 8 → (4096 * b + 512 * j) % 4096 ≡ 512 * j
chunk_place b j low = omega (arith, low)

pub chunk_drawn : (g : Geometry) (base : Image) (taken : ℕ → Bool) (change : Change) (hands : List Hand) (i k : ℕ) (u : UsedInode) (directory : DirectoryNode) (slots : List Slot) → IsDraft g base taken change hands
    → HasInode g (drafted_blocks change base) hands i u (Directory directory) → k < length directory.chunks → IsChunk slots
    → Draws g base taken change (with_delta change (chunk_delta (slice_index u.numbers (k / 8)) (k % 8) (chunk_bytes slots))) i
    (Some (Directory (record directory { chunks = slice_set directory.chunks k slots }))) (Some u.inode.links) hands
chunk_drawn g base taken change hands i k u directory slots draft has below is =
    let blocks = drafted_blocks change base in
    let r = reading_of g blocks in
    let b = slice_index u.numbers (k / 8) in
    let j = k % 8 in
    let low : j < 8 = omega arith in
    let chunk = has_chunk g blocks hands i k u directory has below in
    let delta = chunk_delta b j (chunk_bytes slots) in
    let others = with_laid blocks delta in
    let own = chunk_loggable g b j slots chunk.body low is in
    let sized = drafted_sized g base change draft.room draft.recorded.raw in
    let v = with_chunk u k (Some slots) in
    let inside : i < inodes_in r = used_within r i u has.used in
    let at = chunk_block b j low in
    let place = chunk_place b j low in
    let lengths = read_length g r in
    let agree : AgreeBut lengths blocks others b (512 * j) 512 =
    subst (λ (p : ℕ). AgreeBut lengths blocks others b p 512) place (subst (λ (c : ℕ). AgreeBut lengths blocks others c ((4096 * b + 512 * j) % 4096) 512) at (agree_but g blocks delta sized own refl lengths)) in
    let bytes : take 512 (drop (512 * j) (others b)) ≡ chunk_bytes slots =
    (λ t. take 512 (drop (sym place t) (others (sym at t)))) ∙ there g blocks delta sized own refl in
    let read : chunk_at others u.numbers k ≡ Some slots =
    ap (λ (l : List ℕ). chunk_of (take 512 (drop (512 * j) l))) (cond-false (eqb b 0) [] (others b) chunk.some) ∙ ap chunk_of bytes ∙ chunk_read_back_of slots is in
    let changes = chunk_replaced g blocks others i k u directory slots hands has below agree read in
    let count = length-set u.chunks k (Some slots) in
    let after : Reading = reading_of g others in
    let used : used_at after i ≡ Some v = ap (λ (x : Reading). used_at x i) changes.reading ∙ used_changed r i (InUse v) inside in
    let fitting : suits_claims after Chunk ((4096 * b + 512 * j) / 4096) ≡ true = ap (suits_claims after Chunk) at ∙ suits_at_index after i v (k / 8) Chunk used chunk.some chunk.directory in
    drawn_by_one g base taken change hands hands others i (InUse v) (Some (Directory (record directory { chunks = slice_set directory.chunks k slots }))) draft inside changes
    (keeps_all g r i u v has.used refl refl count refl (reading_of g (block base)) hands)
    (has_all g r i u v has.used refl refl count refl (reading_of g (block base)) taken change)
    delta refl own refl fitting
    (gives_all g r i u v has.used refl refl count refl (merged change.deltas delta) inside)
