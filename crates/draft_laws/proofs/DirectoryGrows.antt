-- A directory gets one chunk more: what it keeps, and what is to be given.
use Rattle.std.proofs.Common.{◌≡◌, ◌≢◌, ◌<◌, ◌≤◌, ◌⊎◌, inl, inr, ℕ, ◌+◌, ◌-◌, ◌*◌, ◌/◌, ◌%◌, min, Bool, true, false, List, length, refl, sym, ap, ◌∙◌, subst, arith}
use Rattle.std.specs.List.{Contains}
use Rattle.std.proofs.lemmas.Bool.{true≢false}
use Rattle.lufs_base.specs.declared.geometry.Geometry.{Geometry}
use Rattle.lufs_base.specs.declared.delta.Delta.{Delta}
use Rattle.lufs_base.specs.declared.delta.DeltaKind.TheVariants.{Chunk}
use Rattle.volume_model.specs.declared.hand.Hand.{Hand}
use Rattle.volume_model.specs.declared.inode.Dinode.{Dinode}
use Rattle.volume_model.specs.Format.{Image, Blocks, block, is_directory}
use Rattle.volume_model.specs.Sound.{UsedInode, InUse, Reading, reading_of, used_inode, AtIndex, Claim, claims_in, is_claimed, DirectoryNode, Directory}
use Rattle.volume_laws.specs.Changes.{with_state}
use Rattle.volume_laws.proofs.ClaimFacts.{used_within}
use Rattle.volume_laws.proofs.FieldFacts.{fields_of_numbers}
use Rattle.volume_laws.proofs.StoredClaims.{right_numbers}
use Rattle.volume_laws.proofs.SameReading.{chunks_counted}
use Rattle.change_laws.specs.Plans.{HasInode, GrowsByChunk}
use Rattle.change_laws.proofs.InodeRights.{same_directory}
use Rattle.change_laws.proofs.DirectoryGrowth.{CountsChunks, chunks_of_directory}
use Rattle.meta_store.specs.declared.change.Change.{Change}
use Rattle.meta_store.specs.Conditions.{is_given}
use Rattle.meta_draft.specs.Drafted.{drafted_blocks}
use Rattle.meta_store.specs.Suited.{suits_part}
use Rattle.draft_laws.specs.Drafts.{MayAttach}
use Rattle.draft_laws.proofs.MetadataLengths.{metadata_of_part, part_cases, directory_part, below_size}
use Rattle.draft_laws.proofs.Continues.{Gives}
use Rattle.draft_laws.proofs.OneInodeStep.{KeepsPart, inode_gives}
use Rattle.draft_laws.proofs.InodeDrawn.{KeepsOrLoses, HadOrGets}
use Rattle.draft_laws.proofs.Parts.{same_kinds}
use Rattle.draft_laws.proofs.RecordSteps.{same_used}
use Rattle.draft_laws.proofs.NewSteps.{may_attach, same_use}

module _ (g : Geometry) (base : Image) (taken : ℕ → Bool) (change : Change) (hands after : List Hand) (others : Blocks) (i : ℕ) (u : UsedInode) (d : Dinode) (directory : DirectoryNode)
    (has : HasInode g (drafted_blocks change base) hands i u (Directory directory)) (grows : GrowsByChunk u.inode d)
    (kept : (claim : Claim) → Contains (claims_in i u) claim → Contains (claims_in i (used_inode others d)) claim)
    (added : (claim : Claim) → Contains (claims_in i (used_inode others d)) claim → Contains (claims_in i u) claim ⊎ MayAttach g base taken change claim.block) where
  abbrev r : Reading
  r = reading_of g (drafted_blocks change base)

  abbrev v : UsedInode
  v = used_inode others d

  counts : CountsChunks u directory
  counts = chunks_of_directory g (drafted_blocks change base) i u directory hands has.stored has.used has.stands

  pub is_directory_still : is_directory d.mode ≡ true
  is_directory_still = same_directory d.mode u.inode.mode grows.type ∙ counts.is

  one_more : length v.chunks ≡ length directory.chunks + 1
  one_more = omega (arith, chunks_counted others d is_directory_still, grows.size, counts.size)

  old_part : (index : ℕ) → metadata_of_part u (AtIndex index) ≡ 512 * min 8 (length directory.chunks - 8 * index)
  old_part index = directory_part u index counts.is ∙ ap (λ (n : ℕ). 512 * min 8 (n - 8 * index)) counts.count

  new_part : (index : ℕ) → metadata_of_part v (AtIndex index) ≡ 512 * min 8 (length directory.chunks + 1 - 8 * index)
  new_part index = directory_part v index is_directory_still ∙ ap (λ (n : ℕ). 512 * min 8 (n - 8 * index)) one_more

  grown_part : (claim : Claim) → Contains (claims_in i u) claim → KeepsPart i u v claim
  grown_part claim mine = elim (part_cases claim.part) [
    | inl pointer ↦
        let length_then : metadata_of_part u claim.part ≡ 4096 = ap (metadata_of_part u) pointer.1 in
        let length_now : metadata_of_part v claim.part ≡ 4096 = ap (metadata_of_part v) pointer.1 in
        record { there = kept claim mine; kinds = same_kinds u v grows.type claim.part; longer = omega (arith, length_then, length_now); same = λ _. length_now ∙ sym length_then }
    | inr at ↦
        let index = at.0 in
        let length_then : metadata_of_part u claim.part ≡ 512 * min 8 (length directory.chunks - 8 * index) = ap (metadata_of_part u) at.1 ∙ old_part index in
        let length_now : metadata_of_part v claim.part ≡ 512 * min 8 (length directory.chunks + 1 - 8 * index) = ap (metadata_of_part v) at.1 ∙ new_part index in
        record {
          there = kept claim mine;
          kinds = same_kinds u v grows.type claim.part;
          longer = omega (arith, length_then, length_now);
          same = λ no_chunk. absurd (true≢false (sym (ap (suits_part Chunk u) at.1 ∙ counts.is) ∙ no_chunk));
        }
  ]

  pub keeps : (before : Reading) → KeepsOrLoses before r after i (InUse v)
  keeps before w was claim mine =
      let same : w ≡ u = same_used u v w r i has.used was in
      let its : Contains (claims_in i u) claim = subst (λ (x : UsedInode). Contains (claims_in i x) claim) same mine in
      inl (v, refl, subst (λ (x : UsedInode). KeepsPart i x v claim) (sym same) (grown_part claim its))

  pub news : HadOrGets (reading_of g (block base)) r taken change i (InUse v)
  news w now claim mine =
      let same : w ≡ v = same_use v w now in
      elim (added claim (subst (λ (x : UsedInode). Contains (claims_in i x) claim) same mine)) [
        | inl old ↦ inl (u, has.used, old)
        | inr may ↦ inr (may_attach g base taken change claim.block w claim may refl)
      ]

  -- what is given: the new blocks in whole, and the new chunk
  module _ (deltas : List Delta)
      (whole : (claim : Claim) → Contains (claims_in i v) claim → is_claimed r claim.block ≡ false → (place : ℕ) → place < 4096 → is_given deltas claim.block place ≡ true)
      (chunk : (claim : Claim) → Contains (claims_in i u) claim → claim.part ≡ AtIndex (length directory.chunks / 8) → length directory.chunks % 8 ≢ 0 → (place : ℕ)
      → 512 * (length directory.chunks % 8) ≤ place → place < 512 * (length directory.chunks % 8) + 512 → is_given deltas claim.block place ≡ true)
      (fits : (claim : Claim) → Contains (claims_in i v) claim → metadata_of_part v claim.part ≤ 4096) where
    longer_part : (claim : Claim) → Contains (claims_in i u) claim → (place : ℕ) → metadata_of_part u claim.part ≤ place → place < metadata_of_part v claim.part → is_given deltas claim.block place ≡ true
    longer_part claim mine place low high = elim (part_cases claim.part) [
      | inl pointer ↦
          let length_then : metadata_of_part u claim.part ≡ 4096 = ap (metadata_of_part u) pointer.1 in
          let length_now : metadata_of_part v claim.part ≡ 4096 = ap (metadata_of_part v) pointer.1 in
          absurd (omega (arith, low, high, length_then, length_now))
      | inr at ↦
          let n = length directory.chunks in
          let index = at.0 in
          let length_then : metadata_of_part u claim.part ≡ 512 * min 8 (n - 8 * index) = ap (metadata_of_part u) at.1 ∙ old_part index in
          let length_now : metadata_of_part v claim.part ≡ 512 * min 8 (n + 1 - 8 * index) = ap (metadata_of_part v) at.1 ∙ new_part index in
          let right = fields_of_numbers g i u (right_numbers g r i u hands has.stored has.used) in
          let below = below_size g i u claim index right mine at.1 in
          let started : 8 * index < n = omega (arith, below, counts.size) in
          let last : n < 8 * index + 8 = omega (arith, low, high, length_then, length_now) in
          let its : index ≡ n / 8 = omega (arith, started, last) in
          let inside : n % 8 ≡ n - 8 * index = omega (arith, started, last) in
          chunk claim mine (at.1 ∙ ap AtIndex its) (λ none. omega (arith, none, inside, started)) place
          (omega (arith, low, length_then, inside, last)) (omega (arith, high, length_now, inside, last))
    ]

    pub gives : Gives r (with_state r i (InUse v)) deltas
    gives =
        inode_gives g r i (InUse v) (used_within r i u has.used) deltas
        (λ x w was now claim mine its place low high.
        let first : x ≡ u = same_used u v x r i has.used was in
        let second : w ≡ v = same_use v w now in
        longer_part claim (subst (λ (y : UsedInode). Contains (claims_in i y) claim) first mine) place
        (subst (λ (y : UsedInode). metadata_of_part y claim.part ≤ place) first low) (subst (λ (y : UsedInode). place < metadata_of_part y claim.part) second high))
        (λ w now claim mine free place below.
        let second : w ≡ v = same_use v w now in
        let its : Contains (claims_in i v) claim = subst (λ (y : UsedInode). Contains (claims_in i y) claim) second mine in
        let high : place < metadata_of_part v claim.part = subst (λ (y : UsedInode). place < metadata_of_part y claim.part) second below in
        whole claim its free place (omega (arith, high, fits claim its)))
        (λ w now claim mine free is_chunk place below.
        whole claim (subst (λ (y : UsedInode). Contains (claims_in i y) claim) (same_use v w now) mine) free place below)

  -- of a block that it had another chunk isn't begun where the chunks fill their blocks
  pub no_rest : (k : ℕ) → length directory.chunks ≡ 8 * k → length directory.chunks % 8 ≢ 0 → ⊥
  no_rest k eight some = some (omega (arith, eight))
