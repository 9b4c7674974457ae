-- A file gets another record: what it keeps of its claims, and what is to be given.
use Rattle.std.proofs.Common.{◌≡◌, ◌<◌, ◌⊎◌, inl, inr, ℕ, ◌/◌, Bool, true, false, List, Some, refl, sym, ap, ◌∙◌, subst, arith}
use Rattle.std.specs.List.{Contains}
use Rattle.std.proofs.lemmas.Bool.{both_ways, cond-true, false≢true}
use Rattle.lufs_base.specs.declared.geometry.Geometry.{Geometry}
use Rattle.lufs_base.specs.declared.delta.Delta.{Delta}
use Rattle.lufs_base.specs.declared.delta.DeltaKind.TheVariants.{Chunk}
use Rattle.volume_model.specs.declared.hand.Hand.{Hand}
use Rattle.volume_model.specs.Format.{is_file, is_directory}
use Rattle.volume_model.specs.Sound.{UsedInode, InUse, Reading, used_at, PointerName, Part, AtIndex, AtPointer, Claim, claims_in, is_claimed, index_length}
use Rattle.volume_laws.specs.Changes.{with_state}
use Rattle.volume_laws.proofs.ClaimFacts.{used_within}
use Rattle.volume_laws.proofs.NodeFacts.{file_is_no_directory}
use Rattle.change_laws.proofs.InodeRights.{same_file}
use Rattle.meta_store.specs.declared.change.Change.{Change}
use Rattle.meta_store.specs.Conditions.{is_given}
use Rattle.meta_store.specs.Suited.{suits_part}
use Rattle.draft_laws.proofs.MetadataLengths.{metadata_of_part, part_cases}
use Rattle.draft_laws.proofs.Continues.{IsLost, Gives}
use Rattle.draft_laws.proofs.OneInodeStep.{KeepsPart, MayComeAs, inode_gives}
use Rattle.draft_laws.proofs.InodeDrawn.{KeepsOrLoses, HadOrGets}
use Rattle.draft_laws.proofs.Parts.{same_kinds}
use Rattle.draft_laws.proofs.RecordSteps.{same_used}
use Rattle.draft_laws.proofs.NewSteps.{same_use}

-- of a block at an index of a file no byte is metadata
pub none_at_index : (v : UsedInode) (index : ℕ) → is_file v.inode.mode ≡ true → metadata_of_part v (AtIndex index) ≡ 0
none_at_index v index file = cond-true (is_file v.inode.mode) 0 (index_length v index) file

no_chunk : (v : UsedInode) (part : Part) → is_file v.inode.mode ≡ true → suits_part Chunk v part ≡ true → ⊥
no_chunk v (AtIndex index) file fitting = both_ways (is_directory v.inode.mode) (file_is_no_directory v.inode.mode file) fitting
no_chunk v (AtPointer name) file fitting = false≢true fitting

module _ (g : Geometry) (before r : Reading) (taken : ℕ → Bool) (change : Change) (after : List Hand) (i : ℕ) (u v : UsedInode) (used : used_at r i ≡ Some u) (file : is_file u.inode.mode ≡ true)
    (type : v.inode.mode / 512 ≡ u.inode.mode / 512) where
  pub file_now : is_file v.inode.mode ≡ true
  file_now = same_file v.inode.mode u.inode.mode type ∙ file

  part_same : (part : Part) → metadata_of_part v part ≡ metadata_of_part u part
  part_same (AtIndex index) = none_at_index v index file_now ∙ sym (none_at_index u index file)
  part_same (AtPointer name) = refl

  pub file_part : (claim : Claim) → Contains (claims_in i v) claim → KeepsPart i u v claim
  file_part claim there =
      let same = part_same claim.part in
      record { there = there; kinds = same_kinds u v type claim.part; longer = omega (arith, same); same = λ _. same }

  module _ (kept : (claim : Claim) → Contains (claims_in i u) claim → Contains (claims_in i v) claim ⊎ IsLost before after claim)
      (added : (claim : Claim) → Contains (claims_in i v) claim → Contains (claims_in i u) claim ⊎ MayComeAs before taken change.raw v claim) where
    pub file_keeps : KeepsOrLoses before r after i (InUse v)
    file_keeps w was claim mine =
        let same : w ≡ u = same_used u v w r i used was in
        elim (kept claim (subst (λ (x : UsedInode). Contains (claims_in i x) claim) same mine)) [
          | inl there ↦ inl (v, refl, subst (λ (x : UsedInode). KeepsPart i x v claim) (sym same) (file_part claim there))
          | inr lost ↦ inr lost
        ]

    pub file_news : HadOrGets before r taken change i (InUse v)
    file_news w now claim mine =
        let same : w ≡ v = same_use v w now in
        elim (added claim (subst (λ (x : UsedInode). Contains (claims_in i x) claim) same mine)) [
          | inl old ↦ inl (u, used, old)
          | inr may ↦ inr (subst (λ (x : UsedInode). MayComeAs before taken change.raw x claim) (sym same) may)
        ]

    -- only a new pointer block is to be given
    pub file_gives : (deltas : List Delta)
        → ((claim : Claim) (name : PointerName) → Contains (claims_in i v) claim → is_claimed r claim.block ≡ false → claim.part ≡ AtPointer name → (place : ℕ) → place < 4096 → is_given deltas claim.block place ≡ true)
        → Gives r (with_state r i (InUse v)) deltas
    file_gives deltas pointer =
        inode_gives g r i (InUse v) (used_within r i u used) deltas
        (λ x w was now claim mine its place low high.
        let first : x ≡ u = same_used u v x r i used was in
        let second : w ≡ v = same_use v w now in
        let one : metadata_of_part x claim.part ≡ metadata_of_part u claim.part = ap (λ (y : UsedInode). metadata_of_part y claim.part) first in
        let two : metadata_of_part w claim.part ≡ metadata_of_part v claim.part = ap (λ (y : UsedInode). metadata_of_part y claim.part) second in
        absurd (omega (arith, low, high, one, two, part_same claim.part)))
        (λ w now claim mine free place below.
        let second : w ≡ v = same_use v w now in
        let its : Contains (claims_in i v) claim = subst (λ (y : UsedInode). Contains (claims_in i y) claim) second mine in
        let high : place < metadata_of_part v claim.part = subst (λ (y : UsedInode). place < metadata_of_part y claim.part) second below in
        elim (part_cases claim.part) [
          | inr at ↦
              let none : metadata_of_part v claim.part ≡ 0 = ap (metadata_of_part v) at.1 ∙ none_at_index v at.0 file_now in
              absurd (omega (arith, high, none))
          | inl is ↦
              let whole : metadata_of_part v claim.part ≡ 4096 = ap (metadata_of_part v) is.1 in
              pointer claim is.0 its free is.1 place (omega (arith, high, whole))
        ])
        (λ w now claim mine free chunk place below.
        let second : w ≡ v = same_use v w now in
        let fitting : suits_part Chunk v claim.part ≡ true = sym (ap (λ (y : UsedInode). suits_part Chunk y claim.part) second) ∙ chunk in
        absurd (no_chunk v claim.part file_now fitting))
