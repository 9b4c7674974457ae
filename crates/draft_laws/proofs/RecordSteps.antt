-- An inode gets other attributes, or other bytes of a chunk.
use Rattle.std.proofs.Common.{◌≡◌, ◌<◌, inl, ℕ, ◌/◌, Bool, List, length, Some, refl, sym, ap, ◌∙◌, subst, arith}
use Rattle.std.specs.List.{Contains}
use Rattle.lufs_base.specs.declared.geometry.Geometry.{Geometry}
use Rattle.lufs_base.specs.declared.delta.Delta.{Delta}
use Rattle.volume_model.specs.declared.hand.Hand.{Hand}
use Rattle.volume_model.specs.declared.inode.Dinode.{Dinode}
use Rattle.volume_model.specs.Format.{Image, block, inodes_of, IsDinode, dinode_bytes}
use Rattle.volume_model.specs.Sound.{UsedInode, InUse, Reading, reading_of, inodes_in, used_at, Claim, claims_in, Node, attributes_of}
use Rattle.volume_laws.specs.Changes.{with_state}
use Rattle.volume_laws.proofs.ClaimFacts.{length-inodes, used_within, claimed_in, claims_its_block}
use Rattle.change_laws.specs.Plans.{HasInode, KeepsBlocks, with_attributes}
use Rattle.meta_store.specs.declared.change.Change.{Change}
use Rattle.meta_store.specs.Deltas.{inode_delta}
use Rattle.meta_draft.specs.Drafted.{drafted_blocks, with_delta}
use Rattle.meta_store.specs.Merged.{merged}
use Rattle.draft_laws.specs.Laying.{with_laid}
use Rattle.draft_laws.specs.Drafts.{IsDraft, Draws}
use Rattle.draft_laws.proofs.MetadataLengths.{metadata_of_part}
use Rattle.draft_laws.proofs.Continues.{Gives}
use Rattle.draft_laws.proofs.OneInodeStep.{KeepsPart}
use Rattle.draft_laws.proofs.Contents.{drafted_sized}
use Rattle.draft_laws.proofs.RecordDeltas.{inode_loggable, inode_suited}
use Rattle.draft_laws.proofs.InodeDrawn.{KeepsOrLoses, HadOrGets, drawn_by_one, nothing_to_give}
use Rattle.draft_laws.proofs.Parts.{same_length, same_part}
use Rattle.draft_laws.proofs.Written.{writes_it}
use Rattle.draft_laws.proofs.ChangeFacts.{attributes_set}

pub same_used : (u v w : UsedInode) (r : Reading) (i : ℕ) → used_at r i ≡ Some u → used_at r i ≡ Some w → w ≡ u
same_used u v w r i one other =
    let both : Some w ≡ Some u = sym other ∙ one in
    cc

-- where the claims, the type and the sizes are as they were
module _ (g : Geometry) (r : Reading) (i : ℕ) (u v : UsedInode) (used : used_at r i ≡ Some u) (claims : claims_in i v ≡ claims_in i u) (type : v.inode.mode / 512 ≡ u.inode.mode / 512)
    (chunks : length v.chunks ≡ length u.chunks) (size : v.inode.size ≡ u.inode.size) where
  pub keeps_all : (before : Reading) (after : List Hand) → KeepsOrLoses before r after i (InUse v)
  keeps_all before after w was claim mine =
      let same : w ≡ u = same_used u v w r i used was in
      let there : Contains (claims_in i v) claim = subst (λ (l : List Claim). Contains l claim) (ap (claims_in i) same ∙ sym claims) mine in
      inl (v, refl, subst (λ (x : UsedInode). KeepsPart i x v claim) (sym same) (same_part i u v claim there type chunks size))

  pub has_all : (before : Reading) (taken : ℕ → Bool) (change : Change) → HadOrGets before r taken change i (InUse v)
  has_all before taken change w now claim mine =
      let same : w ≡ v = let both : Some w ≡ Some v = sym now in cc in
      inl (u, used, subst (λ (l : List Claim). Contains l claim) (ap (claims_in i) same ∙ claims) mine)

  pub gives_all : (deltas : List Delta) → i < inodes_in r → Gives r (with_state r i (InUse v)) deltas
  gives_all deltas within =
      nothing_to_give g r i (InUse v) deltas within
      (λ x w was now claim mine.
      let first : x ≡ u = same_used u v x r i used was in
      let second : w ≡ v = let both : Some w ≡ Some v = sym now in cc in
      let is = same_length u v type chunks size claim.part in
      let one : metadata_of_part x claim.part ≡ metadata_of_part u claim.part = ap (λ (y : UsedInode). metadata_of_part y claim.part) first in
      let two : metadata_of_part w claim.part ≡ metadata_of_part v claim.part = ap (λ (y : UsedInode). metadata_of_part y claim.part) second in
      omega (arith, is, one, two))
      (λ w now claim mine.
      let same : w ≡ v = let both : Some w ≡ Some v = sym now in cc in
      let there : Contains (claims_in i u) claim = subst (λ (l : List Claim). Contains l claim) (ap (claims_in i) same ∙ claims) mine in
      claims_its_block r claim (claimed_in r i u claim used there))

-- a record that keeps its blocks
pub attributes_drawn : (g : Geometry) (base : Image) (taken : ℕ → Bool) (change : Change) (hands : List Hand) (i : ℕ) (u : UsedInode) (d : Dinode) (node : Node) → IsDraft g base taken change hands
    → HasInode g (drafted_blocks change base) hands i u node → IsDinode g.version d → KeepsBlocks u.inode d
    → Draws g base taken change (with_delta change (inode_delta g i (dinode_bytes (Some d)))) i (Some (with_attributes (attributes_of d) node)) (Some d.links) hands
attributes_drawn g base taken change hands i u d node draft has is keeps =
    let blocks = drafted_blocks change base in
    let r = reading_of g blocks in
    let delta = inode_delta g i (dinode_bytes (Some d)) in
    let others = with_laid blocks delta in
    let v : UsedInode = record u { inode = d } in
    let inside : i < inodes_in r = used_within r i u has.used in
    let within : i < inodes_of g = omega (arith, inside, length-inodes g blocks) in
    let sized = drafted_sized g base change draft.room draft.recorded.raw in
    let writes = writes_it g blocks i (Some d) has.geometry within is sized in
    let changes = attributes_set g blocks others i u d node hands has writes keeps in
    drawn_by_one g base taken change hands hands others i (InUse v) (Some (with_attributes (attributes_of d) node)) draft inside changes
    (keeps_all g r i u v has.used refl keeps.type refl keeps.size (reading_of g (block base)) hands)
    (has_all g r i u v has.used refl keeps.type refl keeps.size (reading_of g (block base)) taken change)
    delta refl (inode_loggable g i (Some d) has.geometry within is) refl (inode_suited g i (Some d) has.geometry within is (reading_of g others))
    (gives_all g r i u v has.used refl keeps.type refl keeps.size (merged change.deltas delta) inside)
