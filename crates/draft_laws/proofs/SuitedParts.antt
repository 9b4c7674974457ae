-- Which deltas may lie on the parts of an inode in use.
use Rattle.std.proofs.Common.{◌≡◌, ◌≤◌, ℕ, eqb, true, false, ◌&&◌, List, slice_index, Option, Some, refl, ap, ◌∙◌, arith}
use Rattle.std.specs.List.{Contains}
use Rattle.std.specs.Option.{option_map_or}
use Rattle.std.proofs.lemmas.Bool.{and_from, eq-eqb}
use Rattle.std.proofs.lemmas.List.Elements.{All-contains}
use Rattle.lufs_base.specs.declared.geometry.Geometry.{Geometry}
use Rattle.lufs_base.specs.declared.delta.DeltaKind.{DeltaKind}
use Rattle.volume_model.specs.declared.hand.Hand.{Hand}
use Rattle.volume_model.specs.Format.{Blocks}
use Rattle.volume_model.specs.Sound.{UsedInode, Reading, reading_of, used_at, NamedPointer, AtIndex, AtPointer, Claim, index_claim, pointer_claim, claims_in, claims_of, IsStored}
use Rattle.volume_laws.proofs.ClaimFacts.{claimed_in, pointer_claimed, index_claimed}
use Rattle.meta_store.specs.Suited.{suits_part, suits_claim, suits_claims}
use Rattle.draft_laws.proofs.ClaimUses.{passes_of, inodes_of_claims}
use Rattle.draft_laws.proofs.MetadataLengths.{metadata_of_part, claim_fits}
use Rattle.draft_laws.proofs.OneInodeStep.{length_with}

by_claim : (r : Reading) (kind : DeltaKind) (claim : Claim) (u : UsedInode) → Contains (claims_of r) claim → used_at r claim.inode ≡ Some u → suits_part kind u claim.part ≡ true → suits_claims r kind claim.block ≡ true
by_claim r kind claim u here used fitting =
    passes_of (λ (c : Claim). eqb c.block claim.block && suits_claim r kind c) (claims_of r) claim here
    (and_from (eqb claim.block claim.block) (suits_claim r kind claim) (eq-eqb claim.block claim.block refl)
    (ap (λ (o : Option UsedInode). option_map_or (λ u. suits_part kind u claim.part) o false) used ∙ fitting))

pub suits_at_index : (r : Reading) (i : ℕ) (u : UsedInode) (index : ℕ) (kind : DeltaKind) → used_at r i ≡ Some u → eqb (slice_index u.numbers index) 0 ≡ false → suits_part kind u (AtIndex index) ≡ true
    → suits_claims r kind (slice_index u.numbers index) ≡ true
suits_at_index r i u index kind used some fitting = by_claim r kind (index_claim i u index) u (index_claimed r i u index used some) used fitting

pub suits_at_pointer : (r : Reading) (i : ℕ) (u : UsedInode) (p : NamedPointer) (kind : DeltaKind) → used_at r i ≡ Some u → Contains u.pointers p → eqb p.block 0 ≡ false → suits_part kind u (AtPointer p.name) ≡ true
    → suits_claims r kind p.block ≡ true
suits_at_pointer r i u p kind used here some fitting = by_claim r kind (pointer_claim i p) u (pointer_claimed r i u p used here some) used fitting

-- the part of a claim has a block's bytes at most
pub part_fits : (g : Geometry) (blocks : Blocks) (hands : List Hand) → IsStored g (reading_of g blocks) hands → (i : ℕ) (u : UsedInode) (claim : Claim) → used_at (reading_of g blocks) i ≡ Some u
    → Contains (claims_in i u) claim → metadata_of_part u claim.part ≤ 4096
part_fits g blocks hands stored i u claim used mine =
    let r = reading_of g blocks in
    let its : claim.inode ≡ i = All-contains (λ (c : Claim). c.inode ≡ i) (claims_in i u) claim (inodes_of_claims i u) mine in
    let there : used_at r claim.inode ≡ Some u = ap (used_at r) its ∙ used in
    omega (arith, claim_fits g blocks hands stored claim (claimed_in r i u claim used mine), length_with r claim u there)
