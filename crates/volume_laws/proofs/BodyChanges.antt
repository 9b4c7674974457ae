-- A change in a body block: no record stands in it, and one inode at most claims it.
use Rattle.std.proofs.Common.{◌≡◌, ◌≢◌, ◌<◌, ℕ, ◌/◌, true, take, Option, Some, None, refl, sym, ap, ◌∙◌, arith}
use Rattle.std.specs.List.{Contains}
use Rattle.lufs_base.specs.Layout.{IsGeometry, group_start, inode_address}
use Rattle.lufs_base.specs.declared.geometry.Geometry.{Geometry}
use Rattle.volume_model.specs.declared.inode.Dinode.{Dinode}
use Rattle.volume_model.specs.Format.{Blocks, inodes_of, is_body}
use Rattle.volume_model.specs.Sound.{UsedInode, reading_of, inode_at, state_of, used_inode, used_of, used_at, Claim, claims_of, IsLaid, metadata_length}
use Rattle.volume_laws.specs.Changes.{AgreeBut, AgreeInMetadataBut}
use Rattle.volume_laws.proofs.ClaimFacts.{length-inodes, used_in_volume, used_within}
use Rattle.volume_laws.proofs.LaidClaims.{body_of_claim, one_claim}
use Rattle.volume_laws.proofs.SameReading.{AgreeOnClaims, group_record_block, inode_record_block, group_same, inode_same}
use Rattle.volume_laws.proofs.RecordChanges.{body_apart}
use Rattle.volume_laws.proofs.OneEntry.{OnlyInode}

-- what a reading says of an inode in use comes from a record
pub record HasRecord (g : Geometry) (blocks : Blocks) (i : ℕ) (u : UsedInode) : Type 0 where
  pub dinode : Dinode
  pub within : i < inodes_of g
  pub there : inode_at g blocks i ≡ Some (Some dinode)
  pub leads : used_inode blocks dinode ≡ u

record_of_state : (blocks : Blocks) (o : Option (Option Dinode)) (u : UsedInode) → used_of (state_of blocks o) ≡ Some u → (d : Dinode) × (o ≡ Some (Some d)) × (used_inode blocks d ≡ u)
record_of_state blocks None u used = absurd (cc)
record_of_state blocks (Some None) u used = absurd (cc)
record_of_state blocks (Some (Some d)) u used = (d, refl, cc)

pub has_record : (g : Geometry) (blocks : Blocks) (i : ℕ) (u : UsedInode) → used_at (reading_of g blocks) i ≡ Some u → HasRecord g blocks i u
has_record g blocks i u used =
    let within : i < inodes_of g = omega (arith, used_within (reading_of g blocks) i u used, length-inodes g blocks) in
    let found = record_of_state blocks (inode_at g blocks i) u (sym (used_in_volume g blocks i within) ∙ used) in
    record { dinode = found.0; within = within; there = found.1; leads = found.2 }

module _ (g : Geometry) (blocks others : Blocks) (ok : IsGeometry g) (laid : IsLaid g (reading_of g blocks)) (mine : Claim)
    (here : Contains (claims_of (reading_of g blocks)) mine) where
  body : is_body g mine.block ≡ true
  body = body_of_claim g (reading_of g blocks) laid mine here

  -- another inode claims other blocks, and so does another part
  pub claims_of_others : (lengths : ℕ → ℕ) (at n : ℕ) → AgreeBut lengths blocks others mine.block at n → (j : ℕ) → j ≢ mine.inode
      → AgreeOnClaims lengths (reading_of g blocks) blocks others j
  claims_of_others lengths at n agree j away claim there its =
      agree.elsewhere claim.block (λ same.
      let one = one_claim g (reading_of g blocks) laid mine claim here there same in
      away (sym its ∙ ap (λ (c : Claim). c.inode) one))

  pub other_part : (lengths : ℕ → ℕ) (at n : ℕ) → AgreeBut lengths blocks others mine.block at n → (claim : Claim) → Contains (claims_of (reading_of g blocks)) claim
      → claim.part ≢ mine.part → take (lengths claim.block) (others claim.block) ≡ take (lengths claim.block) (blocks claim.block)
  other_part lengths at n agree claim there away =
      agree.elsewhere claim.block (λ same. away (ap (λ (c : Claim). c.part) (one_claim g (reading_of g blocks) laid mine claim here there same)))

  pub inodes_beside : (at n : ℕ) → AgreeInMetadataBut g blocks others mine.block at n → (j : ℕ) → j < inodes_of g → inode_at g others j ≡ inode_at g blocks j
  inodes_beside at n agree j below =
      let c = inode_address g j / 4096 in
      inode_same g blocks others ok j below (agree.elsewhere c (λ same.
      body_apart g mine.block c 4096 body (inode_record_block g j ok below).1 (omega arith) (sym same)))

  pub only_owner : (at n : ℕ) → AgreeInMetadataBut g blocks others mine.block at n → OnlyInode g (metadata_length g (reading_of g blocks)) blocks others mine.inode
  only_owner at n agree = record {
    groups = λ m below.
        let c = group_start g m in
        group_same g blocks others ok m below (agree.elsewhere c (λ same.
        body_apart g mine.block c 416 body (group_record_block g m ok below).1 (omega arith) (sym same)));
    records = λ j below away. inodes_beside at n agree j below;
    claims = claims_of_others (metadata_length g (reading_of g blocks)) at n agree;
  }
