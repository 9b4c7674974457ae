-- A step that changes the state of one inode: what it does to claims, by what it does to those of that inode.
use Rattle.std.proofs.Common.{◌≡◌, ◌≢◌, ◌<◌, ◌≤◌, ◌⊎◌, inl, inr, ℕ, ◌/◌, Bool, true, false, cond, List, Option, Some, refl, sym, ap, ◌∙◌, subst, arith}
use Rattle.std.specs.List.{All, Contains}
use Rattle.std.specs.Option.{option_map_or}
use Rattle.std.proofs.lemmas.Bool.{cases_eq, both_ways}
use Rattle.lufs_base.specs.declared.geometry.Geometry.{Geometry}
use Rattle.lufs_base.specs.declared.delta.Delta.{Delta}
use Rattle.lufs_base.specs.declared.delta.DeltaKind.{DeltaKind}
use Rattle.lufs_base.specs.declared.delta.DeltaKind.TheVariants.{Chunk}
use Rattle.volume_model.specs.declared.hand.Hand.{Hand}
use Rattle.volume_model.specs.Sound.{UsedInode, InodeState, Reading, inodes_in, used_of, used_at, Claim, claims_in, claims_of, is_claimed, is_of_file, part_length, metadata_claim_length}
use Rattle.volume_laws.specs.Changes.{with_state}
use Rattle.volume_laws.proofs.ClaimFacts.{claimed_in, claims_its_block}
use Rattle.change_laws.proofs.OneInode.{used_changed, used_other}
use Rattle.meta_store.specs.declared.change.RawWrite.{RawWrite}
use Rattle.meta_store.specs.Conditions.{is_given}
use Rattle.meta_store.specs.Suited.{suits_part, suits_claim}
use Rattle.draft_laws.proofs.ClaimUses.{own_claim}
use Rattle.draft_laws.proofs.MetadataLengths.{metadata_of_part}
use Rattle.draft_laws.proofs.Continues.{KeepsUse, IsLost, Continues, Gives}

-- the inode claims the block after, as the same, and as long or longer
pub record KeepsPart (i : ℕ) (u v : UsedInode) (claim : Claim) : Type 0 where
  pub there : Contains (claims_in i v) claim
  pub kinds : (kind : DeltaKind) → suits_part kind v claim.part ≡ suits_part kind u claim.part
  pub longer : metadata_of_part u claim.part ≤ metadata_of_part v claim.part
  pub same : suits_part Chunk u claim.part ≡ false → metadata_of_part v claim.part ≡ metadata_of_part u claim.part

-- the claim may come, of a block that the transaction took
pub record MayComeAs (before : Reading) (taken : ℕ → Bool) (raw : List RawWrite) (v : UsedInode) (claim : Claim) : Type 0 where
  pub in_transaction : taken claim.block ≡ true
  pub unclaimed : is_claimed before claim.block ≡ false
  pub unwritten : 0 < metadata_of_part v claim.part → All (λ w. w.first / 8 ≢ claim.block) raw

pub suits_with : (r : Reading) (kind : DeltaKind) (claim : Claim) (u : UsedInode) → used_at r claim.inode ≡ Some u → suits_claim r kind claim ≡ suits_part kind u claim.part
suits_with r kind claim u used = ap (λ (o : Option UsedInode). option_map_or (λ u. suits_part kind u claim.part) o false) used

pub length_with : (r : Reading) (claim : Claim) (u : UsedInode) → used_at r claim.inode ≡ Some u → metadata_claim_length r claim ≡ metadata_of_part u claim.part
length_with r claim u used = ap (λ (o : Option UsedInode). option_map_or (λ u. cond (is_of_file u claim.part) 0 (part_length u claim.part)) o 0) used

module _ (g : Geometry) (r : Reading) (i : ℕ) (state : InodeState) (within : i < inodes_in r) where
  abbrev s : Reading
  s = with_state r i state

  -- of another inode the claims are the same
  claims_beside : (claim : Claim) (u : UsedInode) → claim.inode ≢ i → used_at r claim.inode ≡ Some u → Contains (claims_in claim.inode u) claim → Contains (claims_of s) claim
  claims_beside claim u away used among = claimed_in s claim.inode u claim (used_other r i state within claim.inode away ∙ used) among

  kept_beside : (claim : Claim) → Contains (claims_of r) claim → claim.inode ≢ i → KeepsUse r s claim
  kept_beside claim here away =
      let own = own_claim r claim here in
      let other = used_other r i state within claim.inode away in
      let length : metadata_claim_length s claim ≡ metadata_claim_length r claim =
      ap (λ (o : Option UsedInode). option_map_or (λ u. cond (is_of_file u claim.part) 0 (part_length u claim.part)) o 0) other in
      record {
        there = claims_beside claim own.owner away own.used own.among;
        kinds = λ kind. ap (λ (o : Option UsedInode). option_map_or (λ u. suits_part kind u claim.part) o false) other;
        longer = omega (arith, length);
        same = λ _. length;
      }

  own_kept : (claim : Claim) (u v : UsedInode) → claim.inode ≡ i → used_at r i ≡ Some u → used_of state ≡ Some v → KeepsPart i u v claim → KeepsUse r s claim
  own_kept claim u v its was now keeps =
      let old : used_at r claim.inode ≡ Some u = ap (used_at r) its ∙ was in
      let new : used_at s claim.inode ≡ Some v = ap (used_at s) its ∙ used_changed r i state within ∙ now in
      let first = length_with r claim u old in
      let second = length_with s claim v new in
      record {
        there = claimed_in s i v claim (used_changed r i state within ∙ now) keeps.there;
        kinds = λ kind. suits_with s kind claim v new ∙ keeps.kinds kind ∙ sym (suits_with r kind claim u old);
        longer = omega (arith, first, second, keeps.longer);
        same = λ no_chunk. second ∙ keeps.same (sym (suits_with r Chunk claim u old) ∙ no_chunk) ∙ sym first;
      }

  -- the inode of what is claimed anew
  of_this_inode : (claim : Claim) → Contains (claims_of s) claim → (claim.inode ≡ i) ⊎ Contains (claims_of r) claim
  of_this_inode claim here = elim (cases_eq claim.inode i) [
    | inl its ↦ inl its
    | inr away ↦
        let own = own_claim s claim here in
        inr (claimed_in r claim.inode own.owner claim (sym (used_other r i state within claim.inode away) ∙ own.used) own.among)
  ]

  module _ (before : Reading) (taken : ℕ → Bool) (raw : List RawWrite) (after : List Hand)
      (keeps : (u : UsedInode) → used_at r i ≡ Some u → (claim : Claim) → Contains (claims_in i u) claim
      → ((v : UsedInode) × (used_of state ≡ Some v) × KeepsPart i u v claim) ⊎ IsLost before after claim)
      (news : (v : UsedInode) → used_of state ≡ Some v → (claim : Claim) → Contains (claims_in i v) claim
      → ((u : UsedInode) × (used_at r i ≡ Some u) × Contains (claims_in i u) claim) ⊎ MayComeAs before taken raw v claim) where
    pub inode_continues : Continues g before taken raw after r s
    inode_continues = record {
      keeps = λ claim here. elim (cases_eq claim.inode i) [
        | inr away ↦ inl (kept_beside claim here away)
        | inl its ↦
            let own = own_claim r claim here in
            let used : used_at r i ≡ Some own.owner = sym (ap (used_at r) its) ∙ own.used in
            let among : Contains (claims_in i own.owner) claim = subst (λ (j : ℕ). Contains (claims_in j own.owner) claim) its own.among in
            elim (keeps own.owner used claim among) [
              | inl kept ↦ inl (own_kept claim own.owner kept.0 its used kept.1 kept.2)
              | inr lost ↦ inr lost
            ]
      ];
      news = λ claim here. elim (of_this_inode claim here) [
        | inr old ↦ inl old
        | inl its ↦
            let own = own_claim s claim here in
            let now : used_of state ≡ Some own.owner = sym (used_changed r i state within) ∙ sym (ap (used_at s) its) ∙ own.used in
            let among : Contains (claims_in i own.owner) claim = subst (λ (j : ℕ). Contains (claims_in j own.owner) claim) its own.among in
            elim (news own.owner now claim among) [
              | inl old ↦ inl (claimed_in r i old.0 claim old.1 old.2)
              | inr may ↦ inr (record {
                in_transaction = may.in_transaction;
                unclaimed = may.unclaimed;
                unwritten = λ some. may.unwritten (subst (λ (n : ℕ). 0 < n) (length_with s claim own.owner own.used) some);
              })
            ]
      ];
      bits = λ b body. refl;
    }

  module _ (deltas : List Delta)
      (longer : (u v : UsedInode) → used_at r i ≡ Some u → used_of state ≡ Some v → (claim : Claim) → Contains (claims_in i u) claim → Contains (claims_in i v) claim → (place : ℕ)
      → metadata_of_part u claim.part ≤ place → place < metadata_of_part v claim.part → is_given deltas claim.block place ≡ true)
      (new : (v : UsedInode) → used_of state ≡ Some v → (claim : Claim) → Contains (claims_in i v) claim → is_claimed r claim.block ≡ false → (place : ℕ)
      → place < metadata_of_part v claim.part → is_given deltas claim.block place ≡ true)
      (whole : (v : UsedInode) → used_of state ≡ Some v → (claim : Claim) → Contains (claims_in i v) claim → is_claimed r claim.block ≡ false → suits_part Chunk v claim.part ≡ true
      → (place : ℕ) → place < 4096 → is_given deltas claim.block place ≡ true) where
    -- what inode i claims after
    record Owns (claim : Claim) : Type 0 where
      owner : UsedInode
      now : used_of state ≡ Some owner
      used : used_at s claim.inode ≡ Some owner
      among : Contains (claims_in i owner) claim

    owns : (claim : Claim) → Contains (claims_of s) claim → claim.inode ≡ i → Owns claim
    owns claim here its =
        let own = own_claim s claim here in
        record {
          owner = own.owner;
          now = sym (used_changed r i state within) ∙ sym (ap (used_at s) its) ∙ own.used;
          used = own.used;
          among = subst (λ (j : ℕ). Contains (claims_in j own.owner) claim) its own.among;
        }

    owns_new : (claim : Claim) → Contains (claims_of s) claim → is_claimed r claim.block ≡ false → Owns claim
    owns_new claim here free = elim (of_this_inode claim here) [
      | inl its ↦ owns claim here its
      | inr old ↦ absurd (both_ways (is_claimed r claim.block) free (claims_its_block r claim old))
    ]

    pub inode_gives : Gives r s deltas
    inode_gives = record {
      longer = λ claim old here place low high. elim (cases_eq claim.inode i) [
        | inr away ↦
            let same = (kept_beside claim old away).kinds in
            let length : metadata_claim_length s claim ≡ metadata_claim_length r claim =
            ap (λ (o : Option UsedInode). option_map_or (λ u. cond (is_of_file u claim.part) 0 (part_length u claim.part)) o 0) (used_other r i state within claim.inode away) in
            absurd (omega (arith, low, high, length))
        | inl its ↦
            let own = own_claim r claim old in
            let now = owns claim here its in
            let used : used_at r i ≡ Some own.owner = sym (ap (used_at r) its) ∙ own.used in
            let among : Contains (claims_in i own.owner) claim = subst (λ (j : ℕ). Contains (claims_in j own.owner) claim) its own.among in
            longer own.owner now.owner used now.now claim among now.among place
            (omega (arith, low, length_with r claim own.owner own.used)) (omega (arith, high, length_with s claim now.owner now.used))
      ];
      new = λ claim here free place below.
          let now = owns_new claim here free in
          new now.owner now.now claim now.among free place (omega (arith, below, length_with s claim now.owner now.used));
      whole = λ claim here free chunk place below.
          let now = owns_new claim here free in
          whole now.owner now.now claim now.among free (sym (suits_with s Chunk claim now.owner now.used) ∙ chunk) place below;
    }
