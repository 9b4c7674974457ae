-- Where what is stored is right, claims are of body blocks, each claimed once at most.
use Rattle.std.proofs.Common.{◌≡◌, ℕ, true, false, not, List, length, Option, Some, subst, arith}
use Rattle.std.specs.Prelude.{nat_lt}
use Rattle.std.specs.List.{All, range_with_len}
use Rattle.std.specs.Option.{option_map_or}
use Rattle.std.proofs.lemmas.Bool.{and_parts, not-false, ltb-true, leb-false}
use Rattle.std.proofs.lemmas.List.Sums.{AllPass-from_list_all}
use Rattle.lufs_base.specs.Layout.{blocks_of, region_of}
use Rattle.lufs_base.specs.declared.geometry.Geometry.{Geometry}
use Rattle.volume_model.specs.declared.hand.Hand.{Hand}
use Rattle.volume_model.specs.Format.{is_body, is_body_region}
use Rattle.volume_model.specs.Sound.{UsedInode, Reading, used_at, claims_in, claims_at, claims_of, claims_on, IsLaid, has_right_numbers, IsStored}
use Rattle.volume_laws.proofs.Members.{All_range, All_flat_map}
use Rattle.volume_laws.proofs.ClaimFacts.{used_within, all_claims_of}
use Rattle.volume_laws.proofs.FieldFacts.{fields_of_numbers}

module _ (g : Geometry) (r : Reading) where
  pub right_numbers : (i : ℕ) (u : UsedInode) (hands : List Hand) → IsStored g r hands → used_at r i ≡ Some u → has_right_numbers g i u ≡ true
  right_numbers i u hands stored used =
      not-false (has_right_numbers g i u)
      (subst (λ (o : Option UsedInode). option_map_or (λ u. not (has_right_numbers g i u)) o false ≡ false) used
      (stored.numbers i (used_within r i u used)))

  claims_of_bodies : (hands : List Hand) → IsStored g r hands → All (λ claim. is_body g claim.block ≡ true) (claims_of r)
  unfolding claims_of
  claims_of_bodies hands stored =
      All_flat_map (λ claim. is_body g claim.block ≡ true) (claims_at r) (range_with_len 0 (length r.inodes))
      (All_range (λ i. All (λ claim. is_body g claim.block ≡ true) (claims_at r i)) (length r.inodes) (λ i within.
      all_claims_of (λ claim. is_body g claim.block ≡ true) i (used_at r i) (λ u used.
      AllPass-from_list_all (λ claim. is_body g claim.block) (claims_in i u) (fields_of_numbers g i u (right_numbers i u hands stored used)).bodies)))

  pub stored_is_laid : (hands : List Hand) → IsStored g r hands → IsLaid g r
  stored_is_laid hands stored = record {
    bodies = claims_of_bodies hands stored;
    once = λ b body.
        let below = ltb-true b (blocks_of g) (and_parts (nat_lt b (blocks_of g)) (is_body_region (region_of g b)) body).0 in
        let few = leb-false 2 (claims_on r b) (stored.once b below) in
        omega (arith, few);
  }
