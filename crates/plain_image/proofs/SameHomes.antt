-- What the blocks of the groups decide: nothing else of a volume is read while each claim is of a body block.
use Rattle.std.proofs.Common.{◌≡◌, ◌<◌, ◌≤◌, ◌⊎◌, inl, inr, ℕ, true, false, List, [], take, Option, Some, refl, sym, ap, ◌∙◌, subst, arith}
use Rattle.std.specs.Prelude.{nat_lt, Contains, IsSomeAnd}
use Rattle.std.proofs.lemmas.Bool.{cases_Bool, cases_lt, cond-true, cond-false, and_parts, ltb-true, false≢true}
use Rattle.lufs_base.specs.Layout.{IsGeometry, group_start, blocks_of, region_of}
use Rattle.lufs_base.specs.declared.geometry.Geometry.{Geometry}
use Rattle.lufs_base.specs.declared.geometry.Region.{Region}
use Rattle.lufs_base.specs.declared.geometry.Region.TheVariants.{Boot, Super, Log}
use Rattle.lufs_base.proofs.Places.{only_region}
use Rattle.volume_model.specs.declared.hand.Hand.{Hand}
use Rattle.volume_model.specs.declared.log.Header.{Header}
use Rattle.volume_model.specs.Format.{Image, Blocks, block, is_body, is_body_region, geometry_of}
use Rattle.volume_model.specs.Sound.{Reading, reading_of, Claim, claims_of, claim_length, greatest_on, record_length, length_of_records, read_length, AgreeWhereRead, Tree, Sound, StandsFor, Opens, OpensWith, verdict_of, verdict_of_reading}
use Rattle.volume_laws.proofs.LaidClaims.{greatest_below, max-zero}
use Rattle.volume_laws.proofs.ClaimFacts.{claim_is_body}
use Rattle.volume_laws.proofs.SameReading.{reading_same}
use Rattle.volume_laws.proofs.SameTree.{agree_in_metadata, sound_too, same_tree}
use Rattle.log_laws.specs.StaleSectors.{HasNoIdentAbove}
use Rattle.log_laws.specs.LogOnImage.{ring_sector}
use Rattle.plain_image.specs.HomeBlocks.{IsHome, HaveSameHomes}
use Rattle.plain_image.specs.WrittenBack.{IsWrittenBack}

-- no record and no body block stands before the groups
module _ (g : Geometry) (ok : IsGeometry g) where
  of_region : (b : ℕ) (r : Region) → r ≡ region_of g b → is_body_region r ≡ false → record_length r ≡ 0 → (is_body_region (region_of g b) ≡ false) × (record_length (region_of g b) ≡ 0)
  of_region b r is body records = (ap is_body_region (sym is) ∙ body, ap record_length (sym is) ∙ records)

  low_block : (b : ℕ) → b < group_start g 0 → (is_body_region (region_of g b) ≡ false) × (record_length (region_of g b) ≡ 0)
  low_block b low = elim (cases_lt b 2) [
    | inl boot ↦ of_region b Boot (only_region g b Boot ok boot) refl refl
    | inr more ↦ elim (cases_lt b 3) [
      | inl two ↦ of_region b Super (only_region g b Super ok (omega (arith, two, more))) refl refl
      | inr log ↦ of_region b Log (only_region g b Log ok (log, low)) refl refl
    ]
  ]

  pub body_is_home : (b : ℕ) → is_body g b ≡ true → IsHome g b
  body_is_home b body =
      let parts = and_parts (nat_lt b (blocks_of g)) (is_body_region (region_of g b)) body in
      record {
        low = elim (cases_lt b (group_start g 0)) [
          | inl low ↦ absurd (false≢true (sym (low_block b low).0 ∙ parts.1))
          | inr from ↦ from
        ];
        high = ltb-true b (blocks_of g) parts.0;
      }

  no_records : (b : ℕ) → (b < group_start g 0) ⊎ (blocks_of g ≤ b) → length_of_records g b ≡ 0
  no_records b out = elim (cases_Bool (nat_lt b (blocks_of g))) [
    | inl is ↦ elim out [
      | inl low ↦ cond-true (nat_lt b (blocks_of g)) (record_length (region_of g b)) 0 is ∙ (low_block b low).1
      | inr high ↦ absurd (omega (arith, high, ltb-true b (blocks_of g) is))
    ]
    | inr not ↦ cond-false (nat_lt b (blocks_of g)) (record_length (region_of g b)) 0 not
  ]

  not_home : (b : ℕ) → (b < group_start g 0) ⊎ (blocks_of g ≤ b) → IsHome g b → ⊥
  not_home b (inl low) at = omega (arith, low, at.low)
  not_home b (inr high) at = omega (arith, high, at.high)

  module _ (r : Reading) (bodies : (claim : Claim) → Contains (claims_of r) claim → is_body g claim.block ≡ true) where
    unread : (b : ℕ) → (b < group_start g 0) ⊎ (blocks_of g ≤ b) → read_length g r b ≡ 0
    unfolding read_length
    unread b out =
        let claims : greatest_on (claim_length r) (claims_of r) b ≤ 0 =
        greatest_below (claim_length r) (claims_of r) b 0 (λ c there same. absurd (not_home b out (subst (IsHome g) same (body_is_home c.block (bodies c there))))) in
        max-zero (length_of_records g b) (greatest_on (claim_length r) (claims_of r) b) 0 (no_records b out) claims (omega arith)

  module _ (blocks others : Blocks) (bodies : (claim : Claim) → Contains (claims_of (reading_of g blocks)) claim → is_body g claim.block ≡ true) (same : HaveSameHomes g blocks others) where
    unread_same : (b : ℕ) → (b < group_start g 0) ⊎ (blocks_of g ≤ b) → take (read_length g (reading_of g blocks) b) (others b) ≡ take (read_length g (reading_of g blocks) b) (blocks b)
    unread_same b out =
        let none = unread (reading_of g blocks) bodies b out in
        ap (λ (n : ℕ). take n (others b)) none ∙ sym (ap (λ (n : ℕ). take n (blocks b)) none)

    pub homes_agree : AgreeWhereRead g blocks others
    homes_agree b = elim (cases_lt b (group_start g 0)) [
      | inl low ↦ unread_same b (inl low)
      | inr from ↦ elim (cases_lt b (blocks_of g)) [
        | inl inside ↦ ap (take (read_length g (reading_of g blocks) b)) (same b record { low = from; high = inside })
        | inr past ↦ unread_same b (inr past)
      ]
    ]

  pub stands_too : (blocks others : Blocks) (tree : Tree) (hands : List Hand) → HaveSameHomes g blocks others → StandsFor g blocks tree hands → StandsFor g others tree hands
  stands_too blocks others tree hands same stands = same_tree g blocks others tree hands ok (homes_agree blocks others (claim_is_body g blocks hands stands.sound) same) stands

  pub is_sound_too : (blocks others : Blocks) (hands : List Hand) → HaveSameHomes g blocks others → Sound g blocks hands → Sound g others hands
  is_sound_too blocks others hands same sound =
      sound_too g blocks others ok hands (agree_in_metadata g blocks others (homes_agree blocks others (claim_is_body g blocks hands sound) same)) sound

  -- a sound volume's verdict
  pub verdict_too : (blocks others : Blocks) (hands : List Hand) → HaveSameHomes g blocks others → Sound g blocks hands → verdict_of g others ≡ verdict_of g blocks
  unfolding verdict_of
  verdict_too blocks others hands same sound =
      ap (verdict_of_reading g) (reading_same g blocks others ok (agree_in_metadata g blocks others (homes_agree blocks others (claim_is_body g blocks hands sound) same)))

  pub written_opens : (header : Header) (image before now : Image) → IsWrittenBack g header image before now → geometry_of before ≡ Some g → HasNoIdentAbove g header.epoch (ring_sector g before)
      → Sound g (block image) [] → Opens now
  written_opens header image before now is named none sound =
      let recovers = subst (λ (o : Option Image). IsSomeAnd o (λ content. Sound g (block content) [])) (sym (is.recovers none)) (is_sound_too (block image) (block now) [] is.blocks sound) in
      subst (λ (o : Option Geometry). IsSomeAnd o (λ g. OpensWith g now)) (sym (is.geometry ∙ named)) (record { sound = recovers; idents = is.idents none })
