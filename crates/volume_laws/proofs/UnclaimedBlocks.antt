-- Nothing is read of a body block that no inode claims.
use Rattle.std.proofs.Common.{◌≡◌, ◌≤◌, inl, inr, ℕ, true, false, take, sym, ap, ◌∙◌, arith}
use Rattle.std.specs.Prelude.{nat_lt}
use Rattle.std.proofs.lemmas.Bool.{cases_Bool, cases_eq, cond-true, cond-false, both_ways}
use Rattle.lufs_base.specs.Layout.{blocks_of, region_of}
use Rattle.lufs_base.specs.declared.geometry.Geometry.{Geometry}
use Rattle.volume_model.specs.Format.{Blocks, is_body}
use Rattle.volume_model.specs.Sound.{Reading, reading_of, claims_of, is_claimed, claim_length, greatest_on, record_length, length_of_records, read_length, metadata_length, AgreeWhereRead, AgreeButInFileBytes}
use Rattle.volume_laws.specs.Changes.{AgreeBut, AgreeWhereReadBut, AgreeInMetadataBut}
use Rattle.volume_laws.proofs.ClaimFacts.{claims_its_block}
use Rattle.volume_laws.proofs.ReadLengths.{metadata_is_read}
use Rattle.volume_laws.proofs.LaidClaims.{greatest_below, max-zero, no_records_of_body}

pub nothing_read : (g : Geometry) (r : Reading) (b : ℕ) → is_body g b ≡ true → is_claimed r b ≡ false → read_length g r b ≡ 0
unfolding read_length
nothing_read g r b body free =
    let here = nat_lt b (blocks_of g) in
    let records : length_of_records g b ≡ 0 = elim (cases_Bool here) [
      | inl is ↦ cond-true here (record_length (region_of g b)) 0 is ∙ no_records_of_body g b body
      | inr not ↦ cond-false here (record_length (region_of g b)) 0 not
    ] in
    let claims : greatest_on (claim_length r) (claims_of r) b ≤ 0 =
    greatest_below (claim_length r) (claims_of r) b 0 (λ c there same.
    absurd (both_ways (is_claimed r b) free (sym (ap (is_claimed r) same) ∙ claims_its_block r c there))) in
    max-zero (length_of_records g b) (greatest_on (claim_length r) (claims_of r) b) 0 records claims (omega arith)

-- so agreement elsewhere is agreement
pub agree_everywhere : (lengths : ℕ → ℕ) (blocks others : Blocks) (b at n : ℕ) → lengths b ≡ 0 → AgreeBut lengths blocks others b at n
    → (c : ℕ) → take (lengths c) (others c) ≡ take (lengths c) (blocks c)
agree_everywhere lengths blocks others b at n none agree c = elim (cases_eq c b) [
  | inl same ↦
      let zero : lengths c ≡ 0 = ap lengths same ∙ none in
      ap (λ (m : ℕ). take m (others c)) zero ∙ sym (ap (λ (m : ℕ). take m (blocks c)) zero)
  | inr away ↦ agree.elsewhere c away
]

module _ (g : Geometry) (blocks others : Blocks) (b at n : ℕ) (body : is_body g b ≡ true) (free : is_claimed (reading_of g blocks) b ≡ false) where
  pub agree_where_read : AgreeWhereReadBut g blocks others b at n → AgreeWhereRead g blocks others
  agree_where_read agree = agree_everywhere (read_length g (reading_of g blocks)) blocks others b at n (nothing_read g (reading_of g blocks) b body free) agree

  pub agree_but_in_file_bytes : AgreeInMetadataBut g blocks others b at n → AgreeButInFileBytes g blocks others
  agree_but_in_file_bytes agree =
      let r = reading_of g blocks in
      let none : metadata_length g r b ≡ 0 = omega (arith, metadata_is_read g r b, nothing_read g r b body free) in
      agree_everywhere (metadata_length g r) blocks others b at n none agree
