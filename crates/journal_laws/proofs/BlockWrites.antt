-- The bytes of an image whose block is written, or whose log header is: done, or cut by a crash.
use Rattle.std.proofs.Common.{◌≡◌, ◌≢◌, ◌<◌, ◌≤◌, ◌⊎◌, inl, inr, ℕ, ◌+◌, ◌*◌, ◌/◌, ◌%◌, List, length, slice_index, refl, ap, ◌∙◌, arith}
use Rattle.std.proofs.lemmas.Bool.{cases_eq, cases_lt}
use Rattle.std.proofs.lemmas.List.{length-replicate}
use Rattle.lufs_base.specs.Layout.{header_sector}
use Rattle.lufs_base.specs.declared.geometry.Geometry.{Geometry}
use Rattle.volume_model.specs.declared.log.Header.{Header}
use Rattle.volume_model.specs.Format.{Image, sector, overwritten}
use Rattle.volume_model.specs.Log.{header_bytes}
use Rattle.volume_model.specs.Crash.{IsPartlyWritten}
use Rattle.journal_laws.proofs.Outcomes.{byte_of_same_sector, byte_written, done_is_partly, kept_beside}

-- a sector of another block
other_block : (b address : ℕ) → address / 4096 ≢ b → (address / 512 < 8 * b) ⊎ (8 * b + 8 ≤ address / 512)
other_block b address away = elim (cases_lt (address / 4096) b) [
  | inl less ↦ inl (omega (arith, less))
  | inr more ↦ inr (omega (arith, more, away))
]

module _ (old : Image) (b : ℕ) (bytes : List ℕ) (long : length bytes ≡ 4096) (fits : 4096 * b + 4096 ≤ length old) where
  pub put_byte : (i : ℕ) → i < 4096 → slice_index (overwritten old (8 * b) bytes) (4096 * b + i) ≡ slice_index bytes i
  put_byte i inside =
      let at : 4096 * b + i ≡ 512 * (8 * b) + i = omega arith in
      ap (slice_index (overwritten old (8 * b) bytes)) at ∙ byte_written old (8 * b) bytes i (omega (arith, long, fits)) (omega (arith, long, inside))

  -- where a crash cuts it, the sectors of other blocks are kept
  pub block_beside : (new : Image) (k : ℕ) → IsPartlyWritten (8 * b) bytes old new → (k < 8 * b) ⊎ (8 * b + 8 ≤ k) → sector new k ≡ sector old k
  block_beside new k partly (inl before) = kept_beside (8 * b) bytes old new k (omega (arith, long)) (omega (arith, long, fits)) partly (inl before)
  block_beside new k partly (inr after) = kept_beside (8 * b) bytes old new k (omega (arith, long)) (omega (arith, long, fits)) partly (inr (omega (arith, long, after)))

  pub byte_beside : (address : ℕ) → address / 4096 ≢ b → slice_index (overwritten old (8 * b) bytes) address ≡ slice_index old address
  byte_beside address away =
      byte_of_same_sector (overwritten old (8 * b) bytes) old address (address / 512) refl
      (block_beside (overwritten old (8 * b) bytes) (address / 512) (done_is_partly old (8 * b) bytes (omega (arith, long, fits))) (other_block b address away))

  -- and each byte is old, or new
  pub byte_cut : (new : Image) (address : ℕ) → IsPartlyWritten (8 * b) bytes old new
      → (slice_index new address ≡ slice_index old address) ⊎ ((address / 4096 ≡ b) × (slice_index new address ≡ slice_index bytes (address % 4096)))
  byte_cut new address partly = elim (partly.each (address / 512)) [
    | inl same ↦ inl (byte_of_same_sector new old address (address / 512) refl same)
    | inr put ↦
        let now : slice_index new address ≡ slice_index (overwritten old (8 * b) bytes) address = byte_of_same_sector new (overwritten old (8 * b) bytes) address (address / 512) refl put in
        elim (cases_eq (address / 4096) b) [
          | inl here ↦
              let at : address ≡ 4096 * b + address % 4096 = omega (arith, here) in
              inr (here, now ∙ ap (slice_index (overwritten old (8 * b) bytes)) at ∙ put_byte (address % 4096) (omega arith))
          | inr away ↦ inl (now ∙ byte_beside address away)
        ]
  ]

-- a header is one sector
pub header_size : (h : Header) → length (header_bytes h) ≡ 512
unfolding header_bytes
header_size h = omega (arith, length-replicate {A = ℕ} 496 0)

pub header_beside : (g : Geometry) (h : Header) (old new : Image) (k : ℕ) → 512 * (header_sector g + 1) ≤ length old → IsPartlyWritten (header_sector g) (header_bytes h) old new
    → k ≢ header_sector g → sector new k ≡ sector old k
header_beside g h old new k big partly away =
    let size = header_size h in
    kept_beside (header_sector g) (header_bytes h) old new k (omega (arith, size)) (omega (arith, size, big)) partly
    (elim (cases_lt k (header_sector g)) [
      | inl before ↦ inl before
      | inr from ↦ inr (omega (arith, size, from, away))
    ])
