-- Bytes of a file, or of a block in a hand, are written in place.
use Rattle.std.proofs.Common.{◌≡◌, ◌<◌, ◌≤◌, inl, inr, ℕ, ◌+◌, ◌*◌, ◌/◌, true, List, [], ◌∷◌, length, sym, ap, ◌∙◌, subst, arith}
use Rattle.std.specs.Prelude.{nat_lt}
use Rattle.std.proofs.lemmas.Bool.{cases_lt, cases_order, and_parts, ltb-true, false≢true, true≢false}
use Rattle.std.proofs.lemmas.Option.{IfSome_then}
use Rattle.lufs_base.specs.Layout.{IsGeometry, group_start, blocks_of}
use Rattle.lufs_base.specs.declared.geometry.Geometry.{Geometry}
use Rattle.volume_model.specs.declared.device_call.DeviceCall.TheVariants.{Write}
use Rattle.volume_model.specs.Format.{Image, sector, overwritten, is_body}
use Rattle.volume_model.specs.Log.{header_of}
use Rattle.volume_model.specs.Crash.{Record, with_calls, IsPartlyWritten, present_of}
use Rattle.volume_laws.proofs.BodyBlocks.{none_before}
use Rattle.log_laws.specs.LogOnImage.{ring_sector, HaveSameLog}
use Rattle.log_laws.proofs.ImageSteps.{written_beside}
use Rattle.log_laws.proofs.JournalSteps.{step_same}
use Rattle.journal_model.specs.Journals.{Journal}
use Rattle.journal_model.specs.Versions.{Version, written_txs, txs_after, txs_of}
use Rattle.journal_model.specs.BlockRoles.{Roles, Stays, moved, is_metadata}
use Rattle.journal_model.specs.Batches.{is_held, home_count}
use Rattle.journal_model.specs.SafeImages.{GivesMetadata, IsSafeImage}
use Rattle.journal_model.specs.Safety.{IsPresent, IsSafe}
use Rattle.journal_model.specs.Steps.{IsRawWrite}
use Rattle.journal_laws.proofs.Outcomes.{present_after, sectors_after, left_by_write, kept_beside, same_geometry, size_of_present}
use Rattle.journal_laws.proofs.RollFacts.{ring_at_home, size_of_opening}
use Rattle.journal_laws.proofs.RollWritten.{sealed_stands}
use Rattle.journal_laws.proofs.WriteBeside.{IsBeside, LiesBeside, next_partly, gives_beside, same_beside, rolled_beside}

pub body_place : (g : Geometry) (b : ℕ) → IsGeometry g → is_body g b ≡ true → (group_start g 0 ≤ b) × (b < blocks_of g)
body_place g b geometry body = (
  elim (cases_lt b (group_start g 0)) [ inl before ↦ absurd (false≢true (sym (none_before g geometry b before) ∙ body)) | inr from ↦ from ],
  ltb-true b (blocks_of g) (and_parts (nat_lt b (blocks_of g)) _ body).0,
)

module _ (g : Geometry) (roles : Roles) (r : Record) (j : Journal) (first : ℕ) (bytes : List ℕ) (safe : IsSafe g roles r j) (raw : IsRawWrite g roles j first bytes) where
  abbrev home : Image
  home = present_of r

  abbrev next : Image
  next = overwritten home first bytes

  geometry : IsGeometry g
  geometry = (ring_at_home g roles r j safe).begins.geometry

  place : (group_start g 0 ≤ first / 8) × (first / 8 < blocks_of g)
  place = body_place g (first / 8) geometry raw.body

  fits : 512 * first + length bytes ≤ length r.opening
  fits = omega (arith, place.1, raw.inside, size_of_opening g roles r j safe)

  other_block : (b i : ℕ) → (b ≡ first / 8 → ⊥) → i < 4096 → IsBeside first bytes (4096 * b + i)
  other_block b i away inside =
      elim (cases_order b (first / 8)) [
        | inl same ↦ absurd (away same)
        | inr apart ↦ elim apart [
          | inl before ↦ inl (omega (arith, before, inside))
          | inr after ↦ inr (omega (arith, after, inside, raw.inside))
        ]
      ]

  pub raw_beside : LiesBeside roles r j first bytes
  raw_beside = record {
    whole = raw.whole;
    inside = fits;
    metadata = λ v b n i role inside.
        other_block b i (λ same. true≢false (sym (ap is_metadata role) ∙ ap (λ (c : ℕ). is_metadata (roles v c)) same ∙ raw.place v))
        (let size : n ≤ 4096 = safe.versions.sizes v b n role in omega (arith, size, inside));
    held = λ b i held inside. other_block b i (λ same. true≢false (sym held ∙ ap (is_held j) same ∙ raw.free)) inside;
  }

  -- what a crash left of the write
  module _ (old new : Image) (long : length old ≡ length r.opening) (partly : IsPartlyWritten first bytes old new) where
    log_kept : HaveSameLog g old new
    log_kept = written_beside g first bytes old new raw.whole (omega (arith, fits, long)) (inr (omega (arith, place.0, geometry.log_low, geometry.log_step))) partly

    super_kept : sector new 16 ≡ sector old 16
    super_kept = kept_beside first bytes old new 16 raw.whole (omega (arith, fits, long)) partly (inl (omega (arith, place.0)))

    image_kept : IsSafeImage g roles home j old → IsSafeImage g roles next j new
    image_kept is =
        record {
          geometry = same_geometry g old new partly.size super_kept is.geometry;
          header = elim is.header [
            | inl oldest ↦ inl (ap (header_of g) log_kept.header ∙ oldest)
            | inr newest ↦ inr (ap (header_of g) log_kept.header ∙ newest)
          ];
          ring = step_same g j.oldest (ring_sector g old) (ring_sector g new) j.committed (written_txs j) log_kept.ring is.ring;
          whole = λ v logged. gives_beside g roles r j first bytes safe raw_beside v (txs_of g j v) (txs_of g j v) old new long partly (is.whole v logged);
          rest = λ v logged. gives_beside g roles r j first bytes safe raw_beside v (txs_of g j v) (txs_after g j (home_count j.roll) v) old new long partly (is.rest v logged);
        }

  pub keeps_raw_write : IsSafe g (moved Stays roles) (with_calls r (Write first bytes ∷ [])) j
  keeps_raw_write =
      let ok = sectors_after r (Write first bytes) safe.sectors (raw.whole, fits) in
      let same : present_of (with_calls r (Write first bytes ∷ [])) ≡ next = present_after r (Write first bytes ∷ []) in
      let log = log_kept home next (size_of_present r safe.sectors) (next_partly g roles r j first bytes safe raw_beside) in
      record {
        sectors = ok;
        each = λ image left.
            let before = left_by_write r first bytes image ok left in
            subst (λ (h : Image). IsSafeImage g roles h j image) (sym same) (image_kept before.0 image before.1.size before.2 (safe.each before.0 before.1));
        present = subst (λ (h : Image). IsPresent g h j) (sym same) (record {
          header = ap (header_of g) log.header ∙ safe.present.header;
          sealed = IfSome_then j.sealed safe.present.sealed (λ s. sealed_stands g home next j.oldest.epoch s geometry log.ring);
          rolled = rolled_beside g roles r j first bytes safe raw_beside safe.present.rolled;
        });
        versions = safe.versions;
        roll = safe.roll;
        owners = safe.owners;
        room = safe.room;
      }

  -- the versions give the same metadata
  pub raw_bytes : (v : Version) → GivesMetadata (roles v) home (txs_of g j v) (present_of (with_calls r (Write first bytes ∷ []))) (txs_of g j v)
  raw_bytes v =
      subst (λ (image : Image). GivesMetadata (roles v) home (txs_of g j v) image (txs_of g j v)) (sym (present_after r (Write first bytes ∷ [])))
      record { each = same_beside g roles r j first bytes safe raw_beside v (txs_of g j v) }
