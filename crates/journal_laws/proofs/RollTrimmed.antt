-- The header is written that names the first transaction after a batch.
use Rattle.std.proofs.Common.{◌≡◌, ◌<◌, ◌≤◌, ◌⊎◌, inl, inr, ℕ, ◌+◌, ◌*◌, ◌/◌, false, List, [], ◌∷◌, ◌++◌, length, take, drop, slice_index, IfSome, refl, sym, ap, ◌∙◌, subst, arith}
use Rattle.std.proofs.lemmas.List.{length-replicate, take-append-drop}
use Rattle.std.proofs.lemmas.Option.{IfSome_then}
use Rattle.lufs_base.specs.Layout.{IsGeometry, ring_of, header_sector, group_start}
use Rattle.lufs_base.specs.declared.geometry.Geometry.{Geometry}
use Rattle.volume_model.specs.declared.device_call.DeviceCall.TheVariants.{Write}
use Rattle.volume_model.specs.declared.log.Header.{Header}
use Rattle.volume_model.specs.declared.log.Tx.{Tx}
use Rattle.volume_model.specs.Format.{Image, sector, overwritten}
use Rattle.volume_model.specs.Log.{header_of, header_bytes, MayBeHeader}
use Rattle.volume_model.specs.Crash.{Record, with_calls, IsInside, IsPartlyWritten, present_of}
use Rattle.volume_model.specs.Sound.{is_among}
use Rattle.log_laws.specs.LogRing.{IsLogRing}
use Rattle.log_laws.specs.LogOnImage.{ring_sector, HasLog}
use Rattle.log_laws.proofs.ImageSteps.{ring_beside, header_cut, trim_done}
use Rattle.log_laws.proofs.JournalSteps.{step_same}
use Rattle.journal_model.specs.Journals.{Batch, Roll, Home, Trimmed, Journal}
use Rattle.journal_model.specs.Versions.{Version, written_txs, header_after, txs_after, txs_of}
use Rattle.journal_model.specs.LaidBlocks.{replayed_byte}
use Rattle.journal_model.specs.BlockRoles.{Metadata, Roles}
use Rattle.journal_model.specs.Batches.{batch_of, held_by, home_count, trimmed_count}
use Rattle.journal_model.specs.SafeImages.{HasHeader, GivesMetadata, IsSafeImage}
use Rattle.journal_model.specs.Kept.{IsBatch, IsRoll}
use Rattle.journal_model.specs.Safety.{IsRolledSoFar, IsPresent, IsSafe}
use Rattle.journal_laws.proofs.Replays.{same_replayed}
use Rattle.journal_laws.proofs.Outcomes.{byte_of_same_sector, present_after, size_of_present, sectors_after, left_by_write, done_is_partly, kept_beside, same_geometry}
use Rattle.journal_laws.proofs.RollFacts.{ring_at_home, size_of_opening, oldest_loggable, metadata_place, laid_place, header_after_none, header_after_may}
use Rattle.journal_laws.proofs.RollKept.{with_roll, versions_kept, owners_kept, room_kept, batch_kept}
use Rattle.journal_laws.proofs.RollWritten.{sealed_stands}

-- a header is one sector
header_size : (h : Header) → length (header_bytes h) ≡ 512
unfolding header_bytes
header_size h = omega (arith, length-replicate {A = ℕ} 496 0)

module _ (g : Geometry) (roles : Roles) (r : Record) (j : Journal) (batch : Batch) (geometry : IsGeometry g) (safe : IsSafe g roles r j) (at_home : j.roll ≡ Home batch) where
  abbrev home : Image
  home = present_of r

  abbrev before : List Tx
  before = take batch.count j.committed

  abbrev newest : Header
  newest = header_after g j batch.count

  abbrev bytes : List ℕ
  bytes = header_bytes newest

  -- what stands there once the header is written
  abbrev next : Image
  next = overwritten home (header_sector g) bytes

  pub trim_batch : IsBatch g roles j batch
  trim_batch = (subst (IsRoll g roles j) at_home safe.roll).0

  trim_done_left : batch.left ≡ []
  trim_done_left = (subst (IsRoll g roles j) at_home safe.roll).1

  pub newest_may : MayBeHeader g newest
  newest_may = header_after_may g j batch.count geometry safe.room

  pub opening_big : 512 * (header_sector g + 1) ≤ length r.opening
  opening_big = omega (arith, size_of_opening g roles r j safe)

  home_long : length home ≡ length r.opening
  home_long = size_of_present r safe.sectors

  pub trim_inside : IsInside (length r.opening) (Write (header_sector g) bytes)
  trim_inside = (omega (arith, header_size newest), omega (arith, header_size newest, opening_big))

  next_partly : IsPartlyWritten (header_sector g) bytes home next
  next_partly = done_is_partly home (header_sector g) bytes (omega (arith, header_size newest, opening_big, home_long))

  -- the header that stands there names the oldest transaction
  pub oldest_at : (image : Image) → IsSafeImage g roles home j image → HasHeader g image j.oldest
  oldest_at image h =
      elim (subst (λ (roll : Roll). HasHeader g image j.oldest ⊎ HasHeader g image (header_after g j (trimmed_count roll))) at_home h.header) [
        | inl oldest ↦ oldest
        | inr none ↦ subst (HasHeader g image) (header_after_none g j safe.room.oldest) none
      ]

  -- what a crash left of the write
  module _ (old new : Image) (long : length old ≡ length r.opening) (partly : IsPartlyWritten (header_sector g) bytes old new) where
    old_fits : 512 * header_sector g + length bytes ≤ length old
    old_fits = omega (arith, header_size newest, long, opening_big)

    pub byte_past_header : (c i : ℕ) → group_start g 0 ≤ c → slice_index new (4096 * c + i) ≡ slice_index old (4096 * c + i)
    byte_past_header c i from =
        byte_of_same_sector new old (4096 * c + i) ((4096 * c + i) / 512) refl
        (kept_beside (header_sector g) bytes old new ((4096 * c + i) / 512) (omega (arith, header_size newest)) old_fits partly (inr (omega (arith, header_size newest, from))))

    super_kept : sector new 16 ≡ sector old 16
    super_kept = kept_beside (header_sector g) bytes old new 16 (omega (arith, header_size newest)) old_fits partly (inl (omega arith))

    pub ring_stays : (place : ℕ) → place < ring_of g → ring_sector g new place ≡ ring_sector g old place
    ring_stays place below = ring_beside g newest old new place (omega (arith, long, opening_big)) partly

  -- each version keeps its metadata
  pub trim_bytes : (v : Version) (c n i : ℕ) → roles v c ≡ Metadata n → i < n
      → replayed_byte next (txs_of g j v) (4096 * c + i) ≡ replayed_byte home (txs_of g j v) (4096 * c + i)
  trim_bytes v c n i role below =
      same_replayed next home (txs_of g j v) (4096 * c + i) (byte_past_header home next home_long next_partly c i (metadata_place g roles r j safe v c n i role below).0)

  module _ (old new : Image) (long : length old ≡ length r.opening) (partly : IsPartlyWritten (header_sector g) bytes old new) (h : IsSafeImage g roles home j old) where
    gives : (v : Version) (txs : List Tx) → GivesMetadata (roles v) home (txs_of g j v) old txs → GivesMetadata (roles v) next (txs_of g j v) new txs
    gives v txs old_gives = record {
      each = λ c n i role below.
          let from = (metadata_place g roles r j safe v c n i role below).0 in
          same_replayed new old txs (4096 * c + i) (byte_past_header old new long partly c i from) ∙ old_gives.each c n i role below ∙ sym (trim_bytes v c n i role below);
    }

    image_trimmed : IsSafeImage g roles next (with_roll j (Trimmed batch)) new
    image_trimmed = record {
      geometry = same_geometry g old new partly.size (super_kept old new long partly) h.geometry;
      header = elim (header_cut g newest old new (omega (arith, long, opening_big)) newest_may partly) [
        | inl same ↦ inl (ap (header_of g) same ∙ oldest_at old h)
        | inr put ↦ inr put
      ];
      ring = step_same g j.oldest (ring_sector g old) (ring_sector g new) j.committed (written_txs j) (ring_stays old new long partly) h.ring;
      whole = λ v logged. gives v (txs_of g j v) (h.whole v logged);
      rest = λ v logged. gives v (txs_after g j batch.count v) (subst (λ (roll : Roll). GivesMetadata (roles v) home (txs_of g j v) old (txs_after g j (home_count roll) v)) at_home (h.rest v logged));
    }

  rolled_stays : IsRolledSoFar next (with_roll j (Trimmed batch)) batch
  rolled_stays c i held left inside =
      let so_far : IsRolledSoFar home j batch = subst (λ (roll : Roll). IfSome (batch_of roll) (IsRolledSoFar home j)) at_home safe.present.rolled in
      let place = laid_place g before c (oldest_loggable g roles r j safe batch.count) (sym (trim_batch.held c) ∙ held) in
      let kept = byte_past_header home next home_long next_partly c i place.0 in
      kept ∙ so_far c i held left inside ∙ sym (same_replayed next home before (4096 * c + i) kept)

  newest_at_next : HasHeader g next newest
  newest_at_next =
      let first : HasHeader g home (header_after g j 0) = subst (λ (roll : Roll). HasHeader g home (header_after g j (trimmed_count roll))) at_home safe.present.header in
      let has : HasLog g j.oldest home (before ++ drop batch.count j.committed) (written_txs j) = record {
        header = subst (HasHeader g home) (header_after_none g j safe.room.oldest) first;
        ring = subst (λ (l : List Tx). IsLogRing g j.oldest (ring_sector g home) l (written_txs j)) (sym (take-append-drop batch.count j.committed)) (ring_at_home g roles r j safe);
      } in
      (trim_done g j.oldest home before (drop batch.count j.committed) (written_txs j) has (omega (arith, home_long, opening_big)) newest_may).header

  pub keeps_trim : IsSafe g roles (with_calls r (Write (header_sector g) bytes ∷ [])) (record j { roll = Trimmed batch })
  keeps_trim =
      let sectors = sectors_after r (Write (header_sector g) bytes) safe.sectors trim_inside in
      let now : present_of (with_calls r (Write (header_sector g) bytes ∷ [])) ≡ next = present_after r (Write (header_sector g) bytes ∷ []) in
      record {
        sectors = sectors;
        each = λ image outcome.
            let e = left_by_write r (header_sector g) bytes image sectors outcome in
            subst (λ (i : Image). IsSafeImage g roles i (with_roll j (Trimmed batch)) image) (sym now) (image_trimmed e.0 image e.1.size e.2 (safe.each e.0 e.1));
        present = subst (λ (i : Image). IsPresent g i (with_roll j (Trimmed batch))) (sym now) record {
          header = newest_at_next;
          sealed = IfSome_then j.sealed safe.present.sealed (λ s. sealed_stands g home next j.oldest.epoch s geometry (ring_stays home next home_long next_partly));
          rolled = rolled_stays;
        };
        versions = versions_kept g roles j (Trimmed batch) safe.versions;
        roll = (batch_kept g roles j (Trimmed batch) batch trim_batch, trim_done_left);
        owners = owners_kept g roles j (Trimmed batch) safe.owners (λ c unclaimed live. subst (λ (roll : Roll). is_among c (held_by (batch_of roll)) ≡ false) at_home (safe.owners.in_hand c unclaimed live));
        room = room_kept g j (Trimmed batch) safe.room;
      }
