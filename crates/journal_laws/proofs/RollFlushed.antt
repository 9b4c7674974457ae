-- The blocks of a batch are kept at home.
use Rattle.std.proofs.Common.{◌≡◌, ◌<◌, inl, inr, ℕ, ◌+◌, ◌*◌, ◌/◌, false, List, [], ◌∷◌, take, slice_index, IfSome, refl, sym, ap, ◌∙◌, subst, arith}
use Rattle.std.proofs.lemmas.Bool.{cases_Bool}
use Rattle.lufs_base.specs.Layout.{IsGeometry}
use Rattle.lufs_base.specs.declared.geometry.Geometry.{Geometry}
use Rattle.volume_model.specs.declared.device_call.DeviceCall.TheVariants.{Flush}
use Rattle.volume_model.specs.declared.log.Tx.{Tx}
use Rattle.volume_model.specs.Format.{Image}
use Rattle.volume_model.specs.Crash.{Record, with_calls, present_of}
use Rattle.volume_model.specs.Sound.{is_among}
use Rattle.journal_model.specs.Journals.{Batch, Roll, Writing, Home, Journal}
use Rattle.journal_model.specs.Versions.{Version, header_after, txs_after, txs_of}
use Rattle.journal_model.specs.LaidBlocks.{replayed_byte, is_laid_by}
use Rattle.journal_model.specs.BlockRoles.{Roles}
use Rattle.journal_model.specs.Batches.{batch_of, held_by, trimmed_count}
use Rattle.journal_model.specs.SafeImages.{HasHeader, IsSafeImage}
use Rattle.journal_model.specs.Kept.{IsBatch, IsRoll}
use Rattle.journal_model.specs.Safety.{IsRolledSoFar, IsPresent, IsSafe}
use Rattle.journal_laws.proofs.Replays.{stands_replayed, rolled}
use Rattle.journal_laws.proofs.Outcomes.{present_after, sectors_after, left_by_flush}
use Rattle.journal_laws.proofs.RollFacts.{ring_at_home, geometry_at_home, oldest_loggable, metadata_place, all_lie, parts_of}
use Rattle.journal_laws.proofs.RollKept.{with_roll, versions_kept, owners_kept, room_kept, batch_kept}

module _ (g : Geometry) (roles : Roles) (r : Record) (j : Journal) (batch : Batch) (safe : IsSafe g roles r j)
    (is_batch : IsBatch g roles j batch) (so_far : IsRolledSoFar (present_of r) j batch) (done : batch.left ≡ []) where
  abbrev home : Image
  home = present_of r

  abbrev before : List Tx
  before = take batch.count j.committed

  -- each byte stands as the batch leaves it
  pub byte_at_home : (c i : ℕ) → i < 4096 → slice_index home (4096 * c + i) ≡ replayed_byte home before (4096 * c + i)
  byte_at_home c i inside =
      let a : ℕ = 4096 * c + i in
      let block_of : a / 4096 ≡ c = omega (arith, inside) in
      elim (cases_Bool (is_among c batch.held)) [
        | inl held ↦ so_far c i held (ap (is_among c) done) inside
        | inr other ↦
            sym (stands_replayed home before a (all_lie g before (oldest_loggable g roles r j safe batch.count)) (ap (is_laid_by before) block_of ∙ sym (is_batch.held c) ∙ other))
      ]

  -- so it reads the same without the batch
  pub byte_without_batch : (v : Version) (c i : ℕ) → i < 4096 → replayed_byte home (txs_after g j batch.count v) (4096 * c + i) ≡ replayed_byte home (txs_of g j v) (4096 * c + i)
  byte_without_batch v c i inside =
      rolled home before (txs_after g j batch.count v) (4096 * c + i) (all_lie g before (oldest_loggable g roles r j safe batch.count)) (byte_at_home c i inside)
      ∙ ap (λ (l : List Tx). replayed_byte home l (4096 * c + i)) (parts_of g j batch.count v)

pub keeps_roll_flush : (g : Geometry) (roles : Roles) (r : Record) (j : Journal) (batch : Batch) → IsGeometry g → IsSafe g roles r j → j.roll ≡ Writing batch → batch.left ≡ []
    → IsSafe g roles (with_calls r (Flush ∷ [])) (record j { roll = Home batch })
keeps_roll_flush g roles r j batch geometry safe writing done =
    let home : Image = present_of r in
    let is_batch : IsBatch g roles j batch = subst (IsRoll g roles j) writing safe.roll in
    let so_far : IsRolledSoFar home j batch = subst (λ (roll : Roll). IfSome (batch_of roll) (IsRolledSoFar home j)) writing safe.present.rolled in
    let newest : HasHeader g home (header_after g j 0) = subst (λ (roll : Roll). HasHeader g home (header_after g j (trimmed_count roll))) writing safe.present.header in
    let now : present_of (with_calls r (Flush ∷ [])) ≡ home = present_after r (Flush ∷ []) in
    let sectors = sectors_after r Flush safe.sectors tt in
    let at_home : IsSafeImage g roles home (with_roll j (Home batch)) home = record {
      geometry = geometry_at_home g roles r j safe;
      header = inr newest;
      ring = ring_at_home g roles r j safe;
      whole = λ v logged. record { each = λ c n i role below. refl };
      rest = λ v logged. record { each = λ c n i role below. byte_without_batch g roles r j batch safe is_batch so_far done v c i (metadata_place g roles r j safe v c n i role below).2 };
    } in
    record {
      sectors = sectors;
      each = λ image outcome.
          let is = left_by_flush r image sectors outcome in
          subst (λ (i : Image). IsSafeImage g roles i (with_roll j (Home batch)) image) (sym now) (subst (IsSafeImage g roles home (with_roll j (Home batch))) (sym is) at_home);
      present = subst (λ (i : Image). IsPresent g i (with_roll j (Home batch))) (sym now) record { header = newest; sealed = safe.present.sealed; rolled = so_far };
      versions = versions_kept g roles j (Home batch) safe.versions;
      roll = (batch_kept g roles j (Home batch) batch is_batch, done);
      owners = owners_kept g roles j (Home batch) safe.owners (λ c unclaimed live. subst (λ (roll : Roll). is_among c (held_by (batch_of roll)) ≡ false) writing (safe.owners.in_hand c unclaimed live));
      room = room_kept g j (Home batch) safe.room;
    }
