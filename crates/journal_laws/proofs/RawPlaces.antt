-- Where bytes may be written in place: in a block of a file, and in a block of a hand.
use Rattle.std.proofs.Common.{◌≡◌, ◌<◌, ◌⊎◌, inl, inr, ℕ, ◌+◌, ◌*◌, ◌/◌, true, false, List, ◌++◌, take, drop, slice_index, refl, sym, ap, ◌∙◌, subst, arith, take-append-drop}
use Rattle.std.proofs.lemmas.Bool.{cases_Bool, false≢true, false_from_ne_true, or_left}
use Rattle.std.proofs.lemmas.List.{append-nil}
use Rattle.lufs_base.specs.declared.geometry.Geometry.{Geometry}
use Rattle.volume_model.specs.declared.log.Tx.{Tx}
use Rattle.volume_model.specs.Format.{Image}
use Rattle.volume_model.specs.Crash.{Record}
use Rattle.volume_model.specs.Sound.{is_among}
use Rattle.journal_model.specs.Journals.{Batch, Roll, Idle, Writing, Home, Trimmed, Live, Journal}
use Rattle.journal_model.specs.Versions.{Version, Published, Sealed, Running, later_of, txs_of}
use Rattle.journal_model.specs.LaidBlocks.{replayed_byte, is_laid_by, is_cancelled_by}
use Rattle.journal_model.specs.BlockRoles.{FileBytes, Roles, is_metadata, is_claimed}
use Rattle.journal_model.specs.Batches.{batch_of, held_by, is_held, is_freed_owner}
use Rattle.journal_model.specs.Kept.{IsBatch, IsRoll}
use Rattle.journal_model.specs.Safety.{IsSafe}
use Rattle.journal_laws.proofs.Replays.{stands_replayed, cancelled-append}
use Rattle.journal_laws.proofs.RollFacts.{version_loggable, all_lie}
use Rattle.journal_laws.proofs.RollKept.{metadata_is_claimed}
use Rattle.journal_laws.proofs.RoleFacts.{unclaimed_no_metadata, role_stays}
use Rattle.journal_laws.proofs.MergedDeltas.{laid_before}

module _ (g : Geometry) (roles : Roles) (r : Record) (j : Journal) (b : ℕ) (safe : IsSafe g roles r j) where
  -- a version lays nothing over a block that isn't its metadata
  not_laid : (v : Version) → is_metadata (roles v b) ≡ false → is_laid_by (txs_of g j v) b ≡ false
  not_laid v none = false_from_ne_true (is_laid_by (txs_of g j v) b) (λ laid. false≢true (sym none ∙ safe.versions.laid v b laid))

  -- a batch holds no block that the running version claims and the published one has no metadata in
  batch_free : (batch : Batch) → IsBatch g roles j batch → is_claimed (roles Running b) ≡ true → is_metadata (roles Published b) ≡ false → is_among b batch.held ≡ false
  batch_free batch is claimed none =
      let rest : List Tx = drop batch.count j.committed in
      false_from_ne_true (is_among b batch.held) (λ held.
      elim (cases_Bool (is_cancelled_by rest b)) [
        | inl cancelled ↦ false≢true (sym (is.cancelled Running b held (cancelled-append rest (later_of g j Running) b ∙ or_left (is_cancelled_by rest b) _ cancelled)) ∙ claimed)
        | inr kept ↦
            let laid : is_laid_by (take batch.count j.committed ++ rest) b ≡ true = laid_before (take batch.count j.committed) rest b (sym (is.held b) ∙ held) kept in
            let all : is_laid_by (txs_of g j Published) b ≡ true =
            ap (λ (l : List Tx). is_laid_by l b) (append-nil j.committed ∙ sym (take-append-drop batch.count j.committed)) ∙ laid in
            false≢true (sym (not_laid Published none) ∙ all)
      ])

  roll_free : (roll : Roll) → IsRoll g roles j roll → is_claimed (roles Running b) ≡ true → is_metadata (roles Published b) ≡ false → is_among b (held_by (batch_of roll)) ≡ false
  roll_free Idle is claimed none = refl
  roll_free (Writing batch) is claimed none = batch_free batch is claimed none
  roll_free (Home batch) is claimed none = batch_free batch is.0 claimed none
  roll_free (Trimmed batch) is claimed none = batch_free batch is.0 claimed none

  -- a block of a file is metadata in no version
  file_no_metadata : roles Running b ≡ FileBytes → (v : Version) → is_metadata (roles v b) ≡ false
  file_no_metadata file Published =
      false_from_ne_true (is_metadata (roles Published b)) (λ is.
      false≢true (ap is_metadata (sym file ∙ role_stays g roles j safe.versions b (metadata_is_claimed (roles Published b) is) (ap is_claimed file)) ∙ is))
  file_no_metadata file Sealed =
      false_from_ne_true (is_metadata (roles Sealed b)) (λ is.
      false≢true (ap is_metadata (sym file ∙ (safe.versions.running b).same (metadata_is_claimed (roles Sealed b) is) (ap is_claimed file)) ∙ is))
  file_no_metadata file Running = ap is_metadata file

  pub raw_place : (roles Running b ≡ FileBytes) ⊎ ((is_claimed (roles Running b) ≡ false) × (j.owners b ≡ Live)) → ((v : Version) → is_metadata (roles v b) ≡ false) × (is_held j b ≡ false)
  raw_place (inl file) = (file_no_metadata file, roll_free j.roll safe.roll (ap is_claimed file) (file_no_metadata file Published))
  raw_place (inr hand) =
      let gone = safe.owners.gone b hand.0 (ap is_freed_owner hand.1) in
      (λ v. unclaimed_no_metadata (roles v b) (gone.unclaimed v), safe.owners.in_hand b hand.0 hand.1)

  pub file_byte : (image : Image) (v : Version) (i : ℕ) → roles v b ≡ FileBytes → i < 4096 → replayed_byte image (txs_of g j v) (4096 * b + i) ≡ slice_index image (4096 * b + i)
  file_byte image v i file inside =
      let block : b ≡ (4096 * b + i) / 4096 = omega (arith, inside) in
      stands_replayed image (txs_of g j v) (4096 * b + i) (all_lie g (txs_of g j v) (version_loggable g roles r j safe v))
      (subst (λ (c : ℕ). is_laid_by (txs_of g j v) c ≡ false) block (not_laid v (ap is_metadata file)))
