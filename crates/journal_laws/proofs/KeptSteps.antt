-- Each step keeps a journal safe, and the metadata of the versions that it moves.
use Rattle.std.proofs.Common.{◌≡◌, ℕ, ◌+◌, ◌*◌, true, List, [], ◌∷◌, refl, ap, ◌∙◌, ◌⊎◌, inl, inr, sym, subst}
use Rattle.std.proofs.lemmas.Bool.{false≢true}
use Rattle.lufs_base.specs.Layout.{IsGeometry}
use Rattle.lufs_base.specs.declared.geometry.Geometry.{Geometry}
use Rattle.lufs_base.specs.declared.delta.Delta.{Delta}
use Rattle.volume_model.specs.declared.device_call.DeviceCall.{DeviceCall}
use Rattle.volume_model.specs.declared.device_call.DeviceCall.TheVariants.{Flush}
use Rattle.volume_model.specs.Format.{Image}
use Rattle.volume_model.specs.Log.{live_deltas, recovered_byte}
use Rattle.volume_model.specs.Crash.{Record, with_calls, present_of}
use Rattle.journal_model.specs.Journals.{Journal}
use Rattle.journal_model.specs.Versions.{Version, Published, Sealed, Running, txs_of}
use Rattle.journal_model.specs.BlockRoles.{Role, Roles, Move, Seals, Publishes, Changes, moved, moved_from, is_carried}
use Rattle.journal_model.specs.SafeImages.{GivesMetadata}
use Rattle.journal_model.specs.Safety.{IsSafe}
use Rattle.journal_model.specs.Changes.{Change}
use Rattle.journal_model.specs.Steps.{Step, Admit, Leave, Apply, RawWrite, Seal, LogWrite, Publish, Pick, RollWrite, RollFlush, Trim, TrimFlush}
use Rattle.journal_laws.proofs.Outcomes.{no_calls, present_after}
use Rattle.journal_laws.proofs.RollFacts.{ring_at_home}
use Rattle.journal_laws.proofs.RollSteps.{keeps_pick, keeps_roll_write, keeps_roll_flush, keeps_trim, keeps_trim_flush, roll_versions}
use Rattle.journal_laws.proofs.OpenSteps.{keeps_admit, keeps_leave}
use Rattle.journal_laws.proofs.SealStep.{with_sealed, keeps_seal, sealed_live}
use Rattle.journal_laws.proofs.RawStep.{keeps_raw_write, raw_bytes}
use Rattle.journal_laws.proofs.LogStep.{keeps_log_write, logged_bytes}
use Rattle.journal_laws.proofs.PublishStep.{with_published, keeps_publish, published_txs}
use Rattle.journal_laws.proofs.ChangedBytes.{with_change}
use Rattle.journal_laws.proofs.ApplyStep.{keeps_apply}

pub geometry_of_safe : (g : Geometry) (roles : Roles) (r : Record) (j : Journal) → IsSafe g roles r j → IsGeometry g
geometry_of_safe g roles r j safe = (ring_at_home g roles r j safe).begins.geometry

pub step_keeps : (g : Geometry) (roles : Roles) (r : Record) (j k : Journal) (move : Move) (calls : List DeviceCall) → IsSafe g roles r j → Step g roles (present_of r) j move calls k
    → IsSafe g (moved move roles) (with_calls r calls) k
step_keeps g roles r j _ _ _ safe (Admit need fits) = keeps_admit g roles r j safe need fits
step_keeps g roles r j _ _ _ safe (Leave members unspent left one some none) = keeps_leave g roles r j safe members unspent left one some none
step_keeps g roles r j _ _ _ safe (Apply change to running roles_move deltas_move) = keeps_apply g roles r j change to running safe roles_move deltas_move
step_keeps g roles r j _ _ _ safe (RawWrite first bytes may) = keeps_raw_write g roles r j first bytes safe may
step_keeps g roles r j _ _ _ safe (Seal none idle fits number) = keeps_seal g roles r j safe none idle fits number
step_keeps g roles r j _ _ _ safe (LogWrite s n sealed turn) = keeps_log_write g roles r j s n safe sealed turn
step_keeps g roles r j _ _ _ safe (Publish s sealed whole) = keeps_publish g roles r j s safe sealed whole
step_keeps g roles r j _ _ _ safe (Pick held idle some laid) = keeps_pick g roles r j held (geometry_of_safe g roles r j safe) safe idle some laid
step_keeps g roles r j _ _ _ safe (RollWrite batch b left writing next) = keeps_roll_write g roles r j batch b left (geometry_of_safe g roles r j safe) safe writing next
step_keeps g roles r j _ _ _ safe (RollFlush batch writing done) = keeps_roll_flush g roles r j batch (geometry_of_safe g roles r j safe) safe writing done
step_keeps g roles r j _ _ _ safe (Trim batch home) = keeps_trim g roles r j batch (geometry_of_safe g roles r j safe) safe home
step_keeps g roles r j _ _ _ safe (TrimFlush batch trimmed) = keeps_trim_flush g roles r j batch (geometry_of_safe g roles r j safe) safe trimmed

-- a call that fails is listed, or not
pub failed_step : (g : Geometry) (roles : Roles) (r after : Record) (j k : Journal) (move : Move) (calls : List DeviceCall) → IsSafe g roles r j → Step g roles (present_of r) j move calls k
    → (after ≡ r) ⊎ (after ≡ with_calls r calls) → IsSafe g roles after j ⊎ IsSafe g (moved move roles) after k
failed_step g roles r after j k move calls safe step (inl same) = inl (subst (λ (q : Record). IsSafe g roles q j) (sym same) safe)
failed_step g roles r after j k move calls safe step (inr more) =
    inr (subst (λ (q : Record). IsSafe g (moved move roles) q k) (sym more) (step_keeps g roles r j k move calls safe step))

-- the metadata of a version, where what stands at home is the same and the live deltas are
same_metadata : (role : ℕ → Role) (home now : Image) (g : Geometry) (j k : Journal) (v u : Version) → now ≡ home → live_deltas (txs_of g k v) ≡ live_deltas (txs_of g j u)
    → GivesMetadata role home (txs_of g j u) now (txs_of g k v)
same_metadata role home now g j k v u same live = record {
  each = λ b n i is inside.
      ap (λ (image : Image). recovered_byte image (live_deltas (txs_of g k v)) (4096 * b + i)) same ∙ ap (λ (l : List Delta). recovered_byte home l (4096 * b + i)) live;
}

changed_version : (g : Geometry) (roles : Roles) (r : Record) (j : Journal) (change : Change) (to : ℕ → Role) (running : List Delta) (v : Version) → is_carried (Changes to) v ≡ true
    → GivesMetadata (moved (Changes to) roles v) (present_of r) (txs_of g j (moved_from (Changes to) v)) (present_of (with_calls r [])) (txs_of g (with_change g j change running) v)
changed_version g roles r j change to running Published carried =
    same_metadata (roles Published) (present_of r) (present_of (with_calls r [])) g j (with_change g j change running) Published Published (ap present_of (no_calls r)) refl
changed_version g roles r j change to running Sealed carried =
    same_metadata (roles Sealed) (present_of r) (present_of (with_calls r [])) g j (with_change g j change running) Sealed Sealed (ap present_of (no_calls r)) refl
changed_version g roles r j change to running Running carried = absurd (false≢true carried)

pub step_versions : (g : Geometry) (roles : Roles) (r : Record) (j k : Journal) (move : Move) (calls : List DeviceCall) (v : Version) → IsSafe g roles r j → (step : Step g roles (present_of r) j move calls k)
    → is_carried move v ≡ true → GivesMetadata (moved move roles v) (present_of r) (txs_of g j (moved_from move v)) (present_of (with_calls r calls)) (txs_of g k v)
step_versions g roles r j _ _ _ v safe (Admit need fits) carried =
    same_metadata (roles v) (present_of r) (present_of (with_calls r [])) g j j v v (ap present_of (no_calls r)) refl
step_versions g roles r j _ _ _ v safe (Leave members unspent left one some none) carried =
    same_metadata (roles v) (present_of r) (present_of (with_calls r [])) g j j v v (ap present_of (no_calls r)) refl
step_versions g roles r j _ _ _ v safe (Apply change to running roles_move deltas_move) carried = changed_version g roles r j change to running v carried
step_versions g roles r j _ _ _ v safe (RawWrite first bytes may) carried = raw_bytes g roles r j first bytes safe may v
step_versions g roles r j _ _ _ v safe (Seal none idle fits number) carried =
    same_metadata (moved Seals roles v) (present_of r) (present_of (with_calls r [])) g j (with_sealed g j) v (moved_from Seals v) (ap present_of (no_calls r)) (sealed_live g roles r j v none)
step_versions g roles r j _ _ _ v safe (LogWrite s n sealed turn) carried = logged_bytes g roles r j s n v safe sealed turn
step_versions g roles r j _ _ _ v safe (Publish s sealed whole) carried =
    same_metadata (moved Publishes roles v) (present_of r) (present_of (with_calls r (Flush ∷ []))) g j (with_published j s) v (moved_from Publishes v) (present_after r (Flush ∷ []))
    (ap live_deltas (published_txs g roles r j s v sealed))
step_versions g roles r j _ _ _ v safe (Pick held idle some laid) carried = roll_versions g roles r j _ _ _ v (Pick held idle some laid) (geometry_of_safe g roles r j safe) refl safe
step_versions g roles r j _ _ _ v safe (RollWrite batch b left writing next) carried = roll_versions g roles r j _ _ _ v (RollWrite batch b left writing next) (geometry_of_safe g roles r j safe) refl safe
step_versions g roles r j _ _ _ v safe (RollFlush batch writing done) carried = roll_versions g roles r j _ _ _ v (RollFlush batch writing done) (geometry_of_safe g roles r j safe) refl safe
step_versions g roles r j _ _ _ v safe (Trim batch home) carried = roll_versions g roles r j _ _ _ v (Trim batch home) (geometry_of_safe g roles r j safe) refl safe
step_versions g roles r j _ _ _ v safe (TrimFlush batch trimmed) carried = roll_versions g roles r j _ _ _ v (TrimFlush batch trimmed) (geometry_of_safe g roles r j safe) refl safe
