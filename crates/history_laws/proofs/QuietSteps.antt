-- A step of the journal that moves no version and writes no bytes of files.
use Rattle.std.proofs.Common.{◌≡◌, ℕ, true, List, [], ◌∷◌, length, refl, sym, subst, arith}
use Rattle.std.proofs.lemmas.Bool.{false≢true}
use Rattle.std.proofs.lemmas.List.{length_push}
use Rattle.lufs_base.specs.declared.geometry.Geometry.{Geometry}
use Rattle.volume_model.specs.declared.device_call.DeviceCall.{DeviceCall}
use Rattle.volume_model.specs.declared.device_call.DeviceCall.TheVariants.{Write, Flush}
use Rattle.volume_model.specs.Crash.{Record, with_calls, IsInside, present_of}
use Rattle.volume_model.specs.Sound.{Reading, Tree, shape_of}
use Rattle.history_model.specs.Histories.{entry_at, replay_of}
use Rattle.log_laws.specs.LogOnImage.{tx_write}
use Rattle.journal_model.specs.Journals.{Journal}
use Rattle.journal_model.specs.Versions.{Version, Published, Sealed, Running}
use Rattle.journal_model.specs.BlockRoles.{Stays}
use Rattle.journal_model.specs.Steps.{Step, Admit, Leave, RawWrite, LogWrite, Pick, RollWrite, RollFlush, Trim, TrimFlush}
use Rattle.journal_laws.proofs.KeptSteps.{step_keeps}
use Rattle.journal_laws.proofs.Outcomes.{no_calls}
use Rattle.history_laws.specs.KeptBytes.{AreBytesKept}
use Rattle.history_laws.specs.Published.{IsSealedBefore}
use Rattle.history_laws.specs.Volumes.{Volume, readings_of, KeepsHistory}
use Rattle.history_laws.specs.VolumeSteps.{is_quiet}
use Rattle.history_laws.proofs.MovedBytes.{flush_kept}
use Rattle.history_laws.proofs.RawBytes.{write_kept}
use Rattle.history_laws.proofs.Moments.{few_calls, earlier_called, geometry_called}
use Rattle.history_laws.proofs.QuietWrites.{SparesFiles, log_spares, header_spares, roll_spares, spared_touched}
use Rattle.history_laws.proofs.VersionsStay.{version_stays, running_stays}
use Rattle.history_laws.proofs.VolumeFacts.{step_inside, calls_grow, began_now, sealed_later, roles_read, carried_readings}

module _ (g : Geometry) (moment : ℕ) (opening : Tree) (first : ℕ) (v : Volume) (keeps : KeepsHistory g moment opening first v) where
  abbrev KeptAfter : List DeviceCall → Type 0
  KeptAfter calls = AreBytesKept g moment opening v.h.entries (with_calls v.r calls) (readings_of g v) v.held

  pub unchanged : KeptAfter []
  unchanged = subst (λ (q : Record). AreBytesKept g moment opening v.h.entries q (readings_of g v) v.held) (sym (no_calls v.r)) keeps.bytes

  flushed : KeptAfter (Flush ∷ [])
  flushed = flush_kept g moment opening v.h.entries v.r keeps.safe.sectors (readings_of g v) v.held keeps.bytes

  written : (start : ℕ) (bytes : List ℕ) → IsInside (length v.r.opening) (Write start bytes) → SparesFiles v.roles start bytes → KeptAfter (Write start bytes ∷ [])
  written start bytes inside spares =
      write_kept g moment opening v.h.entries v.r start bytes (readings_of g v) v.held keeps.safe.sectors inside keeps.bytes
      (spared_touched g moment opening v.h.entries v.r (v.held Running) v.roles (readings_of g v) start bytes spares (roles_read g moment opening first v keeps))

  inside : (k : Journal) (start : ℕ) (bytes : List ℕ) → Step g v.roles (present_of v.r) v.j Stays (Write start bytes ∷ []) k → IsInside (length v.r.opening) (Write start bytes)
  inside k start bytes step = step_inside g v.roles v.r v.j k Stays start bytes keeps.safe step

  bytes_quiet : (calls : List DeviceCall) (k : Journal) (step : Step g v.roles (present_of v.r) v.j Stays calls k) → is_quiet step ≡ true → KeptAfter calls
  bytes_quiet _ _ (Admit need fits) quiet = unchanged
  bytes_quiet _ _ (Leave members unspent left one some none) quiet = absurd (false≢true quiet)
  bytes_quiet _ _ (RawWrite start bytes may) quiet = absurd (false≢true quiet)
  bytes_quiet _ _ (LogWrite s n sealed turn) quiet =
      written _ _ (inside _ _ _ (LogWrite s n sealed turn)) (log_spares g v.roles v.r v.j keeps.safe v.j.oldest.epoch s n turn)
  bytes_quiet _ _ (Pick held idle some laid) quiet = unchanged
  bytes_quiet _ _ (RollWrite batch b left writing next) quiet =
      written _ _ (inside _ _ _ (RollWrite batch b left writing next)) (roll_spares g v.roles v.r v.j keeps.safe batch b left _ writing next)
  bytes_quiet _ _ (RollFlush batch writing done) quiet = flushed
  bytes_quiet _ _ (Trim batch home) quiet = written _ _ (inside _ _ _ (Trim batch home)) (header_spares g v.roles v.r v.j keeps.safe _)
  bytes_quiet _ _ (TrimFlush batch trimmed) quiet = flushed

  pub sealed_still : (calls : List DeviceCall) → IsSealedBefore v.h.entries (length (with_calls v.r calls).calls) v.held v.j.sealed
  sealed_still calls = sealed_later v.h.entries (length v.r.calls) (length (with_calls v.r calls).calls) v.held v.j.sealed (calls_grow v.r calls) keeps.sealed

  sealed_quiet : (calls : List DeviceCall) (k : Journal) (step : Step g v.roles (present_of v.r) v.j Stays calls k) → is_quiet step ≡ true
      → IsSealedBefore v.h.entries (length (with_calls v.r calls).calls) v.held k.sealed
  sealed_quiet _ _ (Admit need fits) quiet = sealed_still []
  sealed_quiet _ _ (Leave members unspent left one some none) quiet = absurd (false≢true quiet)
  sealed_quiet _ _ (RawWrite start bytes may) quiet = absurd (false≢true quiet)
  sealed_quiet _ _ (LogWrite s n sealed turn) quiet =
      λ some i low.
      began_now (entry_at v.h.entries i) (length v.r.calls) (length (with_calls v.r (tx_write g v.j.oldest.epoch s.tx s.written n ∷ [])).calls)
      (omega (arith, length_push v.r.calls (tx_write g v.j.oldest.epoch s.tx s.written n))) (keeps.bytes.begun i)
  sealed_quiet _ _ (Pick held idle some laid) quiet = sealed_still []
  sealed_quiet _ _ (RollWrite batch b left writing next) quiet = sealed_still _
  sealed_quiet _ _ (RollFlush batch writing done) quiet = sealed_still _
  sealed_quiet _ _ (Trim batch home) quiet = sealed_still _
  sealed_quiet _ _ (TrimFlush batch trimmed) quiet = sealed_still _

  idle_quiet : (calls : List DeviceCall) (k : Journal) (step : Step g v.roles (present_of v.r) v.j Stays calls k) → is_quiet step ≡ true → k.members ≡ 0 → v.hands ≡ []
  idle_quiet _ _ (Admit need fits) quiet none = absurd (omega (arith, none))
  idle_quiet _ _ (Leave members unspent left one some nothing) quiet none = absurd (false≢true quiet)
  idle_quiet _ _ (RawWrite start bytes may) quiet none = absurd (false≢true quiet)
  idle_quiet _ _ (LogWrite s n sealed turn) quiet none = keeps.idle none
  idle_quiet _ _ (Pick held idle some laid) quiet none = keeps.idle none
  idle_quiet _ _ (RollWrite batch b left writing next) quiet none = keeps.idle none
  idle_quiet _ _ (RollFlush batch writing done) quiet none = keeps.idle none
  idle_quiet _ _ (Trim batch home) quiet none = keeps.idle none
  idle_quiet _ _ (TrimFlush batch trimmed) quiet none = keeps.idle none

  -- whatever the step is, by what it keeps of bytes
  pub stays_keep : (calls : List DeviceCall) (k : Journal) → Step g v.roles (present_of v.r) v.j Stays calls k → KeptAfter calls
      → IsSealedBefore v.h.entries (length (with_calls v.r calls).calls) v.held k.sealed → (hands : k.members ≡ 0 → v.hands ≡ [])
      → KeepsHistory g moment opening first (record v { r = with_calls v.r calls; j = k })
  stays_keep calls k step bytes sealed idle =
      let few = few_calls g v.roles (present_of v.r) v.j k Stays calls step in
      record {
        safe = step_keeps g v.roles v.r v.j k Stays calls keeps.safe step;
        versions = record {
          published = version_stays g v.roles v.r v.j k Stays calls keeps.safe step Published refl (shape_of (replay_of g moment opening v.h.entries (v.held Published))) keeps.versions.published;
          sealed = version_stays g v.roles v.r v.j k Stays calls keeps.safe step Sealed refl (shape_of (replay_of g moment opening v.h.entries (v.held Sealed))) keeps.versions.sealed;
          published_boundary = keeps.versions.published_boundary;
          sealed_boundary = keeps.versions.sealed_boundary;
        };
        running = running_stays g v.roles v.r v.j k Stays calls keeps.safe step refl v.hands (shape_of (replay_of g moment opening v.h.entries (v.held Running))) keeps.running.sound keeps.running.has keeps.running.read;
        bytes = subst (λ (readings : Version → Reading). AreBytesKept g moment opening v.h.entries (with_calls v.r calls) readings v.held)
            (sym (carried_readings g moment opening first v keeps k Stays calls step (λ w. refl))) bytes;
        told = keeps.told;
        sealed = sealed;
        idle = idle;
        legal = keeps.legal;
        within = keeps.within;
        earlier = earlier_called g moment opening first v keeps calls few;
        geometry = geometry_called g moment opening first v keeps calls few;
      }

  pub quiet_keeps : (calls : List DeviceCall) (k : Journal) (step : Step g v.roles (present_of v.r) v.j Stays calls k) → is_quiet step ≡ true
      → KeepsHistory g moment opening first (record v { r = with_calls v.r calls; j = k })
  quiet_keeps calls k step quiet = stays_keep calls k step (bytes_quiet calls k step quiet) (sealed_quiet calls k step quiet) (idle_quiet calls k step quiet)
