-- The steps of a roll, one by one and together: they keep a journal safe and each version's metadata, and leave the versions
-- that a mount may recover.
use Rattle.std.proofs.Common.{◌≡◌, ◌*◌, true, List, [], ◌∷◌, take, refl, sym, ap, subst}
use Rattle.std.proofs.lemmas.Bool.{true≢false}
use Rattle.lufs_base.specs.Layout.{IsGeometry, header_sector}
use Rattle.lufs_base.specs.declared.geometry.Geometry.{Geometry}
use Rattle.volume_model.specs.declared.device_call.DeviceCall.{DeviceCall}
use Rattle.volume_model.specs.declared.device_call.DeviceCall.TheVariants.{Write, Flush}
use Rattle.volume_model.specs.Format.{Image, block}
use Rattle.volume_model.specs.Log.{header_bytes, replayed}
use Rattle.volume_model.specs.Crash.{Record, with_calls, present_of}
use Rattle.journal_model.specs.Journals.{Writing, Home, Trimmed, Journal}
use Rattle.journal_model.specs.Versions.{Version, header_after, txs_of}
use Rattle.journal_model.specs.BlockRoles.{Roles, Move}
use Rattle.journal_model.specs.SafeImages.{GivesMetadata}
use Rattle.journal_model.specs.Safety.{IsSafe}
use Rattle.journal_model.specs.Steps.{Step, Admit, Leave, Apply, RawWrite, Seal, LogWrite, Publish, Pick, RollWrite, RollFlush, Trim, TrimFlush}
use Rattle.journal_laws.specs.Rolls.{is_roll_step, MayRecover}
use Rattle.journal_laws.proofs.Outcomes.{no_calls, present_after}
use Rattle.journal_laws.proofs.RollKept.{with_roll}
use Rattle.journal_laws.proofs.RollPick.{whole_batch}
use Rattle.journal_laws.proofs.RollWritten.{version_bytes}
use Rattle.journal_laws.proofs.RollTrimmed.{trim_bytes}
use Rattle.journal_laws.proofs.RollEnded.{without_batch, ended_bytes}
use Rattle.journal_laws.proofs.RollUnchanged.{before_pick, before_roll_write, before_roll_flush, before_trim, before_trim_flush}
pub use Rattle.journal_laws.proofs.RollPick.{keeps_pick}
pub use Rattle.journal_laws.proofs.RollWritten.{keeps_roll_write}
pub use Rattle.journal_laws.proofs.RollFlushed.{keeps_roll_flush}
pub use Rattle.journal_laws.proofs.RollTrimmed.{keeps_trim}
pub use Rattle.journal_laws.proofs.RollEnded.{keeps_trim_flush}

pub roll_keeps : (g : Geometry) (roles : Roles) (r : Record) (j k : Journal) (move : Move) (calls : List DeviceCall) (step : Step g roles (present_of r) j move calls k)
    → IsGeometry g → is_roll_step step ≡ true → IsSafe g roles r j → IsSafe g roles (with_calls r calls) k
roll_keeps g roles r j _ _ _ (Admit need fits) geometry is safe = absurd (true≢false (sym is))
roll_keeps g roles r j _ _ _ (Leave members unspent left in_members in_unspent none) geometry is safe = absurd (true≢false (sym is))
roll_keeps g roles r j _ _ _ (Apply change to running roles_move deltas_move) geometry is safe = absurd (true≢false (sym is))
roll_keeps g roles r j _ _ _ (RawWrite first bytes may) geometry is safe = absurd (true≢false (sym is))
roll_keeps g roles r j _ _ _ (Seal none idle fits number) geometry is safe = absurd (true≢false (sym is))
roll_keeps g roles r j _ _ _ (LogWrite s n sealed turn) geometry is safe = absurd (true≢false (sym is))
roll_keeps g roles r j _ _ _ (Publish s sealed whole) geometry is safe = absurd (true≢false (sym is))
roll_keeps g roles r j _ _ _ (Pick held idle some laid) geometry is safe = keeps_pick g roles r j held geometry safe idle some laid
roll_keeps g roles r j _ _ _ (RollWrite batch b left writing next) geometry is safe = keeps_roll_write g roles r j batch b left geometry safe writing next
roll_keeps g roles r j _ _ _ (RollFlush batch writing done) geometry is safe = keeps_roll_flush g roles r j batch geometry safe writing done
roll_keeps g roles r j _ _ _ (Trim batch home) geometry is safe = keeps_trim g roles r j batch geometry safe home
roll_keeps g roles r j _ _ _ (TrimFlush batch trimmed) geometry is safe = keeps_trim_flush g roles r j batch geometry safe trimmed

-- what stands at home after calls
metadata_now : (g : Geometry) (roles : Roles) (r : Record) (j k : Journal) (calls : List DeviceCall) (v : Version) (next : Image) → present_of (with_calls r calls) ≡ next
    → GivesMetadata (roles v) (present_of r) (txs_of g j v) next (txs_of g k v) → GivesMetadata (roles v) (present_of r) (txs_of g j v) (present_of (with_calls r calls)) (txs_of g k v)
metadata_now g roles r j k calls v next now gives = subst (λ (i : Image). GivesMetadata (roles v) (present_of r) (txs_of g j v) i (txs_of g k v)) (sym now) gives

pub roll_versions : (g : Geometry) (roles : Roles) (r : Record) (j k : Journal) (move : Move) (calls : List DeviceCall) (v : Version) (step : Step g roles (present_of r) j move calls k)
    → IsGeometry g → is_roll_step step ≡ true → IsSafe g roles r j → GivesMetadata (roles v) (present_of r) (txs_of g j v) (present_of (with_calls r calls)) (txs_of g k v)
roll_versions g roles r j _ _ _ v (Admit need fits) geometry is safe = absurd (true≢false (sym is))
roll_versions g roles r j _ _ _ v (Leave members unspent left in_members in_unspent none) geometry is safe = absurd (true≢false (sym is))
roll_versions g roles r j _ _ _ v (Apply change to running roles_move deltas_move) geometry is safe = absurd (true≢false (sym is))
roll_versions g roles r j _ _ _ v (RawWrite first bytes may) geometry is safe = absurd (true≢false (sym is))
roll_versions g roles r j _ _ _ v (Seal none idle fits number) geometry is safe = absurd (true≢false (sym is))
roll_versions g roles r j _ _ _ v (LogWrite s n sealed turn) geometry is safe = absurd (true≢false (sym is))
roll_versions g roles r j _ _ _ v (Publish s sealed whole) geometry is safe = absurd (true≢false (sym is))
roll_versions g roles r j _ _ _ v (Pick held idle some laid) geometry is safe =
    metadata_now g roles r j (with_roll j (Writing (whole_batch j held))) [] v (present_of r) (ap present_of (no_calls r)) record { each = λ c n i role below. refl }
roll_versions g roles r j _ _ _ v (RollWrite batch b left writing next) geometry is safe =
    let call = Write (8 * b) (block (replayed (present_of r) (take batch.count j.committed)) b) in
    metadata_now g roles r j (with_roll j (Writing (record batch { left = left }))) (call ∷ []) v _ (present_after r (call ∷ []))
    record { each = version_bytes g roles r j batch b left geometry safe writing next v }
roll_versions g roles r j _ _ _ v (RollFlush batch writing done) geometry is safe =
    metadata_now g roles r j (with_roll j (Home batch)) (Flush ∷ []) v (present_of r) (present_after r (Flush ∷ [])) record { each = λ c n i role below. refl }
roll_versions g roles r j _ _ _ v (Trim batch home) geometry is safe =
    let call = Write (header_sector g) (header_bytes (header_after g j batch.count)) in
    metadata_now g roles r j (with_roll j (Trimmed batch)) (call ∷ []) v _ (present_after r (call ∷ [])) record { each = trim_bytes g roles r j batch geometry safe home v }
roll_versions g roles r j _ _ _ v (TrimFlush batch trimmed) geometry is safe =
    metadata_now g roles r j (without_batch g j batch) (Flush ∷ []) v (present_of r) (present_after r (Flush ∷ [])) record { each = ended_bytes g roles r j batch geometry safe trimmed v }

pub roll_unchanged : (g : Geometry) (roles : Roles) (r : Record) (j k : Journal) (move : Move) (calls : List DeviceCall) (v : Version) (step : Step g roles (present_of r) j move calls k)
    → IsGeometry g → is_roll_step step ≡ true → IsSafe g roles r j → MayRecover g roles (with_calls r calls) k v → MayRecover g roles r j v
roll_unchanged g roles r j _ _ _ v (Admit need fits) geometry is safe may = absurd (true≢false (sym is))
roll_unchanged g roles r j _ _ _ v (Leave members unspent left in_members in_unspent none) geometry is safe may = absurd (true≢false (sym is))
roll_unchanged g roles r j _ _ _ v (Apply change to running roles_move deltas_move) geometry is safe may = absurd (true≢false (sym is))
roll_unchanged g roles r j _ _ _ v (RawWrite first bytes in_body) geometry is safe may = absurd (true≢false (sym is))
roll_unchanged g roles r j _ _ _ v (Seal none idle fits number) geometry is safe may = absurd (true≢false (sym is))
roll_unchanged g roles r j _ _ _ v (LogWrite s n sealed turn) geometry is safe may = absurd (true≢false (sym is))
roll_unchanged g roles r j _ _ _ v (Publish s sealed whole) geometry is safe may = absurd (true≢false (sym is))
roll_unchanged g roles r j _ _ _ v (Pick held idle some laid) geometry is safe may = before_pick g roles r j held v may
roll_unchanged g roles r j _ _ _ v (RollWrite batch b left writing next) geometry is safe may = before_roll_write g roles r j safe batch b left v geometry writing next may
roll_unchanged g roles r j _ _ _ v (RollFlush batch writing done) geometry is safe may = before_roll_flush g roles r j safe batch v writing may
roll_unchanged g roles r j _ _ _ v (Trim batch home) geometry is safe may = before_trim g roles r j safe batch v geometry home may
roll_unchanged g roles r j _ _ _ v (TrimFlush batch trimmed) geometry is safe may = before_trim_flush g roles r j safe batch v trimmed may
