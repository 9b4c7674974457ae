-- A call goes out of a volume, and a call writes bytes in place.
use Rattle.std.proofs.Common.{◌≡◌, ℕ, ◌+◌, List, [], ◌∷◌, subst}
use Rattle.lufs_base.specs.declared.geometry.Geometry.{Geometry}
use Rattle.volume_model.specs.declared.device_call.DeviceCall.TheVariants.{Write}
use Rattle.volume_model.specs.Crash.{Record, with_calls}
use Rattle.volume_model.specs.Sound.{Tree}
use Rattle.journal_model.specs.Versions.{Running}
use Rattle.journal_model.specs.Steps.{IsRawWrite, Leave, RawWrite}
use Rattle.journal_model.specs.BlockRoles.{Stays}
use Rattle.journal_laws.proofs.Outcomes.{no_calls}
use Rattle.history_laws.specs.RawWrites.{WritesTouched}
use Rattle.history_laws.specs.Volumes.{Volume, readings_of, KeepsHistory}
use Rattle.history_laws.proofs.RawBytes.{write_kept}
use Rattle.history_laws.proofs.QuietSteps.{unchanged, sealed_still, stays_keep}
use Rattle.history_laws.proofs.VolumeFacts.{step_inside}

module _ (g : Geometry) (moment : ℕ) (opening : Tree) (first : ℕ) (v : Volume) (keeps : KeepsHistory g moment opening first v) where
  pub leaving_keeps : (members unspent left : ℕ) → v.j.members ≡ members + 1 → v.j.unspent ≡ unspent + left → (members ≡ 0 → unspent ≡ 0) → (members ≡ 0 → v.hands ≡ [])
      → KeepsHistory g moment opening first (record v { j = record v.j { members = members; unspent = unspent } })
  leaving_keeps members unspent left one some none idle =
      subst (λ (q : Record). KeepsHistory g moment opening first (record v { r = q; j = record v.j { members = members; unspent = unspent } })) (no_calls v.r)
      (stays_keep g moment opening first v keeps [] (record v.j { members = members; unspent = unspent }) (Leave members unspent left one some none)
      (unchanged g moment opening first v keeps) (sealed_still g moment opening first v keeps []) idle)

  pub writing_keeps : (start : ℕ) (bytes : List ℕ) → IsRawWrite g v.roles v.j start bytes
      → WritesTouched g moment opening v.h.entries v.r (v.held Running) (readings_of g v) start bytes
      → KeepsHistory g moment opening first (record v { r = with_calls v.r (Write start bytes ∷ []) })
  writing_keeps start bytes may touched =
      stays_keep g moment opening first v keeps (Write start bytes ∷ []) v.j (RawWrite start bytes may)
      (write_kept g moment opening v.h.entries v.r start bytes (readings_of g v) v.held keeps.safe.sectors
      (step_inside g v.roles v.r v.j v.j Stays start bytes keeps.safe (RawWrite start bytes may)) keeps.bytes touched)
      (sealed_still g moment opening first v keeps (Write start bytes ∷ [])) keeps.idle
