-- What a volume that keeps its history has of each version, and of the calls that a step lists.
use Rattle.std.proofs.Common.{◌≡◌, ◌≤◌, ◌<◌, ℕ, true, List, [], ◌∷◌, length, Option, Some, None, arith, length-append}
use Rattle.std.specs.Prelude.{IfSome}
use Rattle.lufs_base.specs.declared.geometry.Geometry.{Geometry}
use Rattle.tree_types.specs.declared.history.Entry.{Entry}
use Rattle.volume_model.specs.declared.device_call.DeviceCall.{DeviceCall}
use Rattle.volume_model.specs.declared.device_call.DeviceCall.TheVariants.{Write}
use Rattle.volume_model.specs.Crash.{Record, with_calls, IsInside, present_of}
use Rattle.volume_model.specs.Sound.{Reading, Tree}
use Rattle.journal_model.specs.Journals.{SealedTx, Journal}
use Rattle.journal_model.specs.Versions.{Version, Published, Sealed, Running}
use Rattle.journal_model.specs.BlockRoles.{Roles, Move, moved_from, is_carried}
use Rattle.journal_model.specs.Safety.{IsSafe}
use Rattle.journal_model.specs.Steps.{Step}
use Rattle.journal_laws.proofs.KeptSteps.{step_keeps}
use Rattle.journal_laws.proofs.Replays.{each_right}
use Rattle.history_model.specs.Histories.{entry_at}
use Rattle.history_laws.specs.Published.{AreRolesOf, reading_in, IsSealedBefore}
use Rattle.history_laws.specs.Volumes.{Volume, readings_of, KeepsHistory}
use Rattle.history_laws.proofs.VersionsStay.{reading_stays}

-- the write of a step lies inside the disk
pub step_inside : (g : Geometry) (roles : Roles) (r : Record) (j k : Journal) (move : Move) (first : ℕ) (bytes : List ℕ) → IsSafe g roles r j
    → Step g roles (present_of r) j move (Write first bytes ∷ []) k → IsInside (length r.opening) (Write first bytes)
step_inside g roles r j k move first bytes safe step =
    (each_right (IsInside (length r.opening)) r.calls (Write first bytes ∷ []) (step_keeps g roles r j k move (Write first bytes ∷ []) safe step).sectors.calls).0

pub calls_grow : (r : Record) (calls : List DeviceCall) → length r.calls ≤ length (with_calls r calls).calls
calls_grow r calls = omega (arith, length-append r.calls calls)

began_less : (o : Option Entry) (n m : ℕ) → n ≤ m → IfSome o (λ e. e.start < n) → IfSome o (λ e. e.start < m)
began_less None n m more began = tt
began_less (Some e) n m more began = let early : e.start < n = began in omega (arith, early, more)

pub began_now : (o : Option Entry) (n m : ℕ) → n < m → IfSome o (λ e. e.start ≤ n) → IfSome o (λ e. e.start < m)
began_now None n m more began = tt
began_now (Some e) n m more began = let early : e.start ≤ n = began in omega (arith, early, more)

-- what began before a moment began before a later one
pub sealed_later : (entries : List Entry) (n m : ℕ) (held : Version → ℕ) (o : Option SealedTx) → n ≤ m → IsSealedBefore entries n held o → IsSealedBefore entries m held o
sealed_later entries n m held None more is = is
sealed_later entries n m held (Some s) more is = λ some i low. began_less (entry_at entries i) n m more (is some i low)

module _ (g : Geometry) (moment : ℕ) (opening : Tree) (first : ℕ) (v : Volume) (keeps : KeepsHistory g moment opening first v) where
  pub roles_read : (w : Version) → AreRolesOf g (v.roles w) (readings_of g v w)
  roles_read Published = keeps.versions.published.read
  roles_read Sealed = keeps.versions.sealed.read
  roles_read Running = keeps.running.read

  -- what is read of the versions where a step carries all of them
  pub carried_readings : (k : Journal) (move : Move) (calls : List DeviceCall) → Step g v.roles (present_of v.r) v.j move calls k → ((w : Version) → is_carried move w ≡ true)
      → ◌≡◌ {A = Version → Reading} (reading_in g k (present_of (with_calls v.r calls))) (λ w. readings_of g v (moved_from move w))
  carried_readings k move calls step carried =
      λ t w. reading_stays g v.roles v.r v.j k move calls keeps.safe step w (carried w) (roles_read (moved_from move w)) t
