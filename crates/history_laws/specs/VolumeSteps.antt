-- The steps of a mounted volume: those of its journal, and what becomes of its history.
use Rattle.std.specs.Prelude.{◌≡◌, ◌≤◌, ◌+◌, ℕ, zero, suc, Bool, true, false, List, [], ◌∷◌, ◌++◌, length, slice_get, Option, Some, None}
use Rattle.std.specs.Option.{option_map_or}
use Rattle.lufs_base.specs.declared.geometry.Geometry.{Geometry}
use Rattle.tree_types.specs.declared.call.Call.{Call}
use Rattle.tree_types.specs.declared.call.Call.TheVariants as call
use Rattle.tree_types.specs.declared.waiting.Cause.{Cause}
use Rattle.tree_types.specs.declared.history.Entry.{Entry}
use Rattle.tree_types.specs.declared.history.RollNote.{RollNote}
use Rattle.volume_model.specs.declared.device_call.DeviceCall.{DeviceCall}
use Rattle.volume_model.specs.declared.device_call.DeviceCall.TheVariants.{Write}
use Rattle.volume_model.specs.declared.hand.Hand.{Hand}
use Rattle.volume_model.specs.Format.{Image}
use Rattle.volume_model.specs.Crash.{with_calls, present_of}
use Rattle.volume_model.specs.Sound.{Tree, shape_of}
use Rattle.history_model.specs.Lines.{is_fsync}
use Rattle.history_model.specs.Histories.{entry_at, is_ok, replay_of, IsRightAfter}
use Rattle.history_model.specs.Touched.{touches_byte}
use Rattle.journal_model.specs.Journals.{Journal}
use Rattle.journal_model.specs.Versions.{Published, Running}
use Rattle.journal_model.specs.BlockRoles.{Role, Roles, Move, Stays, Seals, Publishes, Changes, moved, moved_from}
use Rattle.journal_model.specs.Steps.{IsRawWrite, Step, Admit, Leave, Apply, RawWrite, Seal, LogWrite, Publish, Pick, RollWrite, RollFlush, Trim, TrimFlush}
use Rattle.history_laws.specs.Named.{named_block}
use Rattle.history_laws.specs.RawWrites.{WritesTouched}
use Rattle.history_laws.specs.Applied.{with_running, IsApplied}
use Rattle.history_laws.specs.Published.{reading_in}
use Rattle.history_laws.specs.Volumes.{Volume, readings_of, IsRunningAs}

-- The step moves no version, writes no bytes of files, and by it no call goes out.
abbrev pub is_quiet : {g : Geometry} {roles : Roles} {home : Image} {j k : Journal} {move : Move} {calls : List DeviceCall} → Step g roles home j move calls k → Bool
is_quiet (Admit need fits) = true
is_quiet (Leave members unspent left in_members in_unspent none) = false
is_quiet (Apply change to running roles deltas) = false
is_quiet (RawWrite first bytes may) = false
is_quiet (Seal none idle fits number) = false
is_quiet (LogWrite s n is turn) = true
is_quiet (Publish s is whole) = false
is_quiet (Pick held idle some is) = true
is_quiet (RollWrite batch b left writing next) = true
is_quiet (RollFlush batch writing done) = true
is_quiet (Trim batch home) = true
is_quiet (TrimFlush batch trimmed) = true

-- An entry that begins now: it is right after those that there are, and isn't told yet. An fsync that is answered ok is
-- synchronous.
pub record IsBegun (g : Geometry) (moment : ℕ) (opening : Tree) (entries : List Entry) (n : ℕ) (e : Entry) : Type 0 where
  pub right : IsRightAfter g moment opening entries e
  pub start : e.start ≡ n
  pub told : e.told ≡ None
  pub fsync : option_map_or is_fsync e.call false ≡ true → is_ok e.reply ≡ true → e.sync ≡ true

-- The entry after the first k changes nothing: neither the tree nor, if it failed, a byte of a file.
pub record IsPassing (g : Geometry) (moment : ℕ) (opening : Tree) (entries : List Entry) (k : ℕ) : Type 0 where
  pub entry : Entry
  pub is : entry_at entries (suc k) ≡ Some entry
  pub same : replay_of g moment opening entries (suc k) ≡ replay_of g moment opening entries k
  pub untouched : (ino p : ℕ) → touches_byte (replay_of g moment opening entries k) entry ino p ≡ false

-- the call may change the tree
abbrev pub may_change : Option Call → Bool
may_change None = false
may_change (Some (call.Fsync path)) = false
may_change (Some (call.Read path offset count)) = false
may_change (Some (call.Stat path)) = false
may_change (Some (call.Lstat path)) = false
may_change (Some (call.List path after)) = false
may_change (Some (call.Readlink path)) = false
may_change (Some call.Df) = false
may_change (Some (call.Become uid gid)) = false
may_change (Some other) = true

-- the entries, of which that after the first k is told after n listed calls
abbrev pub with_told : (n : ℕ) → List Entry → (k : ℕ) → List Entry
with_told n [] k = []
with_told n (e ∷ entries) zero = record e { told = Some n } ∷ entries
with_told n (e ∷ entries) (suc k) = e ∷ with_told n entries k

-- The entry after the first k may be told: it wasn't yet, and if it is synchronous, it is published.
pub record MayBeTold (entries : List Entry) (published k : ℕ) : Type 0 where
  pub entry : Entry
  pub is : slice_get entries k ≡ Some entry
  pub untold : entry.told ≡ None
  pub published_if : entry.sync ≡ true → suc k ≤ published

-- A step of the volume v leads to a volume.
pub data VolumeStep (g : Geometry) (moment : ℕ) (opening : Tree) (v : Volume) : Volume → Type 0 where
  -- a call comes in; a commit writes to the log; a roll goes on
  Quiet : (calls : List DeviceCall) (k : Journal) (step : Step g v.roles (present_of v.r) v.j Stays calls k) → is_quiet step ≡ true
      → VolumeStep g moment opening v (record v { r = with_calls v.r calls; j = k })
  -- a call goes out; with the last one nothing is in hand
  Leaves : (members unspent left : ℕ) → v.j.members ≡ members + 1 → v.j.unspent ≡ unspent + left → (members ≡ 0 → unspent ≡ 0) → (members ≡ 0 → v.hands ≡ [])
      → VolumeStep g moment opening v (record v { j = record v.j { members = members; unspent = unspent } })
  -- a call writes bytes in place
  Writes : (first : ℕ) (bytes : List ℕ) → IsRawWrite g v.roles v.j first bytes → WritesTouched g moment opening v.h.entries v.r (v.held Running) (readings_of g v) first bytes
      → VolumeStep g moment opening v (record v { r = with_calls v.r (Write first bytes ∷ []) })
  -- a call that is inside takes blocks or an inode into its hand, or gives them back
  Takes : (to : ℕ → Role) (k : Journal) (hands : List Hand) → Step g v.roles (present_of v.r) v.j (Changes to) [] k → 1 ≤ v.j.members
      → IsRunningAs g (moved (Changes to) v.roles) (present_of v.r) k hands (shape_of (replay_of g moment opening v.h.entries (v.held Running)))
      → ((ino index : ℕ) → named_block (reading_in g k (present_of v.r) Running) ino index ≡ named_block (readings_of g v Running) ino index)
      → VolumeStep g moment opening v (record v { j = k; roles = moved (Changes to) v.roles; hands = hands })
  -- the call of the next entry that the running version doesn't hold is carried out
  Applies : (to : ℕ → Role) (k : Journal) (hands : List Hand) → Step g v.roles (present_of v.r) v.j (Changes to) [] k → 1 ≤ v.j.members
      → IsRunningAs g (moved (Changes to) v.roles) (present_of v.r) k hands (shape_of (replay_of g moment opening v.h.entries (suc (v.held Running))))
      → IsApplied g moment opening v.h.entries v.r (readings_of g v) (v.held Running) (reading_in g k (present_of v.r) Running)
      → VolumeStep g moment opening v (record v { j = k; roles = moved (Changes to) v.roles; held = with_running v.held (suc (v.held Running)); hands = hands })
  -- that entry changes nothing
  Passes : IsPassing g moment opening v.h.entries (v.held Running) → VolumeStep g moment opening v (record v { held = with_running v.held (suc (v.held Running)) })
  -- a commit begins: its transaction is closed
  CommitBegins : (cause : Cause) (k : Journal) → Step g v.roles (present_of v.r) v.j Seals [] k
      → VolumeStep g moment opening v (record v {
        j = k;
        roles = moved Seals v.roles;
        held = λ w. v.held (moved_from Seals w);
        h = record v.h { commits = v.h.commits ++ record { boundary = v.held Running; cause = cause } ∷ [] };
      })
  -- it ends: the transaction is kept
  CommitEnds : (calls : List DeviceCall) (k : Journal) → Step g v.roles (present_of v.r) v.j Publishes calls k
      → VolumeStep g moment opening v (record v { r = with_calls v.r calls; j = k; roles = moved Publishes v.roles; held = λ w. v.held (moved_from Publishes w) })
  -- the history goes on
  Begins : (e : Entry) → IsBegun g moment opening v.h.entries (length v.r.calls) e → VolumeStep g moment opening v (record v { h = record v.h { entries = v.h.entries ++ e ∷ [] } })
  Tells : (k : ℕ) → MayBeTold v.h.entries (v.held Published) k
      → VolumeStep g moment opening v (record v { h = record v.h { entries = with_told (length v.r.calls) v.h.entries k } })
  Notes : (note : RollNote) → VolumeStep g moment opening v (record v { h = record v.h { rolls = v.h.rolls ++ note ∷ [] } })
