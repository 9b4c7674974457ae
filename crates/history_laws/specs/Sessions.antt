-- A session: a mount, and then the steps of the volume that it opens.
use Rattle.std.specs.Prelude.{◌≡◌, ◌<◌, ◌+◌, ◌^◌, ℕ, List, []}
use Rattle.lufs_base.specs.declared.geometry.Geometry.{Geometry}
use Rattle.volume_model.specs.declared.device_call.DeviceCall.{DeviceCall}
use Rattle.volume_model.specs.Format.{Image, block}
use Rattle.volume_model.specs.Log.{replayed}
use Rattle.volume_model.specs.Crash.{Record, with_calls, IsOfSectors, IsSettled, present_of}
use Rattle.volume_model.specs.Sound.{is_among, reading_of, Tree, shape_of, StandsFor}
use Rattle.history_model.specs.Histories.{History, replay_of}
use Rattle.history_model.specs.Touched.{Settled}
use Rattle.history_model.specs.CrashSafety.{IsBoundary}
use Rattle.journal_model.specs.Journals.{Owner, new_journal}
use Rattle.journal_model.specs.LaidBlocks.{is_laid_by}
use Rattle.journal_model.specs.BlockRoles.{Role}
use Rattle.journal_model.specs.Safety.{MayBegin}
use Rattle.journal_model.specs.Mount.{Found, Stage, Replaying, Mounted, next_epoch, MountStep, IsFoundIn}
use Rattle.history_laws.specs.Named.{HasByteOf}
use Rattle.history_laws.specs.Published.{AreRolesOf}
use Rattle.history_laws.specs.Volumes.{Volume}
use Rattle.history_laws.specs.VolumeSteps.{VolumeStep}

-- The disk may be mounted: nothing is pending, the log is listed and has no later ident, an epoch is left, and what is recovered
-- stands for this tree while nothing is held.
pub record MayBeMounted (g : Geometry) (found : Found) (start : Record) (opening : Tree) : Type 0 where
  pub sectors : IsOfSectors start
  pub settled : IsSettled start
  pub log : IsFoundIn g found (present_of start)
  pub tree : StandsFor g (block (replayed (present_of start) found.txs)) opening []

-- a mount that began with this record has come to a record and a stage
pub data Mounts (g : Geometry) (found : Found) (start : Record) : Record → Stage → Type 0 where
  Began : (left : List ℕ) → ((b : ℕ) → is_among b left ≡ is_laid_by found.txs b) → Mounts g found start start (Replaying left)
  Went : (r : Record) (stage next : Stage) (calls : List DeviceCall) → Mounts g found start r stage → MountStep g found (present_of r) stage calls next
      → Mounts g found start (with_calls r calls) next

abbrev pub no_history : History
no_history = record { entries = []; commits = []; rolls = [] }

-- the volume that a mount opens, with these roles and owners of blocks
abbrev pub opened_volume : Found → (role : ℕ → Role) → (owners : ℕ → Owner) → Record → Volume
opened_volume found role owners r = record { r = r; j = new_journal (next_epoch found.header) owners; roles = λ v. role; h = no_history; held = λ v. 0; hands = [] }

-- A session that took the disk with this record has come to a volume.
pub data Session (g : Geometry) (moment : ℕ) (opening : Tree) (start : Record) : Volume → Type 0 where
  Opens : (found : Found) (role : ℕ → Role) (owners : ℕ → Owner) (r : Record) → MayBeMounted g found start opening → Mounts g found start r Mounted
      → MayBegin g role owners → AreRolesOf g role (reading_of g (block (present_of r))) → Session g moment opening start (opened_volume found role owners r)
  Steps : (v w : Volume) → Session g moment opening start v → VolumeStep g moment opening v w → Session g moment opening start w

-- What a crash after n listed calls left may be mounted again, unless its epoch is the last one. It then stands for a tree of the
-- shape that the entries up to a boundary give, with the bytes that are settled.
pub record MountsAgain (g : Geometry) (moment : ℕ) (opening : Tree) (h : History) (n : ℕ) (image : Image) : Type 0 where
  pub found : Found
  pub tree : Tree
  pub count : ℕ
  pub boundary : IsBoundary h count
  pub shape : shape_of tree ≡ shape_of (replay_of g moment opening h.entries count)
  pub bytes : (ino p value : ℕ) → HasByteOf (replay_of g moment opening h.entries count) ino p value → Settled g moment opening h.entries n ino p → HasByteOf tree ino p value
  pub may : found.header.epoch + 1 < 2 ^ 32 → MayBeMounted g found (record { opening = image; calls = [] }) tree
