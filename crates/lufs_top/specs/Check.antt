-- What the command `check` does and says.
use Rattle.std.specs.Prelude.{◌≡◌, List, ℕ, Some, None, IfSome, IfOk, Result, Ok, Err}
use Rattle.lufs_base.specs.declared.geometry.Geometry.{Geometry}
use Rattle.volume_model.specs.declared.finding.Verdict.{Verdict}
use Rattle.volume_model.specs.declared.log.Header.{Header}
use Rattle.volume_model.specs.declared.log.Tx.{Tx}
use Rattle.volume_model.specs.Format.{Image, block, geometry_of}
use Rattle.volume_model.specs.Log.{NoHeader, WithHeader, Listed, BadRun as BadLogRun, log_of, replayed}
use Rattle.volume_model.specs.Sound.{verdict_of}
use Rattle.volume_model.specs.Texts.{verdict_of_image}
use Rattle.sector_disk.specs.Disk.{DiskTold}
use Rattle.log_scan.specs.declared.log.ScanError.{ScanError}
use Rattle.log_scan.specs.declared.log.ScanError.TheVariants as scans
use Rattle.meta_store.specs.declared.error.StoreError.{StoreError}
use Rattle.meta_store.specs.declared.error.StoreError.TheVariants as stores
use Rattle.host_io.specs.Outside.{Outside}
use Rattle.lufs_top.specs.declared.ending.Ending.{Ending}
use Rattle.lufs_top.specs.declared.ending.Ending.TheVariants.{DiskFault, NoMemory, Check}
use Rattle.lufs_top.specs.declared.check.CheckEnding.{CheckEnding}
use Rattle.lufs_top.specs.declared.check.CheckEnding.TheVariants.{Checked, NotVolume, BadHeader, BadRun}
use Rattle.lufs_top.specs.Borrowed.{HasRead}

-- What was found is true of the image: a verdict is that on its content with its log replayed.
abbrev pub IsCheckOf : Image → CheckEnding → Type 0
IsCheckOf image (Checked verdict) = verdict_of_image image ≡ Some verdict
IsCheckOf image NotVolume = geometry_of image ≡ None
IsCheckOf image BadHeader = (g : Geometry) × (geometry_of image ≡ Some g) × (log_of g image ≡ NoHeader)
IsCheckOf image (BadRun tid place) = (g : Geometry) × (h : Header) × (geometry_of image ≡ Some g) × (log_of g image ≡ WithHeader h (BadLogRun tid place))

-- the answer is the verdict on the image with these transactions replayed, if they are those of its log
abbrev pub IsVerdictAfter : Geometry → List Tx → Image → Result Verdict StoreError → Type 0
IsVerdictAfter g txs image result = (h : Header) → log_of g image ≡ WithHeader h (Listed txs) → IfOk result (λ verdict. verdict ≡ verdict_of g (block (replayed image txs)))

-- what was found where the log gave this error, or why the check stopped
abbrev pub ended_by : ScanError → Result CheckEnding StoreError
ended_by scans.BadHeader = Ok BadHeader
ended_by (scans.BadLog tid place) = Ok (BadRun tid place)
ended_by scans.Disk = Err stores.Disk
ended_by scans.Mem = Err stores.Mem

-- the ending tells that the check of this volume stopped so
abbrev pub IsStopped : StoreError → (volume : List ℕ) → Ending → Type 0
IsStopped stores.Disk volume (DiskFault at) = at.now ≡ volume
IsStopped stores.Mem volume NoMemory = Unit {0}
IsStopped error volume ending = ⊥

-- the ending of a check of the disk of this name, of which what is found is true where the disk tells its content
abbrev pub IsCheckEnding : (volume : List ℕ) → DiskTold → Ending → Type 0
IsCheckEnding volume told (Check at found) = (at.now ≡ volume) × IfSome told.present (λ image. IsCheckOf image found)
IsCheckEnding volume told (DiskFault at) = at.now ≡ volume
IsCheckEnding volume told NoMemory = Unit {0}
IsCheckEnding volume told ending = ⊥

-- How `check` of the volume of this name ended, and what it did to the outside.
abbrev pub CheckRan : (volume : List ℕ) → Ending → Outside → Outside → Type 0
CheckRan volume ending old new = HasRead volume (IsCheckEnding volume) ending old new
