-- What the command `scan` does and says.
use Rattle.std.specs.Prelude.{◌≡◌, ℕ, List, Some, None, IfSome, Result, Ok, Err, string_bytes}
use Rattle.lufs_base.specs.declared.geometry.Geometry.{Geometry}
use Rattle.volume_model.specs.declared.log.Header.{Header}
use Rattle.volume_model.specs.Format.{Image, geometry_of}
use Rattle.volume_model.specs.Log.{NoHeader, WithHeader, BadRun as BadLogRun, log_of}
use Rattle.volume_model.specs.Texts.{scan_text_of}
use Rattle.sector_disk.specs.Disk.{DiskTold}
use Rattle.host_io.specs.Outside.{Outside}
use Rattle.lufs_top.specs.declared.ending.Ending.{Ending}
use Rattle.lufs_top.specs.declared.ending.Ending.TheVariants.{DiskFault, NoMemory, Scan}
use Rattle.lufs_top.specs.declared.scan.ScanEnding.{ScanEnding}
use Rattle.lufs_top.specs.declared.scan.ScanEnding.TheVariants.{Listed, NotVolume, BadHeader, BadRun}
use Rattle.log_scan.specs.declared.log.ScanError.{ScanError}
use Rattle.log_scan.specs.declared.log.ScanError.TheVariants as scans
use Rattle.lufs_top.specs.declared.scan.Stop.{Stop}
use Rattle.lufs_top.specs.declared.scan.Stop.TheVariants as stops
use Rattle.lufs_top.specs.Borrowed.{HasRead}

-- what was found is true of the image
abbrev pub IsScanOf : Image → ScanEnding → Type 0
IsScanOf image (Listed text) = scan_text_of image ≡ Some (string_bytes text)
IsScanOf image NotVolume = geometry_of image ≡ None
IsScanOf image BadHeader = (g : Geometry) × (geometry_of image ≡ Some g) × (log_of g image ≡ NoHeader)
IsScanOf image (BadRun tid place) = (g : Geometry) × (h : Header) × (geometry_of image ≡ Some g) × (log_of g image ≡ WithHeader h (BadLogRun tid place))

-- what was found where the log gave this error, or why the scan stopped
abbrev pub ended_by : ScanError → Result ScanEnding Stop
ended_by scans.BadHeader = Ok BadHeader
ended_by (scans.BadLog tid place) = Ok (BadRun tid place)
ended_by scans.Disk = Err stops.DiskFault
ended_by scans.Mem = Err stops.NoMemory

-- the ending tells that the scan of this volume stopped so
abbrev pub IsStopped : Stop → (volume : List ℕ) → Ending → Type 0
IsStopped stops.DiskFault volume (DiskFault at) = at.now ≡ volume
IsStopped stops.NoMemory volume NoMemory = Unit {0}
IsStopped stop volume ending = ⊥

-- the ending of a scan of the disk of this name, of which what is found is true where the disk tells its content
abbrev pub IsScanEnding : (volume : List ℕ) → DiskTold → Ending → Type 0
IsScanEnding volume told (Scan at found) = (at.now ≡ volume) × IfSome told.present (λ image. IsScanOf image found)
IsScanEnding volume told (DiskFault at) = at.now ≡ volume
IsScanEnding volume told NoMemory = Unit {0}
IsScanEnding volume told ending = ⊥

-- How `scan` of the volume of this name ended, and what it did to the outside.
abbrev pub ScanRan : (volume : List ℕ) → Ending → Outside → Outside → Type 0
ScanRan volume ending old new = HasRead volume (IsScanEnding volume) ending old new
