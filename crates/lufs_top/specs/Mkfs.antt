-- What the command `mkfs` does and says.
use Rattle.std.specs.Prelude.{◌≡◌, ◌<◌, ℕ, ◌*◌, ◌^◌, List, Some, None, IfSome, string_bytes}
use Rattle.lufs_base.specs.Layout.{blocks_of}
use Rattle.lufs_base.specs.declared.geometry.Geometry.{Geometry}
use Rattle.volume_model.specs.Texts.{mkfs_text}
use Rattle.sector_disk.specs.Continued.{CrashLeaves}
use Rattle.sector_disk.specs.Disk.{DiskTold, IsUnwritten, FailsJustAt}
use Rattle.new_volume.specs.MkfsCrash.{IsMkfsOutcome}
use Rattle.new_volume.specs.NewVolume.{HoldsNewVolume}
use Rattle.new_volume.specs.declared.make.MkfsError.{MkfsError}
use Rattle.new_volume.specs.declared.make.MkfsError.TheVariants as errors
use Rattle.host_io.specs.declared.host.HostError.{HostError}
use Rattle.host_io.specs.Outside.{Outside}
use Rattle.lufs_top.specs.declared.ending.Ending.{Ending}
use Rattle.lufs_top.specs.declared.ending.Ending.TheVariants.{DiskFault, NoMemory, Mkfs}
use Rattle.lufs_top.specs.declared.mkfs.MkfsEnding.{MkfsEnding}
use Rattle.lufs_top.specs.declared.mkfs.MkfsEnding.TheVariants.{Made, Refused}
use Rattle.lufs_top.specs.declared.numbers.BadNumber.{BadNumber}
use Rattle.lufs_top.specs.declared.numbers.GeometryWord.TheVariants.{Sectors}
use Rattle.lufs_top.specs.declared.numbers.VolumeNumbers.{VolumeNumbers}
use Rattle.lufs_top.specs.Borrowed.{IsNotMade, IsMade}
use Rattle.lufs_top.specs.Ending.{IsRefusal, IsDiskFault}
use Rattle.lufs_top.specs.Numbers.{first_out_of_range, geometry_from}

-- the number is that of the disk's sectors, which are too few, and the disk is unwritten
pub record IsTooSmall (g : Geometry) (bad : BadNumber) (before now : DiskTold) : Type 0 where
  pub word : bad.word ≡ Sectors
  pub number : bad.number ≡ before.sectors
  pub few : bad.number < 8 * blocks_of g
  pub unwritten : IsUnwritten before now

-- what came of making a volume is true of the disk before and now
abbrev pub IsMkfsOf : Geometry → (moment : ℕ) → MkfsEnding → DiskTold → DiskTold → Type 0
IsMkfsOf g moment (Made text) before now = (string_bytes text ≡ mkfs_text g) × HoldsNewVolume g moment before now
IsMkfsOf g moment (Refused bad) before now = IsTooSmall g bad before now

-- The same of an ending, for the disk of this name. Where memory ran out no write was made.
abbrev pub IsMkfsEnding : (volume : List ℕ) → Geometry → (moment : ℕ) → Ending → DiskTold → DiskTold → Type 0
IsMkfsEnding volume g moment (Mkfs ended) before now = IsMkfsOf g moment ended before now
IsMkfsEnding volume g moment (DiskFault at) before now = at.now ≡ volume
IsMkfsEnding volume g moment NoMemory before now = IsUnwritten before now
IsMkfsEnding volume g moment ending before now = ⊥

-- the ending tells of this error of the work on the disk of this name
abbrev pub IsMkfsFailure : MkfsError → (volume : List ℕ) → Ending → Type 0
IsMkfsFailure (errors.Sectors number) volume (Mkfs (Refused bad)) = (bad.word ≡ Sectors) × (bad.number ≡ number)
IsMkfsFailure errors.Disk volume (DiskFault at) = at.now ≡ volume
IsMkfsFailure errors.Mem volume NoMemory = Unit {0}
IsMkfsFailure error volume ending = ⊥

-- How `mkfs` of these numbers, under this name, ended, and what it did to the outside.
pub data MkfsRan (volume : List ℕ) (numbers : VolumeNumbers) (ending : Ending) (old new : Outside) : Type 0 where
  -- a number is out of its range, and the host was asked for nothing
  out_of_range : (bad : BadNumber) → first_out_of_range numbers ≡ Some bad → ending ≡ Mkfs (Refused bad) → new ≡ old → MkfsRan volume numbers ending old new
  -- memory ran out before the host was asked
  no_memory : first_out_of_range numbers ≡ None → ending ≡ NoMemory → new ≡ old → MkfsRan volume numbers ending old new
  -- the host gave no disk
  not_made : (error : HostError) → first_out_of_range numbers ≡ None → IsRefusal error volume ending → IsNotMade volume error old new → MkfsRan volume numbers ending old new
  -- Work on the disk began, at the host's moment. Whenever a crash comes in it, it leaves what a crash of `mkfs` may leave.
  -- The ending is a disk fault just where one of the disk's calls failed, the last one.
  worked : (moment : ℕ) → IfSome old.moment (λ told. moment ≡ told) → moment < 2 ^ 64 → first_out_of_range numbers ≡ None
      → (before now : DiskTold) → IsMade volume (8 * blocks_of (geometry_from numbers)) before now old new
      → CrashLeaves (IsMkfsOutcome (geometry_from numbers) moment) before now → FailsJustAt (IsDiskFault ending) before now
      → IsMkfsEnding volume (geometry_from numbers) moment ending before now → MkfsRan volume numbers ending old new
