-- How a command borrows a disk from its host.
use Rattle.std.specs.Prelude.{◌≡◌, ◌≢◌, ℕ, List, Some, None, IsSome}
use Rattle.sector_disk.specs.Disk.{DiskTold, IsUnwritten, FailsJustAt}
use Rattle.host_io.specs.declared.host.HostError.{HostError}
use Rattle.host_io.specs.declared.host.HostError.TheVariants.{Missing}
use Rattle.host_io.specs.declared.host.AskKind.TheVariants.{TakeDisk, MakeDisk}
use Rattle.host_io.specs.declared.host.AskAnswer.TheVariants.{Given}
use Rattle.host_io.specs.Outside.{Outside, disk_of, refused_with, after_ask, with_disk, StartsAs}
use Rattle.lufs_top.specs.declared.ending.Ending.{Ending}
use Rattle.lufs_top.specs.Ending.{IsRefusal, IsDiskFault}

-- the host was asked to lend the disk of this name, and gave none: it is missing only where there is none
pub record IsNotLent (name : List ℕ) (error : HostError) (old new : Outside) : Type 0 where
  pub none : error ≡ Missing → disk_of old name ≡ None
  pub after : new ≡ after_ask TakeDisk name (refused_with error) old

-- The disk of this name was lent, and is back: what it told when it was lent, and tells now.
pub record IsLent (name : List ℕ) (before now : DiskTold) (old new : Outside) : Type 0 where
  pub given : IsSome old.holds → disk_of old name ≡ Some before
  pub back : new ≡ with_disk name now (after_ask TakeDisk name (Some Given) old)

-- How a command that reads the disk of this name ended, and what it did to the outside. What an ending says of the disk
-- as it was lent is `IsEnding`.
pub data HasRead (name : List ℕ) (IsEnding : DiskTold → Ending → Type 0) (ending : Ending) (old new : Outside) : Type 0 where
  -- the host gave no disk
  not_lent : (error : HostError) → IsRefusal error name ending → IsNotLent name error old new → HasRead name IsEnding ending old new
  -- the disk was lent, read and not written; the ending is a disk fault just where one of its calls failed, the last one
  read : (before now : DiskTold) → IsLent name before now old new → IsUnwritten before now → FailsJustAt (IsDiskFault ending) before now
      → IsEnding before ending → HasRead name IsEnding ending old new

-- the host was asked to make the disk of this name, and gave none
pub record IsNotMade (name : List ℕ) (error : HostError) (old new : Outside) : Type 0 where
  pub not_missing : error ≢ Missing
  pub after : new ≡ after_ask MakeDisk name (refused_with error) old

-- The disk of this name was lent, or one of so many sectors of zeros where there was none, and is back.
pub record IsMade (name : List ℕ) (sectors : ℕ) (before now : DiskTold) (old new : Outside) : Type 0 where
  pub given : IsSome old.holds → StartsAs (disk_of old name) sectors before
  pub back : new ≡ with_disk name now (after_ask MakeDisk name (Some Given) old)
