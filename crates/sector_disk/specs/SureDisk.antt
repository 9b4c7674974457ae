-- A disk in memory that never fails, as its calls see it.
use Rattle.std.specs.Prelude.{ℕ, Some, None}
use Rattle.volume_model.specs.Format.{Image, sectors_of}
use Rattle.sector_disk.specs.Disk.{DiskTold}

pub record State : Type 0 where
  pub image : Image
  -- the writes and flushes so far
  pub calls : ℕ

-- what it tells as a disk
abbrev pub told_of : State → DiskTold
told_of s = record {
  sectors = sectors_of s.image;
  present = Some s.image;
  listed = None;
  calls = s.calls;
  failures = 0;
  failed_at = 0;
  faults = 0;
}
