-- How a scan that stopped ends.
use Rattle.std.proofs.Common.{ℕ, List, Err, refl}
use Rattle.std.specs.Prelude.{IsErrOf}
use Rattle.sector_disk.specs.Disk.{DiskTold, FailsJustAt}
use Rattle.lufs_top.specs.declared.scan.ScanEnding.{ScanEnding}
use Rattle.lufs_top.specs.declared.scan.Stop.{Stop}
use Rattle.lufs_top.specs.declared.scan.Stop.TheVariants as stops
use Rattle.lufs_top.specs.declared.ending.Ending.{Ending}
use Rattle.lufs_top.specs.declared.ending.Ending.TheVariants.{DiskFault, NoMemory}
use Rattle.lufs_top.specs.Ending.{IsDiskFault}
use Rattle.lufs_top.specs.Scan.{IsStopped, IsScanEnding}
use Rattle.lufs_top.proofs.CommandSteps.{none_fails, last_fails}

pub scan_stopped : (stop : Stop) (volume : List ℕ) (ending : Ending) (before now : DiskTold) → IsStopped stop volume ending
    → FailsJustAt (IsErrOf {T = ScanEnding} (Err stop) stops.DiskFault) before now → FailsJustAt (IsDiskFault ending) before now × IsScanEnding volume before ending
scan_stopped stops.DiskFault volume (DiskFault at) before now is fails = (last_fails fails refl tt, is)
scan_stopped stops.NoMemory volume NoMemory before now is fails = (none_fails fails (λ p. cc) (λ q. q), tt)
scan_stopped stop volume ending before now is fails = absurd is
