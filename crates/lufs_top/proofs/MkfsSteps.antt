-- How `mkfs` works on a disk that its host lends or makes.
use Rattle.std.proofs.Common.{◌≡◌, ◌<◌, ℕ, ◌*◌, ◌^◌, List, Some, None, ◌⊎◌, inl, inr, refl, ◌∙◌, subst}
use Rattle.std.specs.Prelude.{Err, IsSome, IfSome, IsErrOf}
use Rattle.lufs_base.specs.Layout.{blocks_of}
use Rattle.lufs_base.specs.declared.geometry.Geometry.{Geometry}
use Rattle.sector_disk.specs.Continued.{CrashLeaves}
use Rattle.sector_disk.specs.Disk.{DiskTold, IsUnwritten, FailsJustAt}
use Rattle.new_volume.specs.MkfsCrash.{IsMkfsOutcome}
use Rattle.host_io.specs.declared.host.AskKind.TheVariants.{MakeDisk}
use Rattle.host_io.specs.declared.host.AskAnswer.TheVariants.{Given}
use Rattle.host_io.specs.Outside.{Outside, disk_of, after_ask, with_disk, StartsAs}
use Rattle.new_volume.specs.declared.make.MkfsError.{MkfsError}
use Rattle.new_volume.specs.declared.make.MkfsError.TheVariants as errors
use Rattle.lufs_top.specs.declared.ending.Ending.{Ending}
use Rattle.lufs_top.specs.declared.ending.Ending.TheVariants.{DiskFault, NoMemory, Mkfs}
use Rattle.lufs_top.specs.declared.mkfs.MkfsEnding.TheVariants.{Refused}
use Rattle.lufs_top.specs.declared.numbers.VolumeNumbers.{VolumeNumbers}
use Rattle.lufs_top.specs.Borrowed.{IsMade}
use Rattle.lufs_top.specs.Ending.{IsDiskFault}
use Rattle.lufs_top.specs.Mkfs.{MkfsRan, worked, IsMkfsEnding, IsMkfsFailure}
use Rattle.lufs_top.specs.Numbers.{first_out_of_range, geometry_from}
use Rattle.lufs_top.proofs.CommandSteps.{made_and_back, none_fails, last_fails}

not_disk : (error : MkfsError) (P : Type 0) → ¬ (error ≡ errors.Disk) → (error ≡ errors.Disk) ⊎ P → P
not_disk error P other (inl is) = absurd (other is)
not_disk error P other (inr p) = p

-- the geometry that the code has is that of the numbers, and the host told its moment before it was asked
pub mkfs_worked : (volume : List ℕ) (numbers : VolumeNumbers) (ending : Ending) (g : Geometry) (moment : ℕ) (before now : DiskTold) (old asked made new : Outside)
    → g ≡ geometry_from numbers → first_out_of_range numbers ≡ None → IfSome old.moment (λ told. moment ≡ told) → moment < 2 ^ 64 → asked ≡ old
    → (sectors : ℕ) → (IsSome asked.holds → StartsAs (disk_of asked volume) sectors before) → sectors ≡ 8 * blocks_of g → made ≡ after_ask MakeDisk volume (Some Given) asked → new ≡ with_disk volume now made
    → CrashLeaves (IsMkfsOutcome g moment) before now → FailsJustAt (IsDiskFault ending) before now → IsMkfsEnding volume g moment ending before now
    → MkfsRan volume numbers ending old new
mkfs_worked volume numbers ending g moment before now old asked made new geometry range told small same sectors given count taken back crash fails is =
    worked moment told small range before now
    (subst (λ (k : Geometry). IsMade volume (8 * blocks_of k) before now old new) geometry (made_and_back volume (8 * blocks_of g) before now old asked made new same (subst (λ (n : ℕ). IsSome asked.holds → StartsAs (disk_of asked volume) n before) count given) taken back))
    (subst (λ (k : Geometry). CrashLeaves (IsMkfsOutcome k moment) before now) geometry crash) fails
    (subst (λ (k : Geometry). IsMkfsEnding volume k moment ending before now) geometry is)

-- what a failure of the work on a disk says of it
pub mkfs_failed : (error : MkfsError) (volume : List ℕ) (ending : Ending) (g : Geometry) (moment : ℕ) (before now : DiskTold) → IsMkfsFailure error volume ending
    → ((n : ℕ) → error ≡ errors.Sectors n → (n ≡ before.sectors) × (n < 8 * blocks_of g)) → (error ≡ errors.Disk) ⊎ IsUnwritten before now
    → FailsJustAt (IsErrOf {T = Unit {0}} (Err error) errors.Disk) before now → FailsJustAt (IsDiskFault ending) before now × IsMkfsEnding volume g moment ending before now
mkfs_failed (errors.Sectors n) volume (Mkfs (Refused bad)) g moment before now is small unwritten fails =
    let few = small n refl in
    (none_fails fails (λ p. cc) (λ q. q), record { word = is.0; number = is.1 ∙ few.0; few = rw is.1 few.1; unwritten = not_disk (errors.Sectors n) _ (λ p. cc) unwritten })
mkfs_failed errors.Disk volume (DiskFault at) g moment before now is small unwritten fails = (last_fails fails refl tt, is)
mkfs_failed errors.Mem volume NoMemory g moment before now is small unwritten fails = (none_fails fails (λ p. cc) (λ q. q), not_disk errors.Mem _ (λ p. cc) unwritten)
mkfs_failed error volume ending g moment before now is small unwritten fails = absurd is
