-- How a command borrows a disk, step by step.
use Rattle.std.proofs.Common.{◌≡◌, ℕ, List, Option, Some, ◌∙◌, ap, subst}
use Rattle.std.specs.Prelude.{IsSome}
use Rattle.sector_disk.specs.Disk.{DiskTold, FailsJustAt}
use Rattle.host_io.specs.declared.host.AskKind.TheVariants.{TakeDisk, MakeDisk}
use Rattle.host_io.specs.declared.host.AskAnswer.TheVariants.{Given}
use Rattle.host_io.specs.Outside.{Outside, disk_of, after_ask, with_disk, StartsAs}
use Rattle.lufs_top.specs.Borrowed.{IsLent, IsMade}

pub lent_and_back : (name : List ℕ) (before now : DiskTold) (old lent new : Outside) → (IsSome old.holds → disk_of old name ≡ Some before)
    → lent ≡ after_ask TakeDisk name (Some Given) old → new ≡ with_disk name now lent → IsLent name before now old new
lent_and_back name before now old lent new given taken back = record { given = given; back = back ∙ ap (with_disk name now) taken }

pub made_and_back : (name : List ℕ) (sectors : ℕ) (before now : DiskTold) (old asked made new : Outside) → asked ≡ old
    → (IsSome asked.holds → StartsAs (disk_of asked name) sectors before)
    → made ≡ after_ask MakeDisk name (Some Given) asked → new ≡ with_disk name now made → IsMade name sectors before now old new
made_and_back name sectors before now old asked made new same given taken back = record {
  given = subst (λ (o : Outside). IsSome o.holds → StartsAs (disk_of o name) sectors before) same given;
  back = back ∙ ap (with_disk name now) (taken ∙ ap (after_ask MakeDisk name (Some Given)) same);
}

-- no call failed, whatever a failure is called
pub none_fails : {P Q : Type 0} {old new : DiskTold} → FailsJustAt P old new → ¬ P → ¬ Q → FailsJustAt Q old new
none_fails fails p q = record { failed = λ is. absurd (q is); none = λ _. fails.none p }

-- the last call failed, whatever a failure is called
pub last_fails : {P Q : Type 0} {old new : DiskTold} → FailsJustAt P old new → P → Q → FailsJustAt Q old new
last_fails fails p q = record { failed = λ _. fails.failed p; none = λ is. absurd (is q) }
