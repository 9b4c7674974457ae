-- A call of a disk that went, and then one that may have failed.
use Rattle.std.proofs.Common.{◌≡◌, ◌≤◌, ap, ◌∙◌, arith}
use Rattle.sector_disk.specs.Disk.{DiskTold, failed_again, FailsJustAt}

pub fails_then : {D E : Type 0} {old middle new : DiskTold} → (E → ⊥) → FailsJustAt E old middle → FailsJustAt D middle new → FailsJustAt D old new
fails_then ok first second =
    let went = first.none ok in
    record {
      failed = λ is. (
          let last = second.failed is in
          record { failures = last.failures ∙ ap failed_again went.failures; failed_at = last.failed_at; faults = omega (arith, last.faults, went.faults) }
          );
      none = λ is. (
          let rest = second.none is in
          record { failures = rest.failures ∙ went.failures; failed_at = rest.failed_at ∙ went.failed_at; faults = omega (arith, rest.faults, went.faults) }
          );
    }
