use Rattle.std.proofs.Common.{◌≡◌, slice_index_or, true, false, Some, None, refl, sym, ap, ◌∙◌, arith}
use Rattle.fsck_core.specs.StepsUp.{is_directory_record}
use Rattle.fsck_core.proofs.PlacedDirectories.{record_at_place}
use Rattle.fsck_core.proofs.CheckSteps.{root_by_records}
use Rattle.fsck_core.proofs.verdict.first_bad_root.Goals as goal

pub returns-in-Some : goal.returns-in-Some
returns-in-Some c = λ g blocks so size.
    let inodes = c.args.inodes.now in
    let at = c.in-Some.ensures.lookup.4 (omega arith) None in
    root_by_records g blocks inodes true None so size
    (ap is_directory_record (record_at_place inodes 2 ∙ sym at) ∙ sym c.is_directory_record.ensures ∙ c.if-is_directory_record.true) refl

pub returns-in_default : goal.returns-in_default
returns-in_default c = λ g blocks so size.
    let inodes = c.args.inodes.now in
    let at = c.in-Some.ensures.lookup.4 (omega arith) None in
    root_by_records g blocks inodes false (Some 2) so size
    (ap is_directory_record (record_at_place inodes 2 ∙ sym at) ∙ sym c.is_directory_record.ensures ∙ c.if-is_directory_record.false) refl

pub returns-in_default-2 : goal.returns-in_default-2
returns-in_default-2 c = λ g blocks so size.
    let inodes = c.args.inodes.now in
    let none = c.in_default.is in
    let at = c.get.ensures.lookup.4 (omega arith) None in
    root_by_records g blocks inodes false (Some 2) so size
    (ap is_directory_record (record_at_place inodes 2 ∙ (let e : slice_index_or inodes 2 None ≡ None = grind (arith, at, none) in e))) refl
