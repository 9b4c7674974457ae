-- What follows for the outside from how a run went.
use Rattle.std.proofs.Common.{◌≡◌, ◌≢◌, ◌≤◌, ◌⊎◌, inl, inr, ℕ, true, false, List, [], ◌∷◌, ◌++◌, Option, Some, None, refl, sym, ◌∙◌, ap, subst, arith}
use Rattle.std.specs.Prelude.{Contains, option_map}
use Rattle.sector_disk.specs.Disk.{DiskTold}
use Rattle.host_io.specs.declared.host.AskKind.TheVariants.{TakeDisk, MakeDisk, TakeSink}
use Rattle.host_io.specs.declared.host.AskAnswer.TheVariants as answers
use Rattle.host_io.specs.declared.host.HostError.{HostError}
use Rattle.host_io.specs.declared.host.HostError.TheVariants as hosts
use Rattle.host_io.specs.Outside.{Outside, after_ask, refused_with}
use Rattle.drive_command.specs.declared.ending.DriveEnding.{DriveEnding}
use Rattle.drive_command.specs.declared.ending.DriveEnding.TheVariants as drives
use Rattle.drive_command.specs.Ending.{drive_status}
use Rattle.lufs_top.specs.declared.ending.Ending.{Ending}
use Rattle.lufs_top.specs.declared.ending.Ending.TheVariants.{Usage, Missing, DiskFault, NoMemory, Scan, Check, Mkfs, Drive}
use Rattle.lufs_top.specs.declared.scan.ScanEnding.{ScanEnding}
use Rattle.lufs_top.specs.declared.scan.ScanEnding.TheVariants.{Listed, NotVolume, BadHeader, BadRun}
use Rattle.lufs_top.specs.declared.check.CheckEnding.{CheckEnding}
use Rattle.lufs_top.specs.declared.check.CheckEnding.TheVariants as checks
use Rattle.volume_model.specs.declared.finding.Verdict.TheVariants.{Clean, Finding}
use Rattle.lufs_top.specs.declared.mkfs.MkfsEnding.{MkfsEnding}
use Rattle.lufs_top.specs.declared.mkfs.MkfsEnding.TheVariants.{Made, Refused}
use Rattle.lufs_top.specs.Words.{Command, scan, check, mkfs, drive, standard_output}
use Rattle.lufs_top.specs.Ending.{status_of, scan_status, check_status, mkfs_status, IsRefusal}
use Rattle.lufs_top.specs.Borrowed.{HasRead, not_lent, read}
use Rattle.lufs_top.specs.Mkfs.{out_of_range, no_memory, not_made, worked}
use Rattle.lufs_top.specs.Run.{Ran, Runs, no_output, ran, Says, whole, cut, status_if_cut, status_without_output, named_by, asked_by, AsksInOrder, KeepsOthers}
use Rattle.lufs_top.proofs.StatusTests.{cut_cases, IsNot, scan_quiet, check_quiet, mkfs_quiet}
use Rattle.lufs_top.proofs.OutsideFacts.{Keeps, keeps_both, keeps_to, fewer, ask_keeps, sink_keeps}
use Rattle.lufs_top.proofs.CommandKeeps.{SparesDisk, SparesSource, SparesSink, command_keeps}
use Rattle.lufs_top.proofs.AskLists.{no_asks, given_first, refused_asks}
use Rattle.lufs_top.proofs.SessionAsks.{session_asks}

-- no status is above 12
scan_low : (ended : ScanEnding) → scan_status ended ≤ 12
scan_low (Listed text) = omega arith
scan_low NotVolume = omega arith
scan_low BadHeader = omega arith
scan_low (BadRun tid place) = omega arith

check_low : (ended : CheckEnding) → check_status ended ≤ 12
check_low (checks.Checked (Clean counts)) = omega arith
check_low (checks.Checked (Finding kind number)) = omega arith
check_low checks.NotVolume = omega arith
check_low checks.BadHeader = omega arith
check_low (checks.BadRun tid place) = omega arith

mkfs_low : (ended : MkfsEnding) → mkfs_status ended ≤ 12
mkfs_low (Made text) = omega arith
mkfs_low (Refused bad) = omega arith

drive_low : (ended : DriveEnding) → drive_status ended ≤ 12
drive_low (drives.Missing name) = omega arith
drive_low (drives.ReadFault name) = omega arith
drive_low (drives.OverLimit name limit) = omega arith
drive_low (drives.DiskFault name) = omega arith
drive_low (drives.NotVolume name) = omega arith
drive_low drives.BadHeader = omega arith
drive_low (drives.EpochSpent name) = omega arith
drive_low (drives.BadLog tid place) = omega arith
drive_low (drives.Unsound kind number) = omega arith
drive_low (drives.ReplyFault name) = omega arith
drive_low drives.NoMemory = omega arith
drive_low (drives.Driven text true) = omega arith
drive_low (drives.Driven text false) = omega arith

status_low : (ending : Ending) → status_of ending ≤ 12
status_low Usage = omega arith
status_low (Missing name) = omega arith
status_low (DiskFault name) = omega arith
status_low NoMemory = omega arith
status_low (Scan volume ended) = scan_low ended
status_low (Check volume ended) = check_low ended
status_low (Mkfs ended) = mkfs_low ended
status_low (Drive ended) = drive_low ended

cut_low : (status : ℕ) → status ≤ 12 → status_if_cut status ≤ 12
cut_low status low = elim (cut_cases status) [ inl zeros ↦ let is = zeros.1 in omega (arith, is) | inr same ↦ omega (arith, same, low) ]

without_low : (error : HostError) → status_without_output error ≤ 12
without_low hosts.Missing = omega arith
without_low hosts.Failed = omega arith
without_low hosts.Mem = omega arith

low_as : (s status : ℕ) → status ≡ s → s ≤ 12 → status ≤ 12
low_as s status is low = subst (λ (n : ℕ). n ≤ 12) (sym is) low

pub run_statuses : (command : Option Command) (status : ℕ) (old new : Outside) → Runs command status old new → status ≤ 12
run_statuses command status old new (no_output error not_missing is after) = low_as (status_without_output error) status is (without_low error)
run_statuses command status old new (ran ending out said done went empty (whole is put) back) = low_as (status_of ending) status is (status_low ending)
run_statuses command status old new (ran ending out said done went empty (cut n is put) back) = low_as (status_if_cut (status_of ending)) status is (cut_low (status_of ending) (status_low ending))

-- no session ends with the status of usage
usage_drive : (ended : DriveEnding) → IsNot 1 (drive_status ended)
usage_drive (drives.Missing name) is = elim is [ inl one ↦ omega (arith, one) | inr one ↦ omega (arith, one) ]
usage_drive (drives.ReadFault name) is = elim is [ inl one ↦ omega (arith, one) | inr one ↦ omega (arith, one) ]
usage_drive (drives.OverLimit name limit) is = elim is [ inl one ↦ omega (arith, one) | inr one ↦ omega (arith, one) ]
usage_drive (drives.DiskFault name) is = elim is [ inl one ↦ omega (arith, one) | inr one ↦ omega (arith, one) ]
usage_drive (drives.NotVolume name) is = elim is [ inl one ↦ omega (arith, one) | inr one ↦ omega (arith, one) ]
usage_drive drives.BadHeader is = elim is [ inl one ↦ omega (arith, one) | inr one ↦ omega (arith, one) ]
usage_drive (drives.EpochSpent name) is = elim is [ inl one ↦ omega (arith, one) | inr one ↦ omega (arith, one) ]
usage_drive (drives.BadLog tid place) is = elim is [ inl one ↦ omega (arith, one) | inr one ↦ omega (arith, one) ]
usage_drive (drives.Unsound kind number) is = elim is [ inl one ↦ omega (arith, one) | inr one ↦ omega (arith, one) ]
usage_drive (drives.ReplyFault name) is = elim is [ inl one ↦ omega (arith, one) | inr one ↦ omega (arith, one) ]
usage_drive drives.NoMemory is = elim is [ inl one ↦ omega (arith, one) | inr one ↦ omega (arith, one) ]
usage_drive (drives.Driven text true) is = elim is [ inl one ↦ omega (arith, one) | inr one ↦ omega (arith, one) ]
usage_drive (drives.Driven text false) is = elim is [ inl one ↦ omega (arith, one) | inr one ↦ omega (arith, one) ]

-- the ending of a status 1
only_usage : (ending : Ending) → (status_of ending ≡ 1) ⊎ (status_if_cut (status_of ending) ≡ 1) → ending ≡ Usage
only_usage Usage is = refl
only_usage (Missing name) is = absurd (elim is [ inl one ↦ omega (arith, one) | inr one ↦ omega (arith, one) ])
only_usage (DiskFault name) is = absurd (elim is [ inl one ↦ omega (arith, one) | inr one ↦ omega (arith, one) ])
only_usage NoMemory is = absurd (elim is [ inl one ↦ omega (arith, one) | inr one ↦ omega (arith, one) ])
only_usage (Scan volume ended) is = absurd (scan_quiet ended 1 (omega arith) (omega arith) is)
only_usage (Check volume ended) is = absurd (check_quiet ended 1 (omega arith) (omega arith) is)
only_usage (Mkfs ended) is = absurd (mkfs_quiet ended 1 (omega arith) (omega arith) is)
only_usage (Drive ended) is = absurd (usage_drive ended is)

refused_not_usage : (error : HostError) (name : List ℕ) → IsRefusal error name Usage → ⊥
refused_not_usage hosts.Missing name is = is
refused_not_usage hosts.Failed name is = is
refused_not_usage hosts.Mem name is = is

usage_is_no_command : (command : Option Command) (old new : Outside) → Ran command Usage old new → command ≡ None
usage_is_no_command None old new went = refl
usage_is_no_command (Some (scan volume)) old new (not_lent error is lent) = absurd (refused_not_usage error volume is)
usage_is_no_command (Some (scan volume)) old new (read before now lent unwritten fails is) = absurd is
usage_is_no_command (Some (check volume)) old new (not_lent error is lent) = absurd (refused_not_usage error volume is)
usage_is_no_command (Some (check volume)) old new (read before now lent unwritten fails is) = absurd is
usage_is_no_command (Some (mkfs volume numbers)) old new (out_of_range bad range is same) = absurd (cc (is))
usage_is_no_command (Some (mkfs volume numbers)) old new (no_memory range is same) = absurd (cc (is))
usage_is_no_command (Some (mkfs volume numbers)) old new (not_made error range is made) = absurd (refused_not_usage error volume is)
usage_is_no_command (Some (mkfs volume numbers)) old new (worked moment told small range before now made crash fails is) = absurd is
usage_is_no_command (Some (drive volume schedule script)) old new went = absurd went

without_not_1 : (error : HostError) → status_without_output error ≡ 1 → ⊥
without_not_1 hosts.Missing is = omega (arith, is)
without_not_1 hosts.Failed is = omega (arith, is)
without_not_1 hosts.Mem is = omega (arith, is)

pub run_usage : (command : Option Command) (status : ℕ) (old new : Outside) → Runs command status old new → status ≡ 1 → command ≡ None
run_usage command status old new (no_output error not_missing is after) one = absurd (without_not_1 error (sym is ∙ one))
run_usage command status old new (ran ending out said done went empty (whole is put) back) one =
    usage_is_no_command command _ _ (subst (λ (e : Ending). Ran command e (after_ask TakeSink standard_output (Some answers.Given) old) done) (only_usage ending (inl (sym is ∙ one))) went)
run_usage command status old new (ran ending out said done went empty (cut n is put) back) one =
    usage_is_no_command command _ _ (subst (λ (e : Ending). Ran command e (after_ask TakeSink standard_output (Some answers.Given) old) done) (only_usage ending (inr (sym is ∙ one))) went)

without_usage : (error : HostError) → Contains (1 ∷ 5 ∷ 12 ∷ []) (status_without_output error)
without_usage hosts.Missing = (1, omega arith, refl)
without_usage hosts.Failed = (1, omega arith, refl)
without_usage hosts.Mem = (2, omega arith, refl)

pub run_no_command : (status : ℕ) (old new : Outside) → Runs None status old new → Contains (1 ∷ 5 ∷ 12 ∷ []) status
run_no_command status old new (no_output error not_missing is after) = subst (λ (n : ℕ). Contains (1 ∷ 5 ∷ 12 ∷ []) n) (sym is) (without_usage error)
run_no_command status old new (ran ending out said done went empty (whole is put) back) =
    subst (λ (n : ℕ). Contains (1 ∷ 5 ∷ 12 ∷ []) n) (sym (is ∙ ap status_of went.0)) (0, omega arith, refl)
run_no_command status old new (ran ending out said done went empty (cut n is put) back) =
    subst (λ (n : ℕ). Contains (1 ∷ 5 ∷ 12 ∷ []) n) (sym (is ∙ ap (λ (e : Ending). status_if_cut (status_of e)) went.0)) (0, omega arith, refl)

asks_of : (old new : Outside) → new ≡ old → new.asks ≡ old.asks
asks_of old new same = ap (λ (o : Outside). o.asks) same

reading_asks : (volume : List ℕ) (IsEnding : DiskTold → Ending → Type 0) (ending : Ending) (old new : Outside) → HasRead volume IsEnding ending old new → AsksInOrder ((TakeDisk, volume) ∷ []) old new
reading_asks volume IsEnding ending old new (not_lent error is lent) = refused_asks TakeDisk volume [] error old new (asks_of _ new lent.after)
reading_asks volume IsEnding ending old new (read before now lent unwritten fails is) =
    given_first TakeDisk volume [] old _ new refl (no_asks [] (after_ask TakeDisk volume (Some answers.Given) old) new (asks_of _ new lent.back))

command_asks : (command : Option Command) (ending : Ending) (old new : Outside) → Ran command ending old new → AsksInOrder (asked_by command) old new
command_asks None ending old new went = no_asks [] old new (asks_of old new went.1)
command_asks (Some (scan volume)) ending old new went = reading_asks volume _ ending old new went
command_asks (Some (check volume)) ending old new went = reading_asks volume _ ending old new went
command_asks (Some (mkfs volume numbers)) ending old new (out_of_range bad range is same) = no_asks _ old new (asks_of old new same)
command_asks (Some (mkfs volume numbers)) ending old new (no_memory range is same) = no_asks _ old new (asks_of old new same)
command_asks (Some (mkfs volume numbers)) ending old new (not_made error range is made) = refused_asks MakeDisk volume [] error old new (asks_of _ new made.after)
command_asks (Some (mkfs volume numbers)) ending old new (worked moment told small range before now made crash fails is) =
    given_first MakeDisk volume [] old _ new refl (no_asks [] (after_ask MakeDisk volume (Some answers.Given) old) new (asks_of _ new made.back))
command_asks (Some (drive volume schedule script)) (Drive ended) old new went = session_asks volume schedule script ended old new went
command_asks (Some (drive volume schedule script)) ending old new went = absurd went

pub run_asks : (command : Option Command) (status : ℕ) (old new : Outside) → Runs command status old new → AsksInOrder ((TakeSink, standard_output) ∷ asked_by command) old new
run_asks command status old new (no_output error not_missing is after) = refused_asks TakeSink standard_output _ error old new (asks_of _ new after)
run_asks command status old new (ran ending out said done went empty says back) =
    let lent = after_ask TakeSink standard_output (Some answers.Given) old in
    let more = command_asks command ending lent done went in
    given_first TakeSink standard_output _ old lent new refl (more.0, more.1, asks_of _ new back ∙ more.2)

not_output : (command : Option Command) (q : List ℕ) → ¬ Contains (named_by command).sinks q → q ≢ standard_output
not_output None q other same = other (0, omega arith, sym same)
not_output (Some (scan volume)) q other same = other (0, omega arith, sym same)
not_output (Some (check volume)) q other same = other (0, omega arith, sym same)
not_output (Some (mkfs volume numbers)) q other same = other (0, omega arith, sym same)
not_output (Some (drive volume schedule script)) q other same = other (0, omega arith, sym same)

not_own_sink : (command : Option Command) (q : List ℕ) → ¬ Contains (named_by command).sinks q → SparesSink command q
not_own_sink None q other = tt
not_own_sink (Some (scan volume)) q other = tt
not_own_sink (Some (check volume)) q other = tt
not_own_sink (Some (mkfs volume numbers)) q other = tt
not_own_sink (Some (drive volume schedule script)) q other = (λ same. other (1, omega arith, sym same), λ same. other (2, omega arith, sym same))

pub run_keeps : (command : Option Command) (status : ℕ) (old new : Outside) → Runs command status old new
    → Keeps (SparesDisk command) (SparesSource command) (λ q. ¬ Contains (named_by command).sinks q) old new
run_keeps command status old new (no_output error not_missing is after) = keeps_to old _ new after (ask_keeps TakeSink standard_output (refused_with error) old (not_output command))
run_keeps command status old new (ran ending out said done went empty says back) =
    let lent = after_ask TakeSink standard_output (Some answers.Given) old in
    keeps_both (ask_keeps TakeSink standard_output (Some answers.Given) old (not_output command))
    (keeps_both (fewer _ _ _ (λ q is. is) (λ q is. is) (not_own_sink command) (command_keeps command ending lent done went))
    (keeps_to done _ new back (sink_keeps standard_output said done (not_output command))))

pub run_others : (command : Option Command) (status : ℕ) (old new : Outside) → Runs command status old new → KeepsOthers (named_by command) old new
run_others command status old new r =
    let keeps = run_keeps command status old new r in
    record { moment = keeps.moment; tells = keeps.tells; disks = keeps.disks; sources = keeps.sources; sinks = keeps.sinks; faults = keeps.faults; absent = keeps.absent }
