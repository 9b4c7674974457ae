-- What a run gives back, and the cause of each failure that its status tells.
use Rattle.std.proofs.Common.{◌≡◌, ◌≢◌, ◌<◌, ◌⊎◌, inl, inr, ℕ, List, [], ◌∷◌, Option, Some, None, refl, sym, ◌∙◌, ap, subst, arith}
use Rattle.std.specs.Prelude.{IsSome, IsSomeAnd, is_some, Any}
use Rattle.lufs_base.specs.Causes.{Rose}
use Rattle.sector_disk.specs.Disk.{DiskTold, IsZeroDisk}
use Rattle.host_io.specs.declared.host.AskKind.TheVariants.{TakeDisk, MakeDisk, TakeSink}
use Rattle.host_io.specs.declared.host.AskAnswer.TheVariants as answers
use Rattle.host_io.specs.declared.host.HostError.{HostError}
use Rattle.host_io.specs.declared.host.HostError.TheVariants as hosts
use Rattle.host_io.specs.Outside.{Outside, Holdings, SinkTold, disk_of, sink_of, after_ask, refused_with, StartsAs}
use Rattle.drive_command.specs.declared.ending.DriveEnding.{DriveEnding}
use Rattle.drive_command.specs.Ending.{history_name, out_name, drive_status}
use Rattle.lufs_top.specs.declared.ending.Ending.{Ending}
use Rattle.lufs_top.specs.declared.ending.Ending.TheVariants.{Usage, Missing, DiskFault, NoMemory, Scan, Check, Mkfs, Drive}
use Rattle.lufs_top.specs.Words.{Command, scan, check, mkfs, drive, standard_output}
use Rattle.lufs_top.specs.declared.numbers.VolumeNumbers.{VolumeNumbers}
use Rattle.lufs_top.specs.Ending.{status_of, IsRefusal, IsDiskFault}
use Rattle.lufs_base.specs.declared.geometry.Geometry.{Geometry}
use Rattle.lufs_top.specs.Borrowed.{HasRead, not_lent, read}
use Rattle.lufs_top.specs.Scan.{IsScanEnding}
use Rattle.lufs_top.specs.Check.{IsCheckEnding}
use Rattle.lufs_top.specs.Mkfs.{out_of_range, no_memory, not_made, worked, IsMkfsEnding}
use Rattle.lufs_top.specs.Run.{Ran, Runs, no_output, ran, Says, whole, cut, status_if_cut, status_without_output, named_by, DiskFaultRose, IsSourceGone, MetFault, HasCauses, source_place}
use Rattle.lufs_top.proofs.StatusTests.{of_status, cut_is, scan_quiet, check_quiet, mkfs_quiet, scan_not_5, check_not_5, mkfs_not_5}
use Rattle.lufs_top.proofs.RunClauses.{run_keeps}
use Rattle.lufs_top.proofs.OutsideFacts.{Keeps, keeps_both, keeps_to, ask_keeps, disk_keeps, sink_keeps, sink_there, disk_there, same_disk, same_sink, same_source}
use Rattle.lufs_top.proofs.CommandKeeps.{reading_keeps, command_keeps}
use Rattle.lufs_top.proofs.NameTests.{no_history_is_output, no_replies_are_output}
use Rattle.lufs_top.proofs.SessionCauses.{TellsMissing, TellsReadFault, TellsDisk, TellsReply, missing_ending, read_ending, disk_ending, reply_ending, session_missing, session_read_fault, session_disk_fault, session_reply_fault, SinkFaults}

abbrev All : List ℕ → Type 0
All q = Unit {0}

abbrev IsMissing : Ending → Type 0
IsMissing (Missing name) = Unit {0}
IsMissing (Drive ended) = TellsMissing ended
IsMissing ending = ⊥

abbrev IsReadFault : Ending → Type 0
IsReadFault (Drive ended) = TellsReadFault ended
IsReadFault ending = ⊥

-- a fault of the disk, of any command
abbrev IsAnyDiskFault : Ending → Type 0
IsAnyDiskFault (DiskFault name) = Unit {0}
IsAnyDiskFault (Drive ended) = TellsDisk ended
IsAnyDiskFault ending = ⊥

abbrev IsReplyFault : Ending → Type 0
IsReplyFault (Drive ended) = TellsReply ended
IsReplyFault ending = ⊥

-- which ending a status comes from
only_missing : (ending : Ending) → (status_of ending ≡ 2) ⊎ (status_if_cut (status_of ending) ≡ 2) → IsMissing ending
only_missing Usage is = absurd (elim is [ inl one ↦ omega (arith, one) | inr one ↦ omega (arith, one) ])
only_missing (Missing name) is = tt
only_missing (DiskFault name) is = absurd (elim is [ inl one ↦ omega (arith, one) | inr one ↦ omega (arith, one) ])
only_missing NoMemory is = absurd (elim is [ inl one ↦ omega (arith, one) | inr one ↦ omega (arith, one) ])
only_missing (Scan volume ended) is = absurd (scan_quiet ended 2 (omega arith) (omega arith) is)
only_missing (Check volume ended) is = absurd (check_quiet ended 2 (omega arith) (omega arith) is)
only_missing (Mkfs ended) is = absurd (mkfs_quiet ended 2 (omega arith) (omega arith) is)
only_missing (Drive ended) is = missing_ending ended (elim is [ inl one ↦ one | inr one ↦ cut_is (drive_status ended) 2 (omega arith) one ])

only_read_fault : (ending : Ending) → (status_of ending ≡ 3) ⊎ (status_if_cut (status_of ending) ≡ 3) → IsReadFault ending
only_read_fault Usage is = absurd (elim is [ inl one ↦ omega (arith, one) | inr one ↦ omega (arith, one) ])
only_read_fault (Missing name) is = absurd (elim is [ inl one ↦ omega (arith, one) | inr one ↦ omega (arith, one) ])
only_read_fault (DiskFault name) is = absurd (elim is [ inl one ↦ omega (arith, one) | inr one ↦ omega (arith, one) ])
only_read_fault NoMemory is = absurd (elim is [ inl one ↦ omega (arith, one) | inr one ↦ omega (arith, one) ])
only_read_fault (Scan volume ended) is = absurd (scan_quiet ended 3 (omega arith) (omega arith) is)
only_read_fault (Check volume ended) is = absurd (check_quiet ended 3 (omega arith) (omega arith) is)
only_read_fault (Mkfs ended) is = absurd (mkfs_quiet ended 3 (omega arith) (omega arith) is)
only_read_fault (Drive ended) is = read_ending ended (elim is [ inl one ↦ one | inr one ↦ cut_is (drive_status ended) 3 (omega arith) one ])

only_fault : (ending : Ending) → (status_of ending ≡ 4) ⊎ (status_if_cut (status_of ending) ≡ 4) → IsAnyDiskFault ending
only_fault Usage is = absurd (elim is [ inl one ↦ omega (arith, one) | inr one ↦ omega (arith, one) ])
only_fault (Missing name) is = absurd (elim is [ inl one ↦ omega (arith, one) | inr one ↦ omega (arith, one) ])
only_fault (DiskFault name) is = tt
only_fault NoMemory is = absurd (elim is [ inl one ↦ omega (arith, one) | inr one ↦ omega (arith, one) ])
only_fault (Scan volume ended) is = absurd (scan_quiet ended 4 (omega arith) (omega arith) is)
only_fault (Check volume ended) is = absurd (check_quiet ended 4 (omega arith) (omega arith) is)
only_fault (Mkfs ended) is = absurd (mkfs_quiet ended 4 (omega arith) (omega arith) is)
only_fault (Drive ended) is = disk_ending ended (elim is [ inl one ↦ one | inr one ↦ cut_is (drive_status ended) 4 (omega arith) one ])

only_reply_fault : (ending : Ending) → status_of ending ≡ 5 → IsReplyFault ending
only_reply_fault Usage one = absurd (omega (arith, one))
only_reply_fault (Missing name) one = absurd (omega (arith, one))
only_reply_fault (DiskFault name) one = absurd (omega (arith, one))
only_reply_fault NoMemory one = absurd (omega (arith, one))
only_reply_fault (Scan volume ended) one = absurd (scan_not_5 ended one)
only_reply_fault (Check volume ended) one = absurd (check_not_5 ended one)
only_reply_fault (Mkfs ended) one = absurd (mkfs_not_5 ended one)
only_reply_fault (Drive ended) one = reply_ending ended one

no_drive_refusal : (error : HostError) (name : List ℕ) (ended : DriveEnding) → IsRefusal error name (Drive ended) → ⊥
no_drive_refusal hosts.Missing name ended is = is
no_drive_refusal hosts.Failed name ended is = is
no_drive_refusal hosts.Mem name ended is = is

-- an ask that missed its disk was counted, and one that failed
missing_counted : (error : HostError) (name : List ℕ) (ending : Ending) (old new : Outside) → IsRefusal error name ending → IsMissing ending → new ≡ after_ask TakeDisk name (refused_with error) old → Rose old.absent new.absent
missing_counted hosts.Missing name (Missing at) old new is missing after = let absent = ap (λ (o : Outside). o.absent) after in omega (arith, absent)
missing_counted hosts.Failed name (Missing at) old new is missing after = absurd is
missing_counted hosts.Mem name (Missing at) old new is missing after = absurd is
missing_counted error name (Drive ended) old new is missing after = absurd (no_drive_refusal error name ended is)
missing_counted error name ending old new is missing after = absurd missing

failure_counted : (error : HostError) (name : List ℕ) (ending : Ending) (old : Outside) → IsRefusal error name ending → IsDiskFault ending → (faults : ℕ) → faults ≡ (after_ask TakeDisk name (refused_with error) old).faults → Rose old.faults faults
failure_counted hosts.Failed name (DiskFault at) old is fault faults after = omega (arith, after)
failure_counted hosts.Missing name (DiskFault at) old is fault faults after = absurd is
failure_counted hosts.Mem name (DiskFault at) old is fault faults after = absurd is
failure_counted error name ending old is fault faults after = absurd fault

missing_not_made : (error : HostError) (name : List ℕ) (ending : Ending) → error ≢ hosts.Missing → IsRefusal error name ending → IsMissing ending → ⊥
missing_not_made hosts.Missing name (Missing at) other is missing = other refl
missing_not_made hosts.Failed name (Missing at) other is missing = is
missing_not_made hosts.Mem name (Missing at) other is missing = is
missing_not_made error name (Drive ended) other is missing = no_drive_refusal error name ended is
missing_not_made error name ending other is missing = missing

no_scan_misses : (ending : Ending) (volume : List ℕ) (told : DiskTold) → IsScanEnding volume told ending → IsMissing ending → ⊥
no_scan_misses (Missing at) volume told is missing = is
no_scan_misses (Drive ended) volume told is missing = is
no_scan_misses ending volume told is missing = missing

no_check_misses : (ending : Ending) (volume : List ℕ) (told : DiskTold) → IsCheckEnding volume told ending → IsMissing ending → ⊥
no_check_misses (Missing at) volume told is missing = is
no_check_misses (Drive ended) volume told is missing = is
no_check_misses ending volume told is missing = missing

no_work_misses : (ending : Ending) (volume : List ℕ) (g : Geometry) (moment : ℕ) (before now : DiskTold) → IsMkfsEnding volume g moment ending before now → IsMissing ending → ⊥
no_work_misses (Missing at) volume g moment before now is missing = is
no_work_misses (Drive ended) volume g moment before now is missing = is
no_work_misses ending volume g moment before now is missing = missing

command_missing : (command : Option Command) (ending : Ending) (old new : Outside) → Ran command ending old new → IsMissing ending → Rose old.absent new.absent
command_missing None ending old new went missing = absurd (subst IsMissing went.0 missing)
command_missing (Some (scan volume)) ending old new (not_lent error is lent) missing = missing_counted error volume ending old new is missing lent.after
command_missing (Some (scan volume)) ending old new (read before now lent unwritten fails is) missing = absurd (no_scan_misses ending volume before is missing)
command_missing (Some (check volume)) ending old new (not_lent error is lent) missing = missing_counted error volume ending old new is missing lent.after
command_missing (Some (check volume)) ending old new (read before now lent unwritten fails is) missing = absurd (no_check_misses ending volume before is missing)
command_missing (Some (mkfs volume numbers)) ending old new (out_of_range bad range is same) missing = absurd (subst IsMissing is missing)
command_missing (Some (mkfs volume numbers)) ending old new (no_memory range is same) missing = absurd (subst IsMissing is missing)
command_missing (Some (mkfs volume numbers)) ending old new (not_made error range is made) missing = absurd (missing_not_made error volume ending made.not_missing is missing)
command_missing (Some (mkfs volume numbers)) ending old new (worked moment told small range before now made crash fails is) missing = absurd (no_work_misses ending volume _ moment before now is missing)
command_missing (Some (drive volume schedule script)) (Drive ended) old new went missing = session_missing volume schedule script ended old new went missing
command_missing (Some (drive volume schedule script)) ending old new went missing = absurd went

-- the disk that was lent, or made, met a fault
zero_rises : (before now : DiskTold) (sectors : ℕ) → IsZeroDisk sectors before → Rose before.faults now.faults → 0 < now.faults
zero_rises before now sectors zero rose = let none = zero.faults in omega (arith, rose, none)

lent_rises : (old new : Option DiskTold) (before now : DiskTold) → old ≡ Some before → new ≡ Some now → Rose before.faults now.faults → DiskFaultRose old new
lent_rises old new before now was is rose = rw (was, is) rose

made_rises : (old new : Option DiskTold) (sectors : ℕ) (before now : DiskTold) → StartsAs old sectors before → new ≡ Some now → Rose before.faults now.faults → DiskFaultRose old new
made_rises None new sectors before now starts is rose = rw is (zero_rises before now sectors starts rose)
made_rises (Some was) new sectors before now starts is rose = rw is (subst (λ (d : DiskTold). Rose d.faults now.faults) starts rose)

-- Between two moments the host counted a failure, or the disk of this name did.
abbrev FaultRose : Option (List ℕ) → Outside → Outside → Type 0
FaultRose volume old new = IsSome old.holds → Rose old.faults new.faults ⊎ IsSomeAnd volume (λ name. DiskFaultRose (disk_of old name) (disk_of new name))

reading_fault : (volume : List ℕ) (IsEnding : DiskTold → Ending → Type 0) (ending : Ending) (old new : Outside) → HasRead volume IsEnding ending old new → IsDiskFault ending → FaultRose (Some volume) old new
reading_fault volume IsEnding ending old new (not_lent error is lent) fault tells = inl (failure_counted error volume ending old is fault new.faults (ap (λ (o : Outside). o.faults) lent.after))
reading_fault volume IsEnding ending old new (read before now lent unwritten fails is) fault tells =
    let still = (reading_keeps {S = All} {K = All} volume IsEnding ending old new (read before now lent unwritten fails is)).tells ∙ tells in
    inr (lent_rises _ _ before now (lent.given tells) (disk_there volume now _ new lent.back still) (fails.failed fault).faults)

no_drive_scan : (volume : List ℕ) (ended : DriveEnding) (old new : Outside) → Ran (Some (scan volume)) (Drive ended) old new → ⊥
no_drive_scan volume ended old new (not_lent error is lent) = no_drive_refusal error volume ended is
no_drive_scan volume ended old new (read before now lent unwritten fails is) = is

no_drive_check : (volume : List ℕ) (ended : DriveEnding) (old new : Outside) → Ran (Some (check volume)) (Drive ended) old new → ⊥
no_drive_check volume ended old new (not_lent error is lent) = no_drive_refusal error volume ended is
no_drive_check volume ended old new (read before now lent unwritten fails is) = is

no_drive_mkfs : (volume : List ℕ) (numbers : VolumeNumbers) (ended : DriveEnding) (old new : Outside) → Ran (Some (mkfs volume numbers)) (Drive ended) old new → ⊥
no_drive_mkfs volume numbers ended old new (out_of_range bad range is same) = absurd (cc (is))
no_drive_mkfs volume numbers ended old new (no_memory range is same) = absurd (cc (is))
no_drive_mkfs volume numbers ended old new (not_made error range is made) = no_drive_refusal error volume ended is
no_drive_mkfs volume numbers ended old new (worked moment told small range before now made crash fails is) = is

make_counted : (error : HostError) (name : List ℕ) (ending : Ending) (old : Outside) → IsRefusal error name ending → IsDiskFault ending → (faults : ℕ) → faults ≡ (after_ask MakeDisk name (refused_with error) old).faults → Rose old.faults faults
make_counted hosts.Failed name (DiskFault at) old is fault faults after = omega (arith, after)
make_counted hosts.Missing name (DiskFault at) old is fault faults after = absurd is
make_counted hosts.Mem name (DiskFault at) old is fault faults after = absurd is
make_counted error name ending old is fault faults after = absurd fault

mkfs_fault : (volume : List ℕ) (numbers : VolumeNumbers) (ending : Ending) (old new : Outside) → Ran (Some (mkfs volume numbers)) ending old new → IsDiskFault ending → FaultRose (Some volume) old new
mkfs_fault volume numbers ending old new (out_of_range bad range is same) fault tells = absurd (subst IsDiskFault is fault)
mkfs_fault volume numbers ending old new (no_memory range is same) fault tells = absurd (subst IsDiskFault is fault)
mkfs_fault volume numbers ending old new (not_made error range is made) fault tells = inl (make_counted error volume ending old is fault new.faults (ap (λ (o : Outside). o.faults) made.after))
mkfs_fault volume numbers ending old new (worked moment told small range before now made crash fails is) fault tells =
    let still = (command_keeps (Some (mkfs volume numbers)) ending old new (worked moment told small range before now made crash fails is)).tells ∙ tells in
    inr (made_rises _ _ _ before now (made.given tells) (disk_there volume now _ new made.back still) (fails.failed fault).faults)

-- the ending of another command than `drive`
command_fault : (command : Option Command) (ending : Ending) (old new : Outside) → Ran command ending old new → IsAnyDiskFault ending → FaultRose (named_by command).disk old new
command_fault None ending old new went fault tells = absurd (subst IsAnyDiskFault went.0 fault)
command_fault (Some (scan volume)) (DiskFault name) old new went fault tells = reading_fault volume _ (DiskFault name) old new went tt tells
command_fault (Some (scan volume)) (Drive ended) old new went fault tells = absurd (no_drive_scan volume ended old new went)
command_fault (Some (check volume)) (DiskFault name) old new went fault tells = reading_fault volume _ (DiskFault name) old new went tt tells
command_fault (Some (check volume)) (Drive ended) old new went fault tells = absurd (no_drive_check volume ended old new went)
command_fault (Some (mkfs volume numbers)) (DiskFault name) old new went fault tells = mkfs_fault volume numbers (DiskFault name) old new went tt tells
command_fault (Some (mkfs volume numbers)) (Drive ended) old new went fault tells = absurd (no_drive_mkfs volume numbers ended old new went)
command_fault (Some (drive volume schedule script)) (Drive ended) old new went fault tells = session_disk_fault volume schedule script ended old new went fault tells
command_fault (Some (drive volume schedule script)) (DiskFault name) old new went fault tells = absurd went
command_fault command ending old new went fault tells = absurd fault

command_read_fault : (command : Option Command) (ending : Ending) (old new : Outside) → Ran command ending old new → IsReadFault ending → IsSome old.holds
    → Rose old.faults new.faults ⊎ Any (IsSourceGone old new) (named_by command).sources
command_read_fault None ending old new went fault tells = absurd (subst IsReadFault went.0 fault)
command_read_fault (Some (scan volume)) (Drive ended) old new went fault tells = absurd (no_drive_scan volume ended old new went)
command_read_fault (Some (check volume)) (Drive ended) old new went fault tells = absurd (no_drive_check volume ended old new went)
command_read_fault (Some (mkfs volume numbers)) (Drive ended) old new went fault tells = absurd (no_drive_mkfs volume numbers ended old new went)
command_read_fault (Some (drive volume schedule script)) (Drive ended) old new went fault tells =
    elim (session_read_fault volume schedule script ended old new went fault tells) [
      | inl first ↦ elim first [ inl rose ↦ inl rose | inr gone ↦ inr (0, schedule, omega arith, refl, gone) ]
      | inr second ↦ elim second [ inl rose ↦ inl rose | inr gone ↦ inr (1, script, omega arith, refl, gone) ]
    ]
command_read_fault command ending old new went fault tells = absurd fault

command_reply_fault : (command : Option Command) (ending : Ending) (old new : Outside) → Ran command ending old new → IsReplyFault ending → IsSome old.holds
    → (volume schedule script : List ℕ) × (command ≡ Some (drive volume schedule script)) × SinkFaults volume script old new
command_reply_fault None ending old new went fault tells = absurd (subst IsReplyFault went.0 fault)
command_reply_fault (Some (scan volume)) (Drive ended) old new went fault tells = absurd (no_drive_scan volume ended old new went)
command_reply_fault (Some (check volume)) (Drive ended) old new went fault tells = absurd (no_drive_check volume ended old new went)
command_reply_fault (Some (mkfs volume numbers)) (Drive ended) old new went fault tells = absurd (no_drive_mkfs volume numbers ended old new went)
command_reply_fault (Some (drive volume schedule script)) (Drive ended) old new went fault tells = (volume, schedule, script, refl, session_reply_fault volume schedule script ended old new went fault tells)
command_reply_fault command ending old new went fault tells = absurd fault

without_2 : (error : HostError) → status_without_output error ≡ 2 → ⊥
without_2 hosts.Missing is = omega (arith, is)
without_2 hosts.Failed is = omega (arith, is)
without_2 hosts.Mem is = omega (arith, is)

without_3 : (error : HostError) → status_without_output error ≡ 3 → ⊥
without_3 hosts.Missing is = omega (arith, is)
without_3 hosts.Failed is = omega (arith, is)
without_3 hosts.Mem is = omega (arith, is)

without_4 : (error : HostError) → status_without_output error ≡ 4 → ⊥
without_4 hosts.Missing is = omega (arith, is)
without_4 hosts.Failed is = omega (arith, is)
without_4 hosts.Mem is = omega (arith, is)

without_5 : (error : HostError) → error ≢ hosts.Missing → status_without_output error ≡ 5 → (old new : Outside) → new ≡ after_ask TakeSink standard_output (refused_with error) old → Rose old.faults new.faults
without_5 hosts.Missing other is old new after = absurd (other refl)
without_5 hosts.Failed other is old new after = let faults = ap (λ (o : Outside). o.faults) after in omega (arith, faults)
without_5 hosts.Mem other is old new after = absurd (omega (arith, is))

-- a put on standard output failed, or a session tells a fault of a sink
put_failed : (ending : Ending) (status : ℕ) (out said : SinkTold) → Says ending status out said → status ≡ 5 → (0 < said.faults) ⊎ IsReplyFault ending
put_failed ending status out said (whole is put) five = inr (only_reply_fault ending (sym is ∙ five))
put_failed ending status out said (cut n is put) five = let faults = ap (λ (k : SinkTold). k.faults) put in inl (omega (arith, faults))

and_some : {T : Type 0} (P : T → Type 0) (o : Option T) (x : T) → o ≡ Some x → P x → IsSomeAnd o P
and_some P o x is p = rw is p

-- standard output is the first sink that a command names
output_met : (command : Option Command) (new : Outside) → MetFault (sink_of new standard_output) → Any (λ name. MetFault (sink_of new name)) (named_by command).sinks
output_met None new some = (0, standard_output, omega arith, refl, some)
output_met (Some (scan volume)) new some = (0, standard_output, omega arith, refl, some)
output_met (Some (check volume)) new some = (0, standard_output, omega arith, refl, some)
output_met (Some (mkfs volume numbers)) new some = (0, standard_output, omega arith, refl, some)
output_met (Some (drive volume schedule script)) new some = (0, standard_output, omega arith, refl, some)

-- what rose between the loan of standard output and its return rose in the run
same_disk_rose : (volume : Option (List ℕ)) (old lent done new : Outside) → ((q : List ℕ) → disk_of lent q ≡ disk_of old q) → ((q : List ℕ) → disk_of new q ≡ disk_of done q)
    → IsSomeAnd volume (λ name. DiskFaultRose (disk_of lent name) (disk_of done name)) → IsSomeAnd volume (λ name. DiskFaultRose (disk_of old name) (disk_of new name))
same_disk_rose None old lent done new first last rose = rose
same_disk_rose (Some name) old lent done new first last rose = rw (← first name, last name) rose

same_sources_gone : (old lent done new : Outside) (names : List (List ℕ)) → ((q : List ℕ) → source_place lent q ≡ source_place old q) → ((q : List ℕ) → source_place new q ≡ source_place done q)
    → Any (IsSourceGone lent done) names → Any (IsSourceGone old new) names
same_sources_gone old lent done new names first last (k, name, below, is, gone) =
    (k, name, below, is, record { was = ap is_some (sym (same_source old lent name (first name))) ∙ gone.was; gone = last name ∙ gone.gone })

abbrev NotOutput : List ℕ → Type 0
NotOutput q = q ≢ standard_output

-- a fault of a session's sinks, which stay while standard output is given back
session_met : (volume schedule script : List ℕ) (old lent done new : Outside) → Keeps All All NotOutput done new → lent.faults ≡ old.faults → new.faults ≡ done.faults → SinkFaults volume script lent done
    → Rose old.faults new.faults ⊎ Any (λ name. MetFault (sink_of new name)) (standard_output ∷ history_name volume ∷ out_name script ∷ [])
session_met volume schedule script old lent done new last same same_too (inl rose) = inl (omega (arith, rose, same, same_too))
session_met volume schedule script old lent done new last same same_too (inr (inl first)) =
    inr (1, history_name volume, omega arith, refl, subst MetFault (sym (same_sink done new (history_name volume) (last.sinks (history_name volume) (λ is. no_history_is_output volume (sym is))))) first)
session_met volume schedule script old lent done new last same same_too (inr (inr second)) =
    inr (2, out_name script, omega arith, refl, subst MetFault (sym (same_sink done new (out_name script) (last.sinks (out_name script) (λ is. no_replies_are_output script (sym is))))) second)

reply_cause : (command : Option Command) (ending : Ending) (old lent done new : Outside) → Ran command ending lent done → Keeps All All NotOutput done new → lent.faults ≡ old.faults → new.faults ≡ done.faults
    → IsSome lent.holds → IsReplyFault ending → Rose old.faults new.faults ⊎ Any (λ name. MetFault (sink_of new name)) (named_by command).sinks
reply_cause command ending old lent done new went last same same_too tells fault =
    let of = command_reply_fault command ending lent done went fault tells in
    subst (λ (c : Option Command). Rose old.faults new.faults ⊎ Any (λ name. MetFault (sink_of new name)) (named_by c).sinks) (sym of.3) (session_met of.0 of.1 of.2 old lent done new last same same_too of.4)

pub run_causes : (command : Option Command) (status : ℕ) (old new : Outside) → Runs command status old new → HasCauses (named_by command) status old new
run_causes command status old new (no_output error not_missing is after) = record {
  missing = λ two. absurd (without_2 error (sym is ∙ two));
  read_fault = λ three tells. absurd (without_3 error (sym is ∙ three));
  disk_fault = λ four tells. absurd (without_4 error (sym is ∙ four));
  reply_fault = λ five tells. inl (without_5 error not_missing (sym is ∙ five) old new after);
}
run_causes command status old new (ran ending out said done went empty says back) =
    let lent = after_ask TakeSink standard_output (Some answers.Given) old in
    let first : Keeps All All NotOutput old lent = ask_keeps TakeSink standard_output (Some answers.Given) old (λ q other. other) in
    let last : Keeps All All NotOutput done new = keeps_to done _ new back (sink_keeps standard_output said done (λ q other. other)) in
    let absent = ap (λ (o : Outside). o.absent) back in
    let faults = ap (λ (o : Outside). o.faults) back in
    record {
      missing = λ two. let rose = command_missing command ending lent done went (only_missing ending (of_status ending status 2 out said says two)) in omega (arith, rose, absent);
      read_fault = λ three tells.
          elim (command_read_fault command ending lent done went (only_read_fault ending (of_status ending status 3 out said says three)) (first.tells ∙ tells)) [
            | inl rose ↦ inl (omega (arith, rose, faults))
            | inr gone ↦ inr (same_sources_gone old lent done new _ (λ q. first.sources q tt) (λ q. last.sources q tt) gone)
          ];
      disk_fault = λ four tells.
          elim (command_fault command ending lent done went (only_fault ending (of_status ending status 4 out said says four)) (first.tells ∙ tells)) [
            | inl rose ↦ inl (omega (arith, rose, faults))
            | inr rose ↦ inr (same_disk_rose (named_by command).disk old lent done new (λ q. same_disk old lent q (first.disks q tt)) (λ q. same_disk done new q (last.disks q tt)) rose)
          ];
      reply_fault = λ five tells.
          elim (put_failed ending status out said says five) [
            | inl some ↦ inr (output_met command new (and_some (λ (k : SinkTold). 0 < k.faults) _ said (sink_there standard_output said done new back ((run_keeps command status old new (ran ending out said done went empty says back)).tells ∙ tells)) some))
            | inr fault ↦ reply_cause command ending old lent done new went last refl faults (first.tells ∙ tells) fault
          ];
    }
