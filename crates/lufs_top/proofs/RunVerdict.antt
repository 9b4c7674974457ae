-- What the status of a check says of the volume.
use Rattle.std.proofs.Common.{◌≡◌, ◌≢◌, ◌⊎◌, inl, inr, ℕ, List, Option, Some, None, refl, sym, ◌∙◌, ap, subst, arith}
use Rattle.std.specs.Prelude.{IfSome, option_and_then, option_map}
use Rattle.lufs_base.specs.declared.geometry.Geometry.{Geometry}
use Rattle.volume_model.specs.declared.finding.Verdict.TheVariants.{Clean, Finding}
use Rattle.volume_model.specs.Format.{Image, block, geometry_of}
use Rattle.volume_model.specs.Log.{Log, NoHeader, WithHeader, BadRun as BadLogRun, log_of, recovered, recovered_by}
use Rattle.volume_model.specs.Sound.{verdict_of}
use Rattle.volume_model.specs.Texts.{verdict_of_image}
use Rattle.sector_disk.specs.Disk.{DiskTold}
use Rattle.host_io.specs.declared.host.AskKind.TheVariants.{TakeSink}
use Rattle.host_io.specs.declared.host.AskAnswer.TheVariants as answers
use Rattle.host_io.specs.declared.host.HostError.{HostError}
use Rattle.host_io.specs.declared.host.HostError.TheVariants as hosts
use Rattle.host_io.specs.Outside.{Outside, disk_of, after_ask}
use Rattle.lufs_top.specs.declared.ending.Ending.{Ending}
use Rattle.lufs_top.specs.declared.ending.Ending.TheVariants.{Missing, DiskFault, NoMemory, Check}
use Rattle.lufs_top.specs.declared.check.CheckEnding.{CheckEnding}
use Rattle.lufs_top.specs.declared.check.CheckEnding.TheVariants.{Checked, NotVolume, BadHeader, BadRun}
use Rattle.lufs_top.specs.Words.{Command, scan, check, mkfs, drive, standard_output}
use Rattle.lufs_top.specs.Borrowed.{HasRead, not_lent, read}
use Rattle.lufs_top.specs.Check.{IsCheckOf, IsCheckEnding}
use Rattle.lufs_top.specs.Ending.{status_of, check_status, IsRefusal}
use Rattle.lufs_top.specs.Run.{Runs, no_output, ran, status_if_cut, status_without_output, IsVerdictStatus, TellsVerdict}
use Rattle.lufs_top.proofs.OutsideFacts.{Keeps, ask_keeps, same_disk, tells_of_disk}
use Rattle.lufs_top.proofs.StatusTests.{of_status}

-- the status is none that tells what was found
abbrev TellsNothing : ℕ → Type 0
TellsNothing status = (status ≡ 0 → ⊥) × (status ≡ 7 → ⊥) × (status ≡ 6 → ⊥) × (status ≡ 11 → ⊥)

nothing_told : (image : Image) (status : ℕ) → TellsNothing status → IsVerdictStatus image status
nothing_told image status none = record {
  sound = λ is. absurd (none.0 is);
  unsound = λ is. absurd (none.1 is);
  unread = λ is. absurd (elim is [ inl six ↦ none.2 six | inr eleven ↦ none.3 eleven ]);
}

-- an image without a geometry, or whose log is none or bad, has no verdict
no_geometry : (image : Image) → geometry_of image ≡ None → verdict_of_image image ≡ None
no_geometry image none = ap (option_and_then (λ (g : Geometry). option_map (λ (content : Image). verdict_of g (block content)) (recovered g image))) none

no_log : (image : Image) (g : Geometry) (log : Log) → geometry_of image ≡ Some g → log_of g image ≡ log → recovered_by image log ≡ None → verdict_of_image image ≡ None
no_log image g log geometry is none =
    ap (option_and_then (λ (k : Geometry). option_map (λ (content : Image). verdict_of k (block content)) (recovered k image))) geometry
    ∙ ap (option_map (λ (content : Image). verdict_of g (block content))) (ap (recovered_by image) is ∙ none)

-- a status is that of an ending, or that of it where a put failed
abbrev Tells : ℕ → ℕ → Type 0
Tells own status = (n : ℕ) → status ≡ n → (own ≡ n) ⊎ (status_if_cut own ≡ n)

never : (own status : ℕ) → Tells own status → (n : ℕ) → (own ≡ n → ⊥) → (status_if_cut own ≡ n → ⊥) → status ≡ n → ⊥
never own status tells n whole cut is = elim (tells n is) [ inl one ↦ whole one | inr one ↦ cut one ]

silent : (own status : ℕ) → Tells own status → TellsNothing own → TellsNothing (status_if_cut own) → TellsNothing status
silent own status tells whole cut =
    (never own status tells 0 whole.0 cut.0, never own status tells 7 whole.1 cut.1, never own status tells 6 whole.2 cut.2, never own status tells 11 whole.3 cut.3)

missing_is_silent : TellsNothing 2
missing_is_silent = (λ is. omega (arith, is), λ is. omega (arith, is), λ is. omega (arith, is), λ is. omega (arith, is))

fault_is_silent : TellsNothing 4
fault_is_silent = (λ is. omega (arith, is), λ is. omega (arith, is), λ is. omega (arith, is), λ is. omega (arith, is))

reply_fault_is_silent : TellsNothing 5
reply_fault_is_silent = (λ is. omega (arith, is), λ is. omega (arith, is), λ is. omega (arith, is), λ is. omega (arith, is))

no_memory_is_silent : TellsNothing 12
no_memory_is_silent = (λ is. omega (arith, is), λ is. omega (arith, is), λ is. omega (arith, is), λ is. omega (arith, is))

refusal_is_silent : (error : HostError) (name : List ℕ) (ending : Ending) (status : ℕ) → IsRefusal error name ending → Tells (status_of ending) status → TellsNothing status
refusal_is_silent hosts.Missing name (Missing at) status is tells = silent 2 status tells missing_is_silent missing_is_silent
refusal_is_silent hosts.Failed name (DiskFault at) status is tells = silent 4 status tells fault_is_silent fault_is_silent
refusal_is_silent hosts.Mem name NoMemory status is tells = silent 12 status tells no_memory_is_silent no_memory_is_silent
refusal_is_silent error name ending status is tells = absurd is

without_output_is_silent : (error : HostError) → TellsNothing (status_without_output error)
without_output_is_silent hosts.Missing = reply_fault_is_silent
without_output_is_silent hosts.Failed = reply_fault_is_silent
without_output_is_silent hosts.Mem = no_memory_is_silent

-- a status that tells of a volume whose log can't be replayed
unread_told : (own : ℕ) (image : Image) (status : ℕ) → verdict_of_image image ≡ None → Tells own status → (own ≡ 0 → ⊥) → (status_if_cut own ≡ 0 → ⊥) → (own ≡ 7 → ⊥) → (status_if_cut own ≡ 7 → ⊥) → IsVerdictStatus image status
unread_told own image status none tells whole_0 cut_0 whole_7 cut_7 = record {
  sound = λ is. absurd (never own status tells 0 whole_0 cut_0 is);
  unsound = λ is. absurd (never own status tells 7 whole_7 cut_7 is);
  unread = λ _. none;
}

-- what was found of an image is what the status says of it
found_told : (found : CheckEnding) (image : Image) (status : ℕ) → IsCheckOf image found → Tells (check_status found) status → IsVerdictStatus image status
found_told (Checked (Clean counts)) image status is tells = record {
  sound = λ _. (counts, is);
  unsound = λ seven. absurd (never 0 status tells 7 (λ one. omega (arith, one)) (λ one. omega (arith, one)) seven);
  unread = λ which. absurd (elim which [
    | inl six ↦ never 0 status tells 6 (λ one. omega (arith, one)) (λ one. omega (arith, one)) six
    | inr eleven ↦ never 0 status tells 11 (λ one. omega (arith, one)) (λ one. omega (arith, one)) eleven
  ]);
}
found_told (Checked (Finding kind number)) image status is tells = record {
  sound = λ zero. absurd (never 7 status tells 0 (λ one. omega (arith, one)) (λ one. omega (arith, one)) zero);
  unsound = λ _. (kind, number, is);
  unread = λ which. absurd (elim which [
    | inl six ↦ never 7 status tells 6 (λ one. omega (arith, one)) (λ one. omega (arith, one)) six
    | inr eleven ↦ never 7 status tells 11 (λ one. omega (arith, one)) (λ one. omega (arith, one)) eleven
  ]);
}
found_told NotVolume image status is tells = unread_told 6 image status (no_geometry image is) tells (λ one. omega (arith, one)) (λ one. omega (arith, one)) (λ one. omega (arith, one)) (λ one. omega (arith, one))
found_told BadHeader image status is tells =
    unread_told 11 image status (no_log image is.0 NoHeader is.1 is.2 refl) tells (λ one. omega (arith, one)) (λ one. omega (arith, one)) (λ one. omega (arith, one)) (λ one. omega (arith, one))
found_told (BadRun tid place) image status is tells =
    unread_told 11 image status (no_log image is.0 (WithHeader is.1 (BadLogRun tid place)) is.2 is.3 refl) tells (λ one. omega (arith, one)) (λ one. omega (arith, one)) (λ one. omega (arith, one)) (λ one. omega (arith, one))

-- the same of each ending of a check of a disk that tells its image
ending_told : (ending : Ending) (volume : List ℕ) (told : DiskTold) (image : Image) (status : ℕ) → told.present ≡ Some image → IsCheckEnding volume told ending → Tells (status_of ending) status → IsVerdictStatus image status
ending_told (Check at found) volume told image status present is tells =
    found_told found image status (subst (λ (present : Option Image). IfSome present (λ image. IsCheckOf image found)) present is.1) tells
ending_told (DiskFault at) volume told image status present is tells = nothing_told image status (silent 4 status tells fault_is_silent fault_is_silent)
ending_told NoMemory volume told image status present is tells = nothing_told image status (silent 12 status tells no_memory_is_silent no_memory_is_silent)
ending_told ending volume told image status present is tells = absurd is

if_image : {X : Type 0} (P : X → Type 0) (o : Option X) → ((x : X) → o ≡ Some x → P x) → IfSome o P
if_image P None all = tt
if_image P (Some x) all = all x refl

-- a check that ran from an outside where the disk of this name tells its image
check_told : (volume : List ℕ) (ending : Ending) (lent done : Outside) (told : DiskTold) (image : Image) (status : ℕ) → HasRead volume (IsCheckEnding volume) ending lent done → disk_of lent volume ≡ Some told
    → told.present ≡ Some image → Tells (status_of ending) status → IsVerdictStatus image status
check_told volume ending lent done told image status (not_lent error is refused) there present tells = nothing_told image status (refusal_is_silent error volume ending status is tells)
check_told volume ending lent done told image status (read before now borrowed unwritten fails is) there present tells =
    let given = borrowed.given (tells_of_disk lent.holds lent volume refl (rw there refl)) in
    let same : before ≡ told = cc (given, there) in
    ending_told ending volume before image status (ap (λ (d : DiskTold). d.present) same ∙ present) is tells

run_told : (volume : List ℕ) (status : ℕ) (old new : Outside) → Runs (Some (check volume)) status old new → (told : DiskTold) → disk_of old volume ≡ Some told → (image : Image) → told.present ≡ Some image → IsVerdictStatus image status
run_told volume status old new (no_output error not_missing is after) told there image present =
    nothing_told image status (subst TellsNothing (sym is) (without_output_is_silent error))
run_told volume status old new (ran ending out said done went empty says back) told there image present =
    let lent = after_ask TakeSink standard_output (Some answers.Given) old in
    let first : Keeps (λ _. Unit {0}) (λ _. Unit {0}) (λ q. q ≢ standard_output) old lent = ask_keeps TakeSink standard_output (Some answers.Given) old (λ q other. other) in
    check_told volume ending lent done told image status went (same_disk old lent volume (first.disks volume tt) ∙ there) present (λ n is. of_status ending status n out said says is)

pub run_verdict : (command : Option Command) (status : ℕ) (old new : Outside) → Runs command status old new → TellsVerdict command status old
run_verdict (Some (check volume)) status old new r =
    if_image (λ (told : DiskTold). IfSome told.present (λ image. IsVerdictStatus image status)) (disk_of old volume)
    (λ told there. if_image (λ image. IsVerdictStatus image status) told.present (λ image present. run_told volume status old new r told there image present))
run_verdict (Some (scan volume)) status old new r = tt
run_verdict (Some (mkfs volume numbers)) status old new r = tt
run_verdict (Some (drive volume schedule script)) status old new r = tt
run_verdict None status old new r = tt
