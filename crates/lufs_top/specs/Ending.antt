-- How a command ends: its status and its text.
use Rattle.std.specs.Prelude.{◌≡◌, ℕ, List, codes, string_bytes}
use Rattle.volume_model.specs.declared.finding.Verdict.TheVariants.{Clean, Finding}
use Rattle.volume_model.specs.Texts.{verdict_text}
use Rattle.endings.specs.Lines.{named_line, counted_line, bad_log_line}
use Rattle.drive_command.specs.Ending.{drive_status, drive_text}
use Rattle.host_io.specs.declared.host.HostError.{HostError}
use Rattle.host_io.specs.declared.host.HostError.TheVariants as hosts
use Rattle.lufs_top.specs.Numbers.{name_of_number}
use Rattle.lufs_top.specs.declared.ending.Ending.{Ending}
use Rattle.lufs_top.specs.declared.ending.Ending.TheVariants.{Usage, Missing, DiskFault, NoMemory, Scan, Check, Mkfs, Drive}
use Rattle.lufs_top.specs.declared.scan.ScanEnding.{ScanEnding}
use Rattle.lufs_top.specs.declared.scan.ScanEnding.TheVariants.{Listed, NotVolume, BadHeader, BadRun}
use Rattle.lufs_top.specs.declared.check.CheckEnding.{CheckEnding}
use Rattle.lufs_top.specs.declared.check.CheckEnding.TheVariants as checks
use Rattle.lufs_top.specs.declared.mkfs.MkfsEnding.{MkfsEnding}
use Rattle.lufs_top.specs.declared.mkfs.MkfsEnding.TheVariants.{Made, Refused}

abbrev pub scan_status : ScanEnding → ℕ
scan_status (Listed text) = 0
scan_status NotVolume = 6
scan_status BadHeader = 11
scan_status (BadRun tid place) = 11

abbrev pub check_status : CheckEnding → ℕ
check_status (checks.Checked (Clean counts)) = 0
check_status (checks.Checked (Finding kind number)) = 7
check_status checks.NotVolume = 6
check_status checks.BadHeader = 11
check_status (checks.BadRun tid place) = 11

abbrev pub mkfs_status : MkfsEnding → ℕ
mkfs_status (Made text) = 0
mkfs_status (Refused bad) = 10

abbrev pub status_of : Ending → ℕ
status_of Usage = 1
status_of (Missing name) = 2
status_of (DiskFault name) = 4
status_of NoMemory = 12
status_of (Scan volume ended) = scan_status ended
status_of (Check volume ended) = check_status ended
status_of (Mkfs ended) = mkfs_status ended
status_of (Drive ended) = drive_status ended

-- what a scan prints of the volume of this name
abbrev pub scan_line : List ℕ → ScanEnding → List ℕ
scan_line volume (Listed text) = string_bytes text
scan_line volume NotVolume = named_line (codes "not a volume") volume
scan_line volume BadHeader = codes "bad log header\n"
scan_line volume (BadRun tid place) = bad_log_line tid place

-- what a check prints of the volume of this name
abbrev pub check_line : List ℕ → CheckEnding → List ℕ
check_line volume (checks.Checked verdict) = verdict_text verdict
check_line volume checks.NotVolume = named_line (codes "not a volume") volume
check_line volume checks.BadHeader = codes "bad log header\n"
check_line volume (checks.BadRun tid place) = bad_log_line tid place

abbrev pub mkfs_line : MkfsEnding → List ℕ
mkfs_line (Made text) = string_bytes text
mkfs_line (Refused bad) = counted_line (codes "geometry") (name_of_number bad.word) bad.number

-- what is printed
abbrev pub text_of : Ending → List ℕ
text_of Usage = codes "usage\n"
text_of (Missing name) = named_line (codes "missing") name.now
text_of (DiskFault name) = named_line (codes "disk fault") name.now
text_of NoMemory = codes "no memory\n"
text_of (Scan volume ended) = scan_line volume.now ended
text_of (Check volume ended) = check_line volume.now ended
text_of (Mkfs ended) = mkfs_line ended
text_of (Drive ended) = drive_text ended

-- the ending tells of this error of the host, at this name
abbrev pub IsRefusal : HostError → List ℕ → Ending → Type 0
IsRefusal hosts.Missing name (Missing at) = at.now ≡ name
IsRefusal hosts.Failed name (DiskFault at) = at.now ≡ name
IsRefusal hosts.Mem name NoMemory = Unit {0}
IsRefusal error name ending = ⊥

abbrev pub IsDiskFault : Ending → Type 0
IsDiskFault (DiskFault at) = Unit {0}
IsDiskFault ending = ⊥
