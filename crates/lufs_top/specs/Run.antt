-- What a run does to the outside.
use Rattle.std.specs.Prelude.{◌≡◌, ◌≢◌, ◌<◌, ◌≤◌, ◌⊎◌, ℕ, ◌^◌, ◌==◌, if◌then◌else◌, List, [], ◌∷◌, ◌++◌, take, Contains, Any, Option, Some, None, IfSome, IsSome, IsSomeAnd, is_some, option_map, option_and_then}
use Rattle.lufs_base.specs.Causes.{counted, Rose}
use Rattle.volume_model.specs.declared.finding.Counts.{Counts}
use Rattle.volume_model.specs.declared.finding.Kind.{Kind}
use Rattle.volume_model.specs.declared.finding.Verdict.TheVariants.{Clean, Finding}
use Rattle.volume_model.specs.Format.{Image}
use Rattle.volume_model.specs.Texts.{verdict_of_image}
use Rattle.sector_disk.specs.Disk.{DiskTold}
use Rattle.host_io.specs.declared.host.HostError.{HostError}
use Rattle.host_io.specs.declared.host.HostError.TheVariants as hosts
use Rattle.host_io.specs.declared.host.AskKind.{AskKind}
use Rattle.host_io.specs.declared.host.AskKind.TheVariants.{TakeDisk, MakeDisk, TakeSource, TakeSink}
use Rattle.host_io.specs.declared.host.Ask.{Ask}
use Rattle.host_io.specs.declared.host.AskAnswer.TheVariants.{Given}
use Rattle.host_io.specs.Places.{Place, lent, here_of}
use Rattle.host_io.specs.Source.{SourceTold}
use Rattle.host_io.specs.Outside.{Outside, Holdings, SinkTold, disk_of, source_of, sink_of, refused_with, after_ask, with_sink, empty_sink}
use Rattle.lufs_top.specs.declared.ending.Ending.{Ending}
use Rattle.lufs_top.specs.declared.ending.Ending.TheVariants.{Usage, Drive}
use Rattle.lufs_top.specs.Ending.{status_of, text_of}
use Rattle.lufs_top.specs.Words.{Command, scan, check, mkfs, drive, standard_output}
use Rattle.lufs_top.specs.Scan.{ScanRan}
use Rattle.lufs_top.specs.Check.{CheckRan}
use Rattle.lufs_top.specs.Mkfs.{MkfsRan}
use Rattle.drive_command.specs.Ending.{history_name, out_name}
use Rattle.drive_command.specs.Drive.{DriveRan}

-- the ending is one of a session
abbrev pub DriveEndedSo : (volume schedule script : List ℕ) → Ending → Outside → Outside → Type 0
DriveEndedSo volume schedule script (Drive ended) old new = DriveRan volume schedule script ended old new
DriveEndedSo volume schedule script ending old new = ⊥

-- how a command ended, and what it did to the outside: a line a command
abbrev pub Ran : Option Command → Ending → Outside → Outside → Type 0
Ran None ending old new = (ending ≡ Usage) × (new ≡ old)
Ran (Some (scan volume)) ending old new = ScanRan volume ending old new
Ran (Some (check volume)) ending old new = CheckRan volume ending old new
Ran (Some (mkfs volume numbers)) ending old new = MkfsRan volume numbers ending old new
Ran (Some (drive volume schedule script)) ending old new = DriveEndedSo volume schedule script ending old new

-- the status where a put failed: success is told as a fault of the reply
abbrev pub status_if_cut : ℕ → ℕ
status_if_cut status = if status == 0 then 5 else status

-- The text of an ending was put whole, and the status is the ending's; or a put failed, after the first bytes.
pub data Says (ending : Ending) (status : ℕ) (before now : SinkTold) : Type 0 where
  whole : status ≡ status_of ending → now ≡ record before { held = option_map (λ held. held ++ text_of ending) before.held } → Says ending status before now
  cut : (n : ℕ) → status ≡ status_if_cut (status_of ending)
      → now ≡ record { held = option_map (λ held. held ++ take n (text_of ending)) before.held; faults = counted before.faults } → Says ending status before now

-- the status of a run that the host gave no output
abbrev pub status_without_output : HostError → ℕ
status_without_output hosts.Mem = 12
status_without_output hosts.Missing = 5
status_without_output hosts.Failed = 5

-- What a run does: its status, and how the outside changes.
pub data Runs (command : Option Command) (status : ℕ) (old new : Outside) : Type 0 where
  -- the host gave no standard output, and nothing else was done
  no_output : (error : HostError) → error ≢ hosts.Missing → status ≡ status_without_output error
      → new ≡ after_ask TakeSink standard_output (refused_with error) old → Runs command status old new
  -- The command ran, its text was put on an empty sink, and the sink is back.
  ran : (ending : Ending) (out said : SinkTold) (done : Outside) → Ran command ending (after_ask TakeSink standard_output (Some Given) old) done
      → (IsSome old.holds → out ≡ empty_sink) → Says ending status out said → new ≡ with_sink standard_output said done → Runs command status old new

-- what a command names: its disk, the sources that it reads, and the sinks that it writes
pub record Named : Type 0 where
  pub disk : Option (List ℕ)
  pub sources : List (List ℕ)
  pub sinks : List (List ℕ)

-- what a command names that reads or makes a volume, and prints
abbrev pub one_disk : (volume : List ℕ) → Named
one_disk volume = record { disk = Some volume; sources = []; sinks = standard_output ∷ [] }

-- what the words name: a line a command
abbrev pub named_by : Option Command → Named
named_by None = record { disk = None; sources = []; sinks = standard_output ∷ [] }
named_by (Some (scan volume)) = one_disk volume
named_by (Some (check volume)) = one_disk volume
named_by (Some (mkfs volume numbers)) = one_disk volume
named_by (Some (drive volume schedule script)) =
    record { disk = Some volume; sources = schedule ∷ script ∷ []; sinks = standard_output ∷ history_name volume ∷ out_name script ∷ [] }

-- what a command asks its host for after standard output
abbrev pub asked_by : Option Command → List (AskKind × List ℕ)
asked_by None = []
asked_by (Some (scan volume)) = (TakeDisk, volume) ∷ []
asked_by (Some (check volume)) = (TakeDisk, volume) ∷ []
asked_by (Some (mkfs volume numbers)) = (MakeDisk, volume) ∷ []
asked_by (Some (drive volume schedule script)) =
    (TakeSource, schedule) ∷ (TakeSource, script) ∷ (TakeDisk, volume) ∷ (TakeSink, history_name volume) ∷ (TakeSink, out_name script) ∷ []

-- the asks are the first of these, in this order, and each but the last was given
abbrev pub AreFirstOf : List (AskKind × List ℕ) → List Ask → Type 0
AreFirstOf plan [] = Unit {0}
AreFirstOf [] (ask ∷ more) = ⊥
AreFirstOf (next ∷ plan) (ask ∷ more) = (ask.kind ≡ next.0) × (ask.name ≡ next.1) × ((more ≡ []) ⊎ (ask.answer ≡ Given)) × AreFirstOf plan more

-- where the host tells its asks, it was asked for the first of these
abbrev pub AsksInOrder : List (AskKind × List ℕ) → Outside → Outside → Type 0
AsksInOrder plan old new = (made : List Ask) × AreFirstOf plan made × (new.asks ≡ option_map (λ asks. asks ++ made) old.asks)

-- a count of 64 bits has not fallen
abbrev pub IsNoLower : ℕ → ℕ → Type 0
IsNoLower before now = before < 2 ^ 64 → (before ≤ now) × (now < 2 ^ 64)

-- what stands under a name, where the host tells it
abbrev pub disk_place : Outside → List ℕ → Option (Place DiskTold)
disk_place o name = option_map (λ (h : Holdings). h.disks name) o.holds

abbrev pub source_place : Outside → List ℕ → Option (Place SourceTold)
source_place o name = option_map (λ (h : Holdings). h.sources name) o.holds

abbrev pub sink_place : Outside → List ℕ → Option (Place SinkTold)
sink_place o name = option_map (λ (h : Holdings). h.sinks name) o.holds

-- All that the words don't name is as it was, and no count fell.
pub record KeepsOthers (named : Named) (old new : Outside) : Type 0 where
  pub moment : new.moment ≡ old.moment
  pub tells : is_some new.holds ≡ is_some old.holds
  pub disks : (name : List ℕ) → named.disk ≢ Some name → disk_place new name ≡ disk_place old name
  pub sources : (name : List ℕ) → ¬ Contains named.sources name → source_place new name ≡ source_place old name
  pub sinks : (name : List ℕ) → ¬ Contains named.sinks name → sink_place new name ≡ sink_place old name
  pub faults : IsNoLower old.faults new.faults
  pub absent : IsNoLower old.absent new.absent

-- what stands under a name is as it was, or here
abbrev pub IsBackAt : {T : Type 0} → Option (Place T) → Option (Place T) → Type 0
IsBackAt old new = (new ≡ old) ⊎ IsSome (option_and_then here_of new)

-- Every disk and every sink that was lent is back. A source stays lent.
pub record IsBack (old new : Outside) : Type 0 where
  pub disks : (name : List ℕ) → IsBackAt (disk_place old name) (disk_place new name)
  pub sinks : (name : List ℕ) → IsBackAt (sink_place old name) (sink_place new name)

-- the disk under this name met a fault since it was as it was, or since it was made
abbrev pub DiskFaultRose : Option DiskTold → Option DiskTold → Type 0
DiskFaultRose old None = ⊥
DiskFaultRose None (Some now) = 0 < now.faults
DiskFaultRose (Some before) (Some now) = Rose before.faults now.faults

-- a source was there and was lent, for good: that a take of it failed is counted in it
pub record IsSourceGone (old new : Outside) (name : List ℕ) : Type 0 where
  pub was : IsSome (source_of old name)
  pub gone : source_place new name ≡ Some lent

-- the sink under this name met a fault
abbrev pub MetFault : Option SinkTold → Type 0
MetFault there = IsSomeAnd there (λ sink. 0 < sink.faults)

-- Each failure that a status tells was counted in this run.
pub record HasCauses (named : Named) (status : ℕ) (old new : Outside) : Type 0 where
  pub missing : status ≡ 2 → Rose old.absent new.absent
  pub read_fault : status ≡ 3 → IsSome old.holds → Rose old.faults new.faults ⊎ Any (IsSourceGone old new) named.sources
  pub disk_fault : status ≡ 4 → IsSome old.holds → Rose old.faults new.faults ⊎ IsSomeAnd named.disk (λ name. DiskFaultRose (disk_of old name) (disk_of new name))
  pub reply_fault : status ≡ 5 → IsSome old.holds → Rose old.faults new.faults ⊎ Any (λ name. MetFault (sink_of new name)) named.sinks

-- The status of a check says whether the volume of this image is sound with its log replayed, or that there is none with a log to replay.
pub record IsVerdictStatus (image : Image) (status : ℕ) : Type 0 where
  pub sound : status ≡ 0 → (counts : Counts) × (verdict_of_image image ≡ Some (Clean counts))
  pub unsound : status ≡ 7 → (kind : Kind) × (number : ℕ) × (verdict_of_image image ≡ Some (Finding kind number))
  pub unread : (status ≡ 6) ⊎ (status ≡ 11) → verdict_of_image image ≡ None

-- what the status of a check says is so, where the host tells what the disk holds
abbrev pub TellsVerdict : Option Command → ℕ → Outside → Type 0
TellsVerdict (Some (check volume)) status old = IfSome (disk_of old volume) (λ told. IfSome told.present (λ image. IsVerdictStatus image status))
TellsVerdict command status old = Unit {0}
