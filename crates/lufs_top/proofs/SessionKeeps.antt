-- What a session leaves as it was, and what it gives back.
use Rattle.std.proofs.Common.{◌≡◌, ◌≢◌, ◌<◌, ℕ, suc, List, [], ◌∷◌, Option, Some, None, inl, inr, refl, sym, ◌∙◌, ap, subst, arith}
use Rattle.std.specs.Prelude.{Contains, IsSome, is_some, option_map, option_and_then}
use Rattle.sector_disk.specs.Disk.{DiskTold}
use Rattle.host_io.specs.declared.host.AskKind.TheVariants.{TakeDisk, TakeSource, TakeSink}
use Rattle.host_io.specs.declared.host.AskAnswer.TheVariants as answers
use Rattle.host_io.specs.Outside.{Outside, Holdings, SinkTold, after_ask, with_disk, with_sink, refused_with}
use Rattle.drive_command.specs.declared.ending.DriveEnding.{DriveEnding}
use Rattle.drive_command.specs.Ending.{history_name, out_name}
use Rattle.drive_command.specs.Sources.{most_schedule, SourceStops, ScriptStops, IsSourceRead, not_lent, unread, no_source, no_lines}
use Rattle.drive_command.specs.Volume.{VolumeStops}
use Rattle.drive_command.specs.Volume as volumes
use Rattle.drive_command.specs.Drive.{Start, SinksRan, no_names, no_history, no_replies, lent, DriveRan, no_schedule, no_script, no_volume, opened}
use Rattle.lufs_top.proofs.OutsideFacts.{Keeps, keeps_both, keeps_itself, keeps_to, fewer, ask_keeps, disk_keeps, sink_keeps}

-- any name
abbrev pub Any : List ℕ → Type 0
Any q = Unit {0}

abbrev pub Not : List ℕ → List ℕ → Type 0
Not name q = q ≢ name

-- an ask for a source, whatever came of it, leaves all but that source
pub stopped_keeps : (name : List ℕ) (limit : ℕ) (ending : DriveEnding) (old new : Outside) → SourceStops name limit ending old new → Keeps Any (Not name) Any old new
stopped_keeps name limit ending old new (not_lent error is missing after) = keeps_to old _ new after (ask_keeps TakeSource name (refused_with error) old (λ q other. other))
stopped_keeps name limit ending old new (unread error before now is source whole) = keeps_to old _ new source.after (ask_keeps TakeSource name (Some answers.Given) old (λ q other. other))

pub read_keeps : (name : List ℕ) (limit : ℕ) (bytes : List ℕ) (old new : Outside) → IsSourceRead name limit bytes old new → Keeps Any (Not name) Any old new
read_keeps name limit bytes old new read = keeps_to old _ new read.lent.after (ask_keeps TakeSource name (Some answers.Given) old (λ q other. other))

pub script_keeps : (name : List ℕ) (ending : DriveEnding) (old new : Outside) → ScriptStops name ending old new → Keeps Any (Not name) Any old new
script_keeps name ending old new (no_source stops) = stopped_keeps name _ ending old new stops
script_keeps name ending old new (no_lines text error read is many) = read_keeps name _ text old new read

pub volume_keeps : (volume : List ℕ) (ending : DriveEnding) (old new : Outside) → VolumeStops volume ending old new → Keeps (Not volume) Any Any old new
volume_keeps volume ending old new (volumes.not_lent error is missing after) = keeps_to old _ new after (ask_keeps TakeDisk volume (refused_with error) old (λ q other. other))
volume_keeps volume ending old new (volumes.refused before now mid disk why is true_of unwritten fails back) =
    keeps_to old _ new back (keeps_both (keeps_to old _ mid disk.after (ask_keeps TakeDisk volume (Some answers.Given) old (λ q other. other))) (disk_keeps volume now mid (λ q other. other)))

-- neither of two sinks
abbrev pub Neither : (history replies : List ℕ) → List ℕ → Type 0
Neither history replies q = (q ≢ history) × (q ≢ replies)

pub sinks_keep : (volume script : List ℕ) (s : Start) (ending : DriveEnding) (before now : DiskTold) (old new : Outside) → SinksRan volume script s ending before now old new
    → Keeps Any Any (Neither (history_name volume) (out_name script)) old new
sinks_keep volume script s ending before now old new (no_names is disk same) = keeps_itself old new same
sinks_keep volume script s ending before now old new (no_history error other is disk after) = keeps_to old _ new after (ask_keeps TakeSink (history_name volume) (refused_with error) old (λ q other. other.0))
sinks_keep volume script s ending before now old new (no_replies error history noted taken other is disk after) =
    keeps_to old _ new after (keeps_both (keeps_to old _ noted taken.after (ask_keeps TakeSink (history_name volume) (Some answers.Given) old (λ q other. other.0)))
    (keeps_both (ask_keeps TakeSink (out_name script) (refused_with error) noted (λ q other. other.1)) (sink_keeps (history_name volume) history _ (λ q other. other.0))))
sinks_keep volume script s ending before now old new (lent history kept replies told noted heard first second ends after) =
    keeps_to old _ new after (keeps_both (keeps_to old _ noted first.after (ask_keeps TakeSink (history_name volume) (Some answers.Given) old (λ q other. other.0)))
    (keeps_both (keeps_to noted _ heard second.after (ask_keeps TakeSink (out_name script) (Some answers.Given) noted (λ q other. other.1)))
    (keeps_both (sink_keeps (out_name script) told heard (λ q other. other.1)) (sink_keeps (history_name volume) kept _ (λ q other. other.0)))))

-- what a session doesn't name
abbrev pub OtherDisk : (volume q : List ℕ) → Type 0
OtherDisk volume q = Some volume ≢ Some q

abbrev pub OtherSource : (schedule script q : List ℕ) → Type 0
OtherSource schedule script q = ¬ Contains (schedule ∷ script ∷ []) q

not_disk : (volume q : List ℕ) → OtherDisk volume q → q ≢ volume
not_disk volume q other same = other (ap (λ (n : List ℕ). Some n) (sym same))

not_schedule : (schedule script q : List ℕ) → OtherSource schedule script q → q ≢ schedule
not_schedule schedule script q other same = other (0, omega arith, sym same)

not_script : (schedule script q : List ℕ) → OtherSource schedule script q → q ≢ script
not_script schedule script q other same = other (1, omega arith, sym same)

pub session_keeps : (volume schedule script : List ℕ) (ending : DriveEnding) (old new : Outside) → DriveRan volume schedule script ending old new
    → Keeps (OtherDisk volume) (OtherSource schedule script) (Neither (history_name volume) (out_name script)) old new
session_keeps volume schedule script ending old new (no_schedule stops) =
    fewer _ _ _ (λ q _. tt) (not_schedule schedule script) (λ q _. tt) (stopped_keeps schedule _ ending old new stops)
session_keeps volume schedule script ending old new (no_script turns planned first stops) =
    keeps_both (fewer _ _ _ (λ q _. tt) (not_schedule schedule script) (λ q _. tt) (read_keeps schedule _ turns old planned first))
    (fewer _ _ _ (λ q _. tt) (not_script schedule script) (λ q _. tt) (script_keeps script ending planned new stops))
session_keeps volume schedule script ending old new (no_volume turns text planned mid first second stops) =
    keeps_both (fewer _ _ _ (λ q _. tt) (not_schedule schedule script) (λ q _. tt) (read_keeps schedule _ turns old planned first))
    (keeps_both (fewer _ _ _ (λ q _. tt) (not_script schedule script) (λ q _. tt) (read_keeps script _ text planned mid second.source))
    (fewer _ _ _ (not_disk volume) (λ q _. tt) (λ q _. tt) (volume_keeps volume ending mid new stops)))
session_keeps volume schedule script ending old new (opened s before now after at left has went back) =
    keeps_both (fewer _ _ _ (λ q _. tt) (not_schedule schedule script) (λ q _. tt) (read_keeps schedule _ s.schedule old has.planned has.schedule_read))
    (keeps_both (fewer _ _ _ (λ q _. tt) (not_script schedule script) (λ q _. tt) (read_keeps script _ s.script has.planned has.read has.script_read.source))
    (keeps_both (fewer _ _ _ (not_disk volume) (λ q _. tt) (λ q _. tt) (keeps_to has.read _ at has.disk_lent.after (ask_keeps {D = Not volume} {S = Any} {K = Any} TakeDisk volume (Some answers.Given) has.read (λ q other. other))))
    (keeps_both (fewer _ _ _ (λ q _. tt) (λ q _. tt) (λ q is. is) (sinks_keep volume script s ending now after at left went))
    (keeps_to left _ new back (disk_keeps volume after left (not_disk volume))))))
