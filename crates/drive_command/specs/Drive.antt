-- What the command `drive` does.
use Rattle.std.specs.Prelude.{◌≡◌, ◌≢◌, ◌<◌, ℕ, ◌+◌, ◌^◌, Bool, List, length, map, Some, IsSome, IfSome, Result, MatchBool}
use Rattle.lufs_base.specs.declared.errors.DiskFault.{DiskFault}
use Rattle.lufs_base.specs.declared.geometry.Geometry.{Geometry}
use Rattle.tree_types.specs.declared.history.Entry.{Entry}
use Rattle.volume_model.specs.declared.log.Header.{Header}
use Rattle.volume_model.specs.Format.{Image}
use Rattle.history_model.specs.Lines.{lines_of}
use Rattle.history_model.specs.Histories.{replayed_on}
use Rattle.history_model.specs.HistoryText.{history_text_of}
use Rattle.sector_disk.specs.Disk.{DiskTold}
use Rattle.host_io.specs.declared.host.HostError.{HostError}
use Rattle.host_io.specs.declared.host.HostError.TheVariants as hosts
use Rattle.host_io.specs.declared.host.AskKind.TheVariants.{TakeSink}
use Rattle.host_io.specs.declared.host.AskAnswer.TheVariants.{Given}
use Rattle.host_io.specs.Outside.{Outside, SinkTold, refused_with, after_ask, with_disk, with_sink, empty_sink}
use Rattle.plain_session.specs.ServedLines.{served_line, turns_in}
use Rattle.plain_session.specs.Sessions.{HasServed, HasToldAll, HasLostReply}
use Rattle.drive_command.specs.declared.ending.DriveEnding.{DriveEnding}
use Rattle.drive_command.specs.declared.ending.DriveEnding.TheVariants.{ReplyFault, NoMemory}
use Rattle.drive_command.specs.declared.session.Kept.{Kept}
use Rattle.drive_command.specs.Ending.{history_name, out_name, sink_name}
use Rattle.drive_command.specs.Sources.{most_schedule, SourceStops, ScriptStops, IsSourceRead, IsScriptRead}
use Rattle.drive_command.specs.Volume.{VolumeStops, IsDiskLent, IsMounted, opening_of}
use Rattle.drive_command.specs.Sessions.{history_of, HasWrittenBack, KeepsHistory, EndsAs}

-- What a session begins with: a volume whose content is in memory, the host's moment, and the bytes of its sources.
pub record Start : Type 0 where
  pub geometry : Geometry
  pub header : Header
  pub content : Image
  pub moment : ℕ
  pub schedule : List ℕ
  pub script : List ℕ

-- A session ran. The lines were served in the turns of the schedule, the volume was written back with what they left, in the
-- next epoch, and the history was put on its sink, whatever became of the rest.
pub record SessionRan (volume script : List ℕ) (s : Start) (ending : DriveEnding) (disk_old disk_new : DiskTold) (history_old history_new replies_old replies_new : SinkTold) : Type 0 where
  pub entries : List Entry
  pub image : Image
  -- whether a reply couldn't be put
  pub deaf : Bool
  pub written : Result (Unit {0}) DiskFault
  pub kept : Kept
  pub served : HasServed s.geometry s.moment (opening_of s.geometry s.content) (lines_of s.script) (turns_in s.schedule) disk_old.calls replies_old replies_new entries image
  pub replies : MatchBool deaf (HasLostReply (map served_line (lines_of s.script)) (turns_in s.schedule) replies_old replies_new entries)
      (HasToldAll (map served_line (lines_of s.script)) (turns_in s.schedule) replies_old replies_new entries)
  pub back : HasWrittenBack s.geometry s.header image (replayed_on s.geometry s.moment (opening_of s.geometry s.content) entries) written disk_old disk_new
  pub history : KeepsHistory (history_text_of (s.header.epoch + 1) s.moment 1 disk_old.calls (history_of entries)) kept history_old history_new
  pub end : EndsAs volume script written deaf kept (length (lines_of s.script)) entries ending

-- What came of a session that had its sinks.
pub data SessionEnds (volume script : List ℕ) (s : Start) (ending : DriveEnding) (disk_old disk_new : DiskTold) (history_old history_new replies_old replies_new : SinkTold) : Type 0 where
  -- there was no memory for it, and nothing was done
  not_begun : ending ≡ NoMemory → disk_new ≡ disk_old → history_new ≡ history_old → replies_new ≡ replies_old
      → SessionEnds volume script s ending disk_old disk_new history_old history_new replies_old replies_new
  ran : SessionRan volume script s ending disk_old disk_new history_old history_new replies_old replies_new
      → SessionEnds volume script s ending disk_old disk_new history_old history_new replies_old replies_new

-- The sink of this name was lent, and told this then.
pub record IsSinkLent (name : List ℕ) (before : SinkTold) (old new : Outside) : Type 0 where
  pub given : IsSome old.holds → before ≡ empty_sink
  pub after : new ≡ after_ask TakeSink name (Some Given) old

-- the ending tells of this error of the host, which was asked for the sink of this name
abbrev pub IsSinkRefusal : HostError → List ℕ → DriveEnding → Type 0
IsSinkRefusal hosts.Missing name (ReplyFault at) = sink_name at ≡ name
IsSinkRefusal hosts.Failed name (ReplyFault at) = sink_name at ≡ name
IsSinkRefusal hosts.Mem name NoMemory = Unit {0}
IsSinkRefusal error name ending = ⊥

-- What came of a volume that was read, while its disk was lent. The sinks that were taken are back.
pub data SinksRan (volume script : List ℕ) (s : Start) (ending : DriveEnding) (disk_old disk_new : DiskTold) (old new : Outside) : Type 0 where
  -- there was no memory for the names of the sinks
  no_names : ending ≡ NoMemory → disk_new ≡ disk_old → new ≡ old → SinksRan volume script s ending disk_old disk_new old new
  -- the host didn't lend the sink of the history
  no_history : (error : HostError) → error ≢ hosts.Missing → IsSinkRefusal error (history_name volume) ending → disk_new ≡ disk_old
      → new ≡ after_ask TakeSink (history_name volume) (refused_with error) old → SinksRan volume script s ending disk_old disk_new old new
  -- the host didn't lend the sink of the replies
  no_replies : (error : HostError) (history : SinkTold) (noted : Outside) → IsSinkLent (history_name volume) history old noted
      → error ≢ hosts.Missing → IsSinkRefusal error (out_name script) ending → disk_new ≡ disk_old
      → new ≡ with_sink (history_name volume) history (after_ask TakeSink (out_name script) (refused_with error) noted)
      → SinksRan volume script s ending disk_old disk_new old new
  -- both were lent
  lent : (history kept replies told : SinkTold) (noted heard : Outside) → IsSinkLent (history_name volume) history old noted
      → IsSinkLent (out_name script) replies noted heard → SessionEnds volume script s ending disk_old disk_new history kept replies told
      → new ≡ with_sink (history_name volume) kept (with_sink (out_name script) told heard) → SinksRan volume script s ending disk_old disk_new old new

-- The sources were read, and then the volume, whose disk is lent.
pub record HasOpened (volume schedule script : List ℕ) (s : Start) (before now : DiskTold) (old opened : Outside) : Type 0 where
  pub planned : Outside
  pub read : Outside
  pub schedule_read : IsSourceRead schedule most_schedule s.schedule old planned
  pub script_read : IsScriptRead script s.script planned read
  pub disk_lent : IsDiskLent volume before read opened
  pub mounted : IsMounted s.geometry s.header s.content before now
  -- the moment is the host's
  pub moment : IfSome old.moment (λ told. s.moment ≡ told)
  pub moment_fits : s.moment < 2 ^ 64

-- How `drive` of these names ended, and what it did to the outside. Each of its steps begins where the one before left off.
pub data DriveRan (volume schedule script : List ℕ) (ending : DriveEnding) (old new : Outside) : Type 0 where
  no_schedule : SourceStops schedule most_schedule ending old new → DriveRan volume schedule script ending old new
  no_script : (turns : List ℕ) (planned : Outside) → IsSourceRead schedule most_schedule turns old planned → ScriptStops script ending planned new
      → DriveRan volume schedule script ending old new
  no_volume : (turns text : List ℕ) (planned read : Outside) → IsSourceRead schedule most_schedule turns old planned → IsScriptRead script text planned read
      → VolumeStops volume ending read new → DriveRan volume schedule script ending old new
  opened : (s : Start) (before now after : DiskTold) (at left : Outside) → HasOpened volume schedule script s before now old at
      → SinksRan volume script s ending now after at left → new ≡ with_disk volume after left → DriveRan volume schedule script ending old new
