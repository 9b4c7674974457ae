-- What a session asks its host for, in order.
use Rattle.std.proofs.Common.{◌≡◌, ℕ, List, [], ◌∷◌, Some, refl, ◌∙◌, ap}
use Rattle.host_io.specs.declared.host.AskKind.{AskKind}
use Rattle.host_io.specs.declared.host.AskKind.TheVariants.{TakeDisk, TakeSource, TakeSink}
use Rattle.host_io.specs.declared.host.AskAnswer.TheVariants as answers
use Rattle.sector_disk.specs.Disk.{DiskTold}
use Rattle.host_io.specs.Outside.{Outside, after_ask, refused_with}
use Rattle.drive_command.specs.declared.ending.DriveEnding.{DriveEnding}
use Rattle.drive_command.specs.Ending.{history_name, out_name}
use Rattle.drive_command.specs.Sources.{SourceStops, ScriptStops, IsSourceRead, not_lent, unread, no_source, no_lines}
use Rattle.drive_command.specs.Volume.{VolumeStops}
use Rattle.drive_command.specs.Volume as volumes
use Rattle.drive_command.specs.Drive.{Start, SinksRan, no_names, no_history, no_replies, lent, DriveRan, no_schedule, no_script, no_volume, opened}
use Rattle.lufs_top.specs.Words.{drive}
use Rattle.lufs_top.specs.Run.{AsksInOrder, asked_by}
use Rattle.lufs_top.proofs.AskLists.{no_asks, given_first, refused_asks}

abbrev Plan : Type 0
Plan = List (AskKind × List ℕ)

asks_of : (old new : Outside) → new ≡ old → new.asks ≡ old.asks
asks_of old new same = ap (λ (o : Outside). o.asks) same

stopped_asks : (plan : Plan) (name : List ℕ) (limit : ℕ) (ending : DriveEnding) (old new : Outside) → SourceStops name limit ending old new → AsksInOrder ((TakeSource, name) ∷ plan) old new
stopped_asks plan name limit ending old new (not_lent error is missing after) = refused_asks TakeSource name plan error old new (asks_of _ new after)
stopped_asks plan name limit ending old new (unread error before now is source whole) = given_first TakeSource name plan old new new source.after (no_asks plan new new refl)

read_asks : (plan : Plan) (name : List ℕ) (limit : ℕ) (bytes : List ℕ) (old mid new : Outside) → IsSourceRead name limit bytes old mid → AsksInOrder plan mid new
    → AsksInOrder ((TakeSource, name) ∷ plan) old new
read_asks plan name limit bytes old mid new read more = given_first TakeSource name plan old mid new read.lent.after more

script_asks : (plan : Plan) (name : List ℕ) (ending : DriveEnding) (old new : Outside) → ScriptStops name ending old new → AsksInOrder ((TakeSource, name) ∷ plan) old new
script_asks plan name ending old new (no_source stops) = stopped_asks plan name _ ending old new stops
script_asks plan name ending old new (no_lines text error read is many) = read_asks plan name _ text old new new read (no_asks plan new new refl)

volume_asks : (plan : Plan) (volume : List ℕ) (ending : DriveEnding) (old new : Outside) → VolumeStops volume ending old new → AsksInOrder ((TakeDisk, volume) ∷ plan) old new
volume_asks plan volume ending old new (volumes.not_lent error is missing after) = refused_asks TakeDisk volume plan error old new (asks_of _ new after)
volume_asks plan volume ending old new (volumes.refused before now mid disk why is true_of unwritten fails back) =
    given_first TakeDisk volume plan old mid new disk.after (no_asks plan mid new (asks_of _ new back))

sinks_ask : (volume script : List ℕ) (s : Start) (ending : DriveEnding) (before now : DiskTold) (old new : Outside) → SinksRan volume script s ending before now old new
    → AsksInOrder ((TakeSink, history_name volume) ∷ (TakeSink, out_name script) ∷ []) old new
sinks_ask volume script s ending before now old new (no_names is disk same) = no_asks _ old new (asks_of old new same)
sinks_ask volume script s ending before now old new (no_history error other is disk after) = refused_asks TakeSink (history_name volume) _ error old new (asks_of _ new after)
sinks_ask volume script s ending before now old new (no_replies error history noted taken other is disk after) =
    given_first TakeSink (history_name volume) _ old noted new taken.after (refused_asks TakeSink (out_name script) [] error noted new (asks_of _ new after))
sinks_ask volume script s ending before now old new (lent history kept replies told noted heard first second ends after) =
    given_first TakeSink (history_name volume) _ old noted new first.after
    (given_first TakeSink (out_name script) [] noted heard new second.after (no_asks [] heard new (asks_of _ new after)))

pub session_asks : (volume schedule script : List ℕ) (ending : DriveEnding) (old new : Outside) → DriveRan volume schedule script ending old new
    → AsksInOrder (asked_by (Some (drive volume schedule script))) old new
session_asks volume schedule script ending old new (no_schedule stops) = stopped_asks _ schedule _ ending old new stops
session_asks volume schedule script ending old new (no_script turns planned first stops) =
    read_asks _ schedule _ turns old planned new first (script_asks _ script ending planned new stops)
session_asks volume schedule script ending old new (no_volume turns text planned mid first second stops) =
    read_asks _ schedule _ turns old planned new first (read_asks _ script _ text planned mid new second.source (volume_asks _ volume ending mid new stops))
session_asks volume schedule script ending old new (opened s before now after at left has went back) =
    let more = sinks_ask volume script s ending now after at left went in
    read_asks _ schedule _ s.schedule old has.planned new has.schedule_read
    (read_asks _ script _ s.script has.planned has.read new has.script_read.source
    (given_first TakeDisk volume _ has.read at new has.disk_lent.after (more.0, more.1, asks_of _ new back ∙ more.2)))
