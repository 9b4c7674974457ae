-- How a session of `drive` ends: its status and its text.
use Rattle.std.specs.Prelude.{ℕ, if◌then◌else◌, List, [], ◌++◌, codes}
use Rattle.volume_model.specs.declared.finding.Verdict.TheVariants.{Finding}
use Rattle.volume_model.specs.Texts.{verdict_text}
use Rattle.endings.specs.Lines.{named_line, counted_line, bad_log_line}
use Rattle.drive_command.specs.declared.ending.DriveEnding.{DriveEnding}
use Rattle.drive_command.specs.declared.ending.DriveEnding.TheVariants.{Missing, ReadFault, OverLimit, DiskFault, NotVolume, BadHeader, EpochSpent, BadLog, Unsound, ReplyFault, NoMemory, Driven}
use Rattle.drive_command.specs.declared.ending.SinkName.{SinkName}
use Rattle.drive_command.specs.declared.ending.SinkName.TheVariants.{History, Replies}

-- the sink that takes the history of a session on the volume of this name
abbrev pub history_name : (volume : List ℕ) → List ℕ
history_name volume = volume ++ codes ".history"

-- the sink that takes the replies to the script of this name
abbrev pub out_name : (script : List ℕ) → List ℕ
out_name script = script ++ codes ".out"

-- the name of a sink of a session
abbrev pub sink_name : SinkName → List ℕ
sink_name (History volume) = history_name volume.now
sink_name (Replies script) = out_name script.now

abbrev pub drive_status : DriveEnding → ℕ
drive_status (Missing name) = 2
drive_status (ReadFault name) = 3
drive_status (OverLimit name limit) = 9
drive_status (DiskFault name) = 4
drive_status (NotVolume name) = 6
drive_status BadHeader = 11
drive_status (EpochSpent name) = 8
drive_status (BadLog tid place) = 11
drive_status (Unsound kind number) = 7
drive_status (ReplyFault name) = 5
drive_status NoMemory = 12
drive_status (Driven text starved) = if starved then 12 else 0

-- what is printed
abbrev pub drive_text : DriveEnding → List ℕ
drive_text (Missing name) = named_line (codes "missing") name.now
drive_text (ReadFault name) = named_line (codes "read fault") name.now
drive_text (OverLimit name limit) = counted_line (codes "over limit") name.now limit
drive_text (DiskFault name) = named_line (codes "disk fault") name.now
drive_text (NotVolume name) = named_line (codes "not a volume") name.now
drive_text BadHeader = codes "bad log header\n"
drive_text (EpochSpent name) = named_line (codes "epoch spent") name.now
drive_text (BadLog tid place) = bad_log_line tid place
drive_text (Unsound kind number) = verdict_text (Finding kind number)
drive_text (ReplyFault name) = named_line (codes "reply fault") (sink_name name)
drive_text NoMemory = codes "no memory\n"
drive_text (Driven text starved) = text ++ (if starved then codes "no memory\n" else [])
