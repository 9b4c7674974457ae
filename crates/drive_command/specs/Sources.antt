-- How the sources of a session are read.
use Rattle.std.specs.Prelude.{◌≡◌, ◌<◌, ◌≤◌, ℕ, List, length, Some, None, IsSome, Ok, Err}
use Rattle.history_model.specs.Lines.{texts_in}
use Rattle.script_text.specs.declared.script.LinesError.{LinesError}
use Rattle.script_text.specs.declared.script.LinesError.TheVariants as lines
use Rattle.host_io.specs.declared.host.HostError.{HostError}
use Rattle.host_io.specs.declared.host.HostError.TheVariants as hosts
use Rattle.host_io.specs.declared.host.AskKind.TheVariants.{TakeSource}
use Rattle.host_io.specs.declared.host.AskAnswer.TheVariants.{Given}
use Rattle.host_io.specs.declared.whole.ReadError.{ReadError}
use Rattle.host_io.specs.declared.whole.ReadError.TheVariants as reads
use Rattle.host_io.specs.Source.{SourceTold, ReadsWhole}
use Rattle.host_io.specs.Outside.{Outside, source_of, refused_with, after_ask}
use Rattle.drive_command.specs.declared.ending.DriveEnding.{DriveEnding}
use Rattle.drive_command.specs.declared.ending.DriveEnding.TheVariants.{Missing, ReadFault, OverLimit, NoMemory}

-- the most bytes of a schedule, and of a script
abbrev pub most_schedule : ℕ
most_schedule = 1048576

abbrev pub most_script : ℕ
most_script = 67108864

-- the most lines of a script
abbrev pub most_lines : ℕ
most_lines = 100000

-- the ending tells of this error of the host, which was asked for the source of this name
abbrev pub IsSourceRefusal : HostError → List ℕ → DriveEnding → Type 0
IsSourceRefusal hosts.Missing name (Missing at) = at.now ≡ name
IsSourceRefusal hosts.Failed name (ReadFault at) = at.now ≡ name
IsSourceRefusal hosts.Mem name NoMemory = Unit {0}
IsSourceRefusal error name ending = ⊥

-- the ending tells why the source of this name wasn't read
abbrev pub IsUnread : ReadError → List ℕ → (limit : ℕ) → DriveEnding → Type 0
IsUnread reads.Fault name limit (ReadFault at) = at.now ≡ name
IsUnread reads.TooLong name limit (OverLimit at most) = (at.now ≡ name) × (most ≡ limit)
IsUnread reads.Mem name limit NoMemory = Unit {0}
IsUnread error name limit ending = ⊥

-- the ending tells why the lines of the script of this name weren't read
abbrev pub IsUnparted : LinesError → List ℕ → DriveEnding → Type 0
IsUnparted lines.TooMany name (OverLimit at most) = (at.now ≡ name) × (most ≡ most_lines)
IsUnparted lines.Mem name NoMemory = Unit {0}
IsUnparted error name ending = ⊥

-- The source of this name was lent, for good, and told this then.
pub record IsSourceLent (name : List ℕ) (before : SourceTold) (old new : Outside) : Type 0 where
  pub given : IsSome old.holds → source_of old name ≡ Some before
  pub after : new ≡ after_ask TakeSource name (Some Given) old

-- The source of this name wasn't read whole, and the ending says why.
pub data SourceStops (name : List ℕ) (limit : ℕ) (ending : DriveEnding) (old new : Outside) : Type 0 where
  -- the host gave none
  not_lent : (error : HostError) → IsSourceRefusal error name ending → (error ≡ hosts.Missing → source_of old name ≡ None)
      → new ≡ after_ask TakeSource name (refused_with error) old → SourceStops name limit ending old new
  -- a take failed, it has more bytes than may be read, or there was no memory
  unread : (error : ReadError) (before now : SourceTold) → IsUnread error name limit ending → IsSourceLent name before old new
      → ReadsWhole limit (Err error) before now → SourceStops name limit ending old new

-- The source of this name was read whole, and these are its bytes.
pub record IsSourceRead (name : List ℕ) (limit : ℕ) (bytes : List ℕ) (old new : Outside) : Type 0 where
  pub before : SourceTold
  pub now : SourceTold
  pub lent : IsSourceLent name before old new
  pub whole : ReadsWhole limit (Ok bytes) before now

-- The script of this name was read, and these are its bytes.
pub record IsScriptRead (name script : List ℕ) (old new : Outside) : Type 0 where
  pub source : IsSourceRead name most_script script old new
  pub within : length (texts_in script) ≤ most_lines

-- The script of this name wasn't read, and the ending says why.
pub data ScriptStops (name : List ℕ) (ending : DriveEnding) (old new : Outside) : Type 0 where
  no_source : SourceStops name most_script ending old new → ScriptStops name ending old new
  -- it was read whole, but has more lines than may be read, or there was no memory for them
  no_lines : (script : List ℕ) (error : LinesError) → IsSourceRead name most_script script old new → IsUnparted error name ending
      → (error ≡ lines.TooMany → most_lines < length (texts_in script)) → ScriptStops name ending old new
