-- What a session leaves: replies, the volume written back, the history, and how it ends.
use Rattle.std.specs.Prelude.{◌≡◌, ℕ, Bool, true, false, List, [], ◌++◌, take, option_map, IfSome, Result, Ok, Err, OnOk, OnErr}
use Rattle.std.specs.List.{list_any}
use Rattle.lufs_base.specs.Causes.{counted}
use Rattle.lufs_base.specs.declared.errors.DiskFault.{DiskFault}
use Rattle.lufs_base.specs.declared.geometry.Geometry.{Geometry}
use Rattle.tree_types.specs.declared.history.Entry.{Entry}
use Rattle.tree_types.specs.declared.reply.Reply.{Reply}
use Rattle.tree_types.specs.declared.reply.Reply.TheVariants.{Refused}
use Rattle.tree_types.specs.declared.reply.Refusal.TheVariants.{Nomem}
use Rattle.volume_model.specs.declared.log.Header.{Header}
use Rattle.volume_model.specs.Format.{Image, block}
use Rattle.volume_model.specs.Sound.{Tree, StandsFor}
use Rattle.history_model.specs.Histories.{History}
use Rattle.history_model.specs.HistoryText.{session_text_of}
use Rattle.sector_disk.specs.Disk.{DiskTold, Makes, CountsFailure}
use Rattle.host_io.specs.Outside.{SinkTold}
use Rattle.plain_image.specs.WrittenBack.{write_back_calls, WritesHomes, HoldsImage, HoldsPartly}
use Rattle.drive_command.specs.declared.ending.DriveEnding.{DriveEnding}
use Rattle.drive_command.specs.declared.ending.DriveEnding.TheVariants as ends
use Rattle.drive_command.specs.declared.session.Kept.{Kept}
use Rattle.drive_command.specs.declared.session.Kept.TheVariants.{Whole, Cut, Lacking}
use Rattle.drive_command.specs.Ending.{history_name, out_name, sink_name}

-- what a session kept: it makes no commit and no roll
abbrev pub history_of : List Entry → History
history_of entries = record { entries = entries; commits = []; rolls = [] }

-- The image that a session leaves was written back to the disk, in the next epoch; or a call of the disk failed, the last one.
-- Where the content is told, what was written stands for this tree.
pub record HasWrittenBack (g : Geometry) (h : Header) (image : Image) (tree : Tree) (written : Result (Unit {0}) DiskFault) (before now : DiskTold) : Type 0 where
  pub calls : IfSome before.present (λ there. Makes (write_back_calls g h image there) written before now)
  pub form : WritesHomes g h image written before now
  pub holds : OnOk written (HoldsImage g h image before now)
  pub stands : OnOk written (IfSome before.present (λ there. IfSome now.present (λ left. StandsFor g (block left) tree [])))
  pub partly : OnErr written (HoldsPartly g h image before now)
  pub failure : CountsFailure written before now

-- The history was put whole; or its first bytes, since the put failed; or nothing, since there was no memory for its text.
abbrev pub KeepsHistory : (text : List ℕ) → Kept → SinkTold → SinkTold → Type 0
KeepsHistory text Whole old new = new ≡ record old { held = option_map (λ held. held ++ text) old.held }
KeepsHistory text Cut old new = (n : ℕ) × (new ≡ record { held = option_map (λ held. held ++ take n text) old.held; faults = counted old.faults })
KeepsHistory text Lacking old new = new ≡ old

-- there was no memory to carry the call out
abbrev pub is_nomem : Reply → Bool
is_nomem (Refused Nomem) = true
is_nomem reply = false

abbrev pub lacked_memory : List Entry → Bool
lacked_memory entries = list_any (λ e. is_nomem e.reply) entries

abbrev pub TellsDiskFault : (volume : List ℕ) → DriveEnding → Type 0
TellsDiskFault volume (ends.DiskFault at) = at.now ≡ volume
TellsDiskFault volume ending = ⊥

abbrev pub TellsReplyFault : (name : List ℕ) → DriveEnding → Type 0
TellsReplyFault name (ends.ReplyFault at) = sink_name at ≡ name
TellsReplyFault name ending = ⊥

-- the ending sums the session up, and tells whether it lacked memory; or there was no memory for its text
abbrev pub SumsUp : (starved : Bool) (lines : ℕ) → List Entry → DriveEnding → Type 0
SumsUp starved lines entries (ends.Driven text told) = (text ≡ session_text_of lines (history_of entries)) × (told ≡ starved)
SumsUp starved lines entries ends.NoMemory = Unit {0}
SumsUp starved lines entries ending = ⊥

-- How a session ends, by the first that holds: its volume wasn't written back, a reply wasn't put, or its history; else it
-- is summed up.
abbrev pub EndsAs : (volume script : List ℕ) → Result (Unit {0}) DiskFault → (deaf : Bool) → Kept → (lines : ℕ) → List Entry → DriveEnding → Type 0
EndsAs volume script (Err fault) deaf kept lines entries ending = TellsDiskFault volume ending
EndsAs volume script (Ok done) true kept lines entries ending = TellsReplyFault (out_name script) ending
EndsAs volume script (Ok done) false Cut lines entries ending = TellsReplyFault (history_name volume) ending
EndsAs volume script (Ok done) false Whole lines entries ending = SumsUp (lacked_memory entries) lines entries ending
EndsAs volume script (Ok done) false Lacking lines entries ending = SumsUp true lines entries ending
