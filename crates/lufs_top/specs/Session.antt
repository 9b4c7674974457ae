-- What `drive` promises where the host tells what it holds, without the steps of the work.
use Rattle.std.specs.Prelude.{◌≡◌, ◌≢◌, ◌<◌, ◌⊎◌, ℕ, ◌+◌, List, [], ◌++◌, length, map, take, Option, Some, None, IfSome, IsSomeAnd, option_and_then}
use Rattle.lufs_base.specs.declared.geometry.Geometry.{Geometry}
use Rattle.tree_types.specs.declared.history.Entry.{Entry}
use Rattle.volume_model.specs.declared.finding.Kind.{Kind}
use Rattle.volume_model.specs.declared.finding.Verdict.TheVariants.{Finding}
use Rattle.volume_model.specs.declared.log.Header.{Header}
use Rattle.volume_model.specs.declared.log.Tx.{Tx}
use Rattle.volume_model.specs.Format.{Image, block, geometry_of}
use Rattle.volume_model.specs.Log.{Transactions, NoHeader, WithHeader, Listed, BadRun, log_of, recovered}
use Rattle.volume_model.specs.Sound.{Tree, StandsFor}
use Rattle.volume_model.specs.Texts.{verdict_of_image}
use Rattle.history_model.specs.Lines.{lines_of}
use Rattle.history_model.specs.Histories.{Legal, AreOfFirstLines, replayed_on}
use Rattle.history_model.specs.HistoryText.{history_text_of, session_text_of}
use Rattle.host_io.specs.Outside.{Outside, disk_of, source_of, sink_of}
use Rattle.plain_session.specs.ServedLines.{served_line, turns_in, entered_in, told_in}
use Rattle.plain_session.specs.Sessions.{told_texts, AreFirstTold, AreAnswered}
use Rattle.drive_command.specs.Ending.{history_name, out_name}
use Rattle.drive_command.specs.Volume.{last_epoch}
use Rattle.drive_command.specs.Sessions.{history_of}
use Rattle.lufs_top.specs.Words.{Command, drive, standard_output}
use Rattle.lufs_top.specs.Run.{sink_place}

-- what stands on the disk, in the source and in the sink of a name, where the host tells it
abbrev pub image_of : Outside → List ℕ → Option Image
image_of o name = option_and_then (λ told. told.present) (disk_of o name)

abbrev pub bytes_of : Outside → List ℕ → Option (List ℕ)
bytes_of o name = option_and_then (λ told. told.left) (source_of o name)

abbrev pub text_of_sink : Outside → List ℕ → Option (List ℕ)
text_of_sink o name = option_and_then (λ told. told.held) (sink_of o name)

-- A session: the volume that it was on, its moment, how many calls its disk had made before, the tree with which it began,
-- and its entries in order.
pub record Session : Type 0 where
  pub geometry : Geometry
  pub header : Header
  pub moment : ℕ
  pub calls : ℕ
  pub opening : Tree
  pub entries : List Entry

-- the tree after all entries
abbrev pub tree_at_end : Session → Tree
tree_at_end s = replayed_on s.geometry s.moment s.opening s.entries

-- The session is one of this script on this image. It began with the tree for which the recovered image stands, and its
-- entries are legal, answered by their trees or for lack of memory, and those of the first lines of the script, each once.
pub record IsSessionOn (image : Image) (script : List ℕ) (s : Session) : Type 0 where
  pub geometry : geometry_of image ≡ Some s.geometry
  pub log : (txs : List Tx) × (log_of s.geometry image ≡ WithHeader s.header (Listed txs))
  pub epoch : s.header.epoch < last_epoch
  pub opening : IsSomeAnd (recovered s.geometry image) (λ there. StandsFor s.geometry (block there) s.opening [])
  pub legal : Legal s.geometry s.moment s.opening s.entries
  pub answered : AreAnswered s.geometry s.moment s.opening s.entries
  pub lines : AreOfFirstLines 0 (map served_line (lines_of script)) s.entries

-- As many lines are entered, and as many of them told, as the schedule has turns for.
pub record ReachesAll (schedule script : List ℕ) (s : Session) : Type 0 where
  pub entered : length s.entries ≡ entered_in (turns_in schedule) (map served_line (lines_of script))
  pub told : AreFirstTold (told_in (turns_in schedule) (map served_line (lines_of script))) s.entries

-- the text of the session's history, which is of the next epoch
abbrev pub history_text : Session → List ℕ
history_text s = history_text_of (s.header.epoch + 1) s.moment 1 s.calls (history_of s.entries)

-- The names of a session, and what stood under them: the image of the volume, the bytes of the schedule and the script.
pub record Inputs : Type 0 where
  pub volume : List ℕ
  pub script_name : List ℕ
  pub image : Image
  pub schedule : List ℕ
  pub script : List ℕ

-- All was done: the sinks hold the replies that were told, the history and the summary, and the volume stands for the tree
-- after all entries.
pub record HasDone (i : Inputs) (s : Session) (new : Outside) : Type 0 where
  pub on : IsSessionOn i.image i.script s
  pub all : ReachesAll i.schedule i.script s
  pub replies : text_of_sink new (out_name i.script_name) ≡ Some (told_texts s.entries)
  pub history : text_of_sink new (history_name i.volume) ≡ Some (history_text s)
  pub output : text_of_sink new standard_output ≡ Some (session_text_of (length (lines_of i.script)) (history_of s.entries))
  pub volume : IfSome (image_of new i.volume) (λ left. StandsFor s.geometry (block left) (tree_at_end s) [])

-- What a session left whose volume was written back, whatever became of its sinks: they hold the replies that were told, and
-- the first bytes of a further one, and the first bytes of the history; and the volume stands for the tree after all entries.
pub record HasLeft (i : Inputs) (s : Session) (new : Outside) : Type 0 where
  pub on : IsSessionOn i.image i.script s
  pub replies : IfSome (text_of_sink new (out_name i.script_name)) (λ held. (more : List ℕ) × (held ≡ told_texts s.entries ++ more))
  pub history : IfSome (text_of_sink new (history_name i.volume)) (λ held. (n : ℕ) × (held ≡ take n (history_text s)))
  pub volume : IfSome (image_of new i.volume) (λ left. StandsFor s.geometry (block left) (tree_at_end s) [])

-- Nothing was written: the volume holds what it held, and the sinks of the session weren't asked for.
pub record WroteNothing (i : Inputs) (old new : Outside) : Type 0 where
  pub volume : image_of new i.volume ≡ image_of old i.volume
  pub history : sink_place new (history_name i.volume) ≡ sink_place old (history_name i.volume)
  pub replies : sink_place new (out_name i.script_name) ≡ sink_place old (out_name i.script_name)

-- the epoch of the image's log is the last one
abbrev pub IsSpent : Image → Type 0
IsSpent image = (g : Geometry) × (h : Header) × (txs : Transactions) × (geometry_of image ≡ Some g) × (log_of g image ≡ WithHeader h txs) × (h.epoch ≡ last_epoch)

-- the image has a geometry, and no log that can be listed
abbrev pub HasBadLog : Image → Type 0
HasBadLog image = (g : Geometry) × (geometry_of image ≡ Some g) × ((log_of g image ≡ NoHeader) ⊎ ((h : Header) × (tid : ℕ) × (place : ℕ) × (log_of g image ≡ WithHeader h (BadRun tid place))))

-- What the status of a session says, where the host tells what stands under its names. At 0 all was done. At all but 4, where
-- the disk failed, the volume is as it was, or was written back. Where it was refused, it is for what its image is, and
-- nothing was written.
pub record IsSessionStatus (i : Inputs) (status : ℕ) (moment : Option ℕ) (old new : Outside) : Type 0 where
  pub done : status ≡ 0 → (s : Session) × HasDone i s new × IfSome moment (λ told. s.moment ≡ told)
  pub left : status ≢ 4 → (image_of new i.volume ≡ image_of old i.volume) ⊎ ((s : Session) × HasLeft i s new × IfSome moment (λ told. s.moment ≡ told))
  pub not_volume : status ≡ 6 → geometry_of i.image ≡ None
  pub unsound : status ≡ 7 → (kind : Kind) × (number : ℕ) × (verdict_of_image i.image ≡ Some (Finding kind number))
  pub spent : status ≡ 8 → IsSpent i.image
  pub bad_log : status ≡ 11 → HasBadLog i.image
  pub nothing : status ≢ 0 → status ≢ 4 → status ≢ 5 → status ≢ 12 → WroteNothing i old new

-- so it is with the status of `drive`
abbrev pub TellsSession : Option Command → ℕ → Outside → Outside → Type 0
TellsSession (Some (drive volume schedule script)) status old new =
    IfSome (image_of old volume) (λ image. IfSome (bytes_of old schedule) (λ plan. IfSome (bytes_of old script) (λ text.
    IsSessionStatus (record { volume = volume; script_name = script; image = image; schedule = plan; script = text }) status old.moment old new)))
TellsSession command status old new = Unit {0}
