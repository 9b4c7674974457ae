-- What a session leaves that served the lines of one script.
use Rattle.std.specs.Prelude.{◌≡◌, ◌≤◌, ◌⊎◌, ℕ, zero, suc, List, [], ◌∷◌, ◌++◌, length, map, take, Option, Some, None, option_map, IsSome, IfSome}
use Rattle.std.specs.List.{flat_map, AllByRecursion}
use Rattle.lufs_base.specs.Causes.{counted}
use Rattle.lufs_base.specs.declared.geometry.Geometry.{Geometry}
use Rattle.tree_types.specs.declared.call.Call.{Call}
use Rattle.tree_types.specs.declared.call.Line.{Line}
use Rattle.tree_types.specs.declared.reply.Refusal.TheVariants as refusal
use Rattle.tree_types.specs.declared.reply.Reply.TheVariants as reply
use Rattle.tree_types.specs.declared.history.Entry.{Entry}
use Rattle.volume_model.specs.Format.{Image, block}
use Rattle.volume_model.specs.Sound.{Tree, StandsFor}
use Rattle.history_model.specs.ReplyText.{reply_text_of}
use Rattle.history_model.specs.Histories.{Legal, EachAfter, AreOfFirstLines, replayed_on}
use Rattle.history_model.specs.Replies.{reply_of}
use Rattle.host_io.specs.Outside.{SinkTold}
use Rattle.plain_session.specs.ServedLines.{served_line, entered_in, told_in}

-- the reply was given
abbrev pub IsTold : Entry → Type 0
IsTold e = IsSome e.told

abbrev pub told_text : Entry → Option ℕ → List ℕ
told_text e None = []
told_text e (Some moment) = reply_text_of e.line e.reply

-- the replies that were given, one after the other
abbrev pub told_texts : List Entry → List ℕ
told_texts entries = flat_map (λ e. told_text e e.told) entries

-- just the first n entries were told
abbrev pub AreFirstTold : (n : ℕ) → List Entry → Type 0
AreFirstTold n [] = n ≡ 0
AreFirstTold zero (e ∷ entries) = (e.told ≡ None) × AreFirstTold zero entries
AreFirstTold (suc n) (e ∷ entries) = IsTold e × AreFirstTold n entries

-- An entry of the first stream, at this count of the disk's calls. A session that makes none has no other moment.
pub record IsOfMoment (calls : ℕ) (e : Entry) : Type 0 where
  pub of_stream : e.stream ≡ 0
  pub start : e.start ≡ calls
  pub end : e.at ≡ calls
  pub told : IfSome e.told (λ n. n ≡ calls)

-- The reply to a call is that of its tree, or there was no memory for it.
abbrev pub IsAnswered : Geometry → Tree → Entry → Option Call → Type 0
IsAnswered g tree e None = Unit {0}
IsAnswered g tree e (Some c) = (e.reply ≡ reply.Refused refusal.Nomem) ⊎ (e.reply ≡ reply_of g tree e.cred c)

-- so is each of these entries, on the tree after those before it
abbrev pub AreAnswered : Geometry → (moment : ℕ) → (opening : Tree) → List Entry → Type 0
AreAnswered g moment opening entries = EachAfter (λ before e. IsAnswered g (replayed_on g moment opening before) e e.call) [] entries

-- No put failed: as many lines are entered, and as many of them told, as the turns allow. The sink holds the replies that
-- were given after what it held.
pub record HasToldAll (lines : List Line) (turns : ℕ) (old new : SinkTold) (entries : List Entry) : Type 0 where
  pub entered : length entries ≡ entered_in turns lines
  pub told : AreFirstTold (told_in turns lines) entries
  pub held : new ≡ record old { held = option_map (λ held. held ++ told_texts entries) old.held }

-- The put of the last entry failed: all before it are told, and it isn't, though its turns had come. The sink counted the
-- fault, and holds the first bytes of its reply after the others.
pub record HasLostReply (lines : List Line) (turns : ℕ) (old new : SinkTold) (entries : List Entry) : Type 0 where
  pub before : List Entry
  pub last : Entry
  pub whole : entries ≡ before ++ last ∷ []
  pub told : AllByRecursion IsTold before
  pub lost : last.told ≡ None
  pub within : length entries ≤ told_in turns lines
  pub bytes : ℕ
  pub held : new ≡ record { held = option_map (λ held. held ++ (told_texts entries ++ take bytes (reply_text_of last.line last.reply))) old.held; faults = counted old.faults }

-- Lines of a script were served in so many turns, and this is the image then. Their entries are legal from the opening tree
-- on, each call was answered, they are those of the first lines, and the image stands for the tree that they lead to.
pub record HasServed (g : Geometry) (moment : ℕ) (opening : Tree) (lines : List Line) (turns calls : ℕ) (sink_old sink_new : SinkTold) (entries : List Entry) (image : Image) : Type 0 where
  pub legal : Legal g moment opening entries
  pub answered : AreAnswered g moment opening entries
  pub of_lines : AreOfFirstLines 0 (map served_line lines) entries
  pub stands : StandsFor g (block image) (replayed_on g moment opening entries) []
  pub moments : AllByRecursion (IsOfMoment calls) entries
  pub sink : HasToldAll (map served_line lines) turns sink_old sink_new entries ⊎ HasLostReply (map served_line lines) turns sink_old sink_new entries
