-- The history of a session, the tree that it leads to, and which histories are right.
use Rattle.std.specs.Prelude.{◌≡◌, ◌≢◌, ◌≤◌, ◌<◌, ℕ, zero, suc, ◌==◌, Bool, true, false, ◌&&◌, List, [], ◌∷◌, ◌++◌, take, slice_get, Option, Some, None, unwrap_or, is_some, IfSome}
use Rattle.std.specs.List.{filter_map, last_or}
use Rattle.lufs_base.specs.declared.geometry.Geometry.{Geometry}
use Rattle.tree_types.specs.declared.credentials.Cred.{Cred}
use Rattle.tree_types.specs.declared.call.Call.{Call}
use Rattle.tree_types.specs.declared.call.Call.TheVariants as call
use Rattle.tree_types.specs.declared.call.Line.{Line}
use Rattle.tree_types.specs.declared.reply.Refusal.{Refusal}
use Rattle.tree_types.specs.declared.reply.Refusal.TheVariants as refusal
use Rattle.tree_types.specs.declared.reply.Reply.{Reply}
use Rattle.tree_types.specs.declared.reply.Reply.TheVariants as reply
use Rattle.tree_types.specs.declared.history.Entry.{Entry}
use Rattle.tree_types.specs.declared.history.Commit.{Commit}
use Rattle.tree_types.specs.declared.history.RollNote.{RollNote}
use Rattle.volume_model.specs.Format.{inodes_of}
use Rattle.volume_model.specs.Sound.{Tree}
use Rattle.history_model.specs.Lines.{first_caller}
use Rattle.history_model.specs.Replies.{reply_of, tree_after}

-- what a session kept: its entries, numbered from 1, and its commits and rolls, each in order
pub record History : Type 0 where
  pub entries : List Entry
  pub commits : List Commit
  pub rolls : List RollNote

-- entry number n
abbrev pub entry_at : List Entry → (n : ℕ) → Option Entry
entry_at entries zero = None
entry_at entries (suc k) = slice_get entries k

abbrev pub is_ok : Reply → Bool
is_ok (reply.Refused why) = false
is_ok other = true

-- a refusal that doesn't come from the tree: the line is no call, the volume is locked, the disk failed, or there was no
-- memory
abbrev pub is_outside : Refusal → Bool
is_outside refusal.Syntax = true
is_outside refusal.Locked = true
is_outside refusal.Fault = true
is_outside refusal.Nomem = true
is_outside other = false

-- the reply tells that the call was carried out on the tree
abbrev pub is_carried_out : Reply → Bool
is_carried_out (reply.Refused why) = elim (is_outside why) [ true ↦ false | false ↦ true ]
is_carried_out other = true

-- the tree after an entry
abbrev pub after_call : Geometry → (moment : ℕ) → Tree → Entry → Option Call → Tree
after_call g moment tree e None = tree
after_call g moment tree e (Some c) = elim (is_carried_out e.reply) [ true ↦ tree_after g tree e.cred (unwrap_or e.ino 0) moment c | false ↦ tree ]

-- The tree after these entries, in order, from this one on.
abbrev pub replayed_on : Geometry → (moment : ℕ) → Tree → List Entry → Tree
replayed_on g moment tree [] = tree
replayed_on g moment tree (e ∷ entries) = replayed_on g moment (after_call g moment tree e e.call) entries

-- the tree after the first k entries of a session that began with this one
unfoldable pub replay_of : Geometry → (moment : ℕ) → (opening : Tree) → List Entry → (k : ℕ) → Tree
replay_of g moment opening entries k = replayed_on g moment opening (take k entries)

abbrev pub becomes : (stream : ℕ) → Entry → Option Call → Option Cred
becomes stream e (Some (call.Become uid gid)) = elim (e.stream == stream && is_ok e.reply) [ true ↦ Some (record { uid = uid; gid = gid }) | false ↦ None ]
becomes stream e other = None

-- as whom a stream makes its next call: as the last `as` of it that was answered ok says, and first as the superuser
abbrev pub caller_of : (stream : ℕ) → (before : List Entry) → Cred
caller_of stream before = unwrap_or (last_or None (filter_map (λ e. becomes stream e e.call) before)) first_caller

-- the call makes an inode
abbrev pub makes_inode : Call → Bool
makes_inode (call.Create path mode) = true
makes_inode (call.Mkdir path mode) = true
makes_inode (call.Symlink text path) = true
makes_inode other = false

-- an inode that a call may make on this tree
pub record IsUsable (g : Geometry) (tree : Tree) (i : ℕ) : Type 0 where
  pub low : 2 ≤ i
  pub high : i < inodes_of g
  pub free : tree i ≡ None

-- Of a line that is a call: no reply calls it none, a reply that comes from the tree is that of the tree before it, and an
-- inode is named just where the call made one, which was free.
pub record IsRightEntry (g : Geometry) (tree : Tree) (e : Entry) (c : Call) : Type 0 where
  pub call : e.reply ≢ reply.Refused refusal.Syntax
  pub reply : is_carried_out e.reply ≡ true → e.reply ≡ reply_of g tree e.cred c
  pub made : is_some e.ino ≡ (makes_inode c && is_ok e.reply)
  pub usable : IfSome e.ino (IsUsable g tree)

-- a line that is no call is refused as one
pub record IsFaultyEntry (e : Entry) : Type 0 where
  pub reply : e.reply ≡ reply.Refused refusal.Syntax
  pub made : e.ino ≡ None

abbrev pub IsRightReply : Geometry → Tree → Entry → Option Call → Type 0
IsRightReply g tree e None = IsFaultyEntry e
IsRightReply g tree e (Some c) = IsRightEntry g tree e c

-- The entry is right after these: its caller is that of its stream, its reply is that of the tree, and only a reply that is
-- ok waits for a commit.
pub record IsRightAfter (g : Geometry) (moment : ℕ) (opening : Tree) (before : List Entry) (e : Entry) : Type 0 where
  pub cred : e.cred ≡ caller_of e.stream before
  pub reply : IsRightReply g (replayed_on g moment opening before) e e.call
  pub sync : e.sync ≡ true → is_ok e.reply ≡ true

-- P of each of the entries, and of those before it
abbrev pub EachAfter : (List Entry → Entry → Type 0) → (before : List Entry) → List Entry → Type 0
EachAfter P before [] = Unit {0}
EachAfter P before (e ∷ entries) = P before e × EachAfter P (before ++ e ∷ []) entries

-- each entry is right after those before it
unfoldable pub Legal : Geometry → (moment : ℕ) → (opening : Tree) → List Entry → Type 0
Legal g moment opening entries = EachAfter (IsRightAfter g moment opening) [] entries

-- The entry is this line's: its number and its call, and it is synchronous exactly where the line is and the reply is ok.
pub record IsEntryOf (stream : ℕ) (line : Line) (e : Entry) : Type 0 where
  pub of_stream : e.stream ≡ stream
  pub number : e.line ≡ line.number
  pub call : e.call ≡ line.call
  pub sync : e.sync ≡ (line.sync && is_ok e.reply)

-- these entries are those of the first lines, one each, in order
abbrev pub AreOfFirstLines : (stream : ℕ) → List Line → List Entry → Type 0
AreOfFirstLines stream lines [] = Unit {0}
AreOfFirstLines stream [] (e ∷ entries) = ⊥
AreOfFirstLines stream (line ∷ lines) (e ∷ entries) = IsEntryOf stream line e × AreOfFirstLines stream lines entries

-- the entries of a stream
abbrev pub entries_of : (stream : ℕ) → List Entry → List Entry
entries_of stream entries = filter_map (λ e. elim (e.stream == stream) [ true ↦ Some e | false ↦ None ]) entries
