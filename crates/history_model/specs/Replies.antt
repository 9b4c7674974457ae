-- The reply of a call, the tree after it, and what it claims.
use Rattle.std.specs.Prelude.{Bool, true, false, Some, None, ℕ, ◌+◌, ◌*◌, List, [], length, Option, Result, Ok, Err}
use Rattle.std.specs.Option.{option_map_or}
use Rattle.lufs_base.specs.declared.geometry.Geometry.{Geometry}
use Rattle.tree_types.specs.declared.credentials.Cred.{Cred}
use Rattle.tree_types.specs.declared.call.Call.{Call}
use Rattle.tree_types.specs.declared.call.Call.TheVariants as call
use Rattle.tree_types.specs.declared.reply.Refusal.{Refusal}
use Rattle.tree_types.specs.declared.reply.StatInfo.{StatInfo}
use Rattle.tree_types.specs.declared.reply.Reply.{Reply}
use Rattle.tree_types.specs.declared.reply.Reply.TheVariants as reply
use Rattle.volume_model.specs.Sound.{Node, File, Directory, Link, Tree, claimed_by, free_blocks_of, free_inodes_of}
use Rattle.history_model.specs.Places.{attributes_in, file_in, links_in}
use Rattle.history_model.specs.Ends.{WalkEnds, One, ends_of}
use Rattle.history_model.specs.FileBytes.{bytes_read}
use Rattle.history_model.specs.Wants.{Wanted, nothing, wants_at}
use Rattle.history_model.specs.Refusals.{Decision, Refuse, Unchanged, Proceed, decision_at}
use Rattle.history_model.specs.Edits.{edited_all}
use Rattle.history_model.specs.Effects.{edits_at, freed_at, freed_blocks_at}
use Rattle.history_model.specs.Names.{names_after, listing_of}

-- the bits of a node's type in a mode
abbrev pub type_bits : Node → ℕ
type_bits (File file) = 0x8000
type_bits (Directory directory) = 0x4000
type_bits (Link link) = 0xa000

-- in bytes: 512 for each chunk of a directory, and the text of a link
abbrev pub size_of : Node → ℕ
size_of (File file) = file.size
size_of (Directory directory) = 512 * length directory.chunks
size_of (Link link) = length link.text

abbrev pub text_in : Node → List ℕ
text_in (File file) = []
text_in (Directory directory) = []
text_in (Link link) = link.text

-- what `stat` tells of inode i
abbrev pub info_of : Geometry → Tree → (i : ℕ) → Node → StatInfo
info_of g tree i node =
    let a = attributes_in node in
    record {
      ino = i;
      mode = type_bits node + a.rights;
      links = links_in g tree i;
      uid = a.uid;
      gid = a.gid;
      size = size_of node;
      mtime = a.mtime;
      blocks = claimed_by node;
    }

abbrev pub stat_reply : Geometry → Tree → (i : ℕ) → Reply
stat_reply g tree i = option_map_or (λ node. reply.Stat (info_of g tree i node)) (tree i) reply.Done

abbrev pub read_reply : Tree → (i offset count : ℕ) → Reply
read_reply tree i offset count = option_map_or (λ file. reply.Read (bytes_read file offset count)) (file_in tree i) reply.Done

abbrev pub list_reply : Tree → (i : ℕ) → (after : Option (List ℕ)) → Reply
list_reply tree i after = let listing = listing_of (names_after tree i after) in reply.Names listing.names listing.more

abbrev pub readlink_reply : Tree → (i : ℕ) → Reply
readlink_reply tree i = option_map_or (λ node. reply.Text (text_in node)) (tree i) reply.Done

abbrev pub df_reply : Geometry → Tree → Reply
df_reply g tree = reply.Df (free_blocks_of g tree) (free_inodes_of g tree)

-- what is told of the inode that was found
abbrev pub reply_on : Option ℕ → (ℕ → Reply) → Reply
reply_on found tell = option_map_or tell found reply.Done

-- the reply of a call whose walks end so and which isn't refused
abbrev pub reply_at : Geometry → Tree → Call → WalkEnds → Reply
reply_at g tree (call.Read path offset count) (One p) = reply_on p.found (λ i. read_reply tree i offset count)
reply_at g tree (call.Stat path) (One p) = reply_on p.found (stat_reply g tree)
reply_at g tree (call.Lstat path) (One p) = reply_on p.found (stat_reply g tree)
reply_at g tree (call.List path after) (One p) = reply_on p.found (λ i. list_reply tree i after)
reply_at g tree (call.Readlink path) (One p) = reply_on p.found (readlink_reply tree)
reply_at g tree call.Df ends = df_reply g tree
reply_at g tree other ends = reply.Done

abbrev pub decided_reply : Decision → (told : Reply) → Reply
decided_reply (Refuse refusal) told = reply.Refused refusal
decided_reply Unchanged told = reply.Done
decided_reply Proceed told = told

abbrev pub walked_reply : Geometry → Tree → Cred → Call → Result WalkEnds Refusal → Reply
walked_reply g tree cred call (Err refusal) = reply.Refused refusal
walked_reply g tree cred call (Ok ends) = decided_reply (decision_at g tree cred call ends) (reply_at g tree call ends)

-- the reply of a call on this tree
unfoldable pub reply_of : Geometry → Tree → Cred → Call → Reply
reply_of g tree cred call = walked_reply g tree cred call (ends_of tree cred call)

-- why the reply refuses the call, if it does
abbrev pub refusal_of : Reply → Option Refusal
refusal_of (reply.Refused why) = Some why
refusal_of other = None

-- the reply of the call tells bytes of a file
abbrev pub tells_bytes : Call → Bool
tells_bytes (call.Read path offset count) = true
tells_bytes other = false

-- the second of these where a call is carried out, and else the first
abbrev pub decided : {X : Type 0} → Decision → (same changed : X) → X
decided (Refuse refusal) same changed = same
decided Unchanged same changed = same
decided Proceed same changed = changed

abbrev pub walked_tree : Geometry → Tree → Cred → (ino moment : ℕ) → Call → Result WalkEnds Refusal → Tree
walked_tree g tree cred ino moment call (Err refusal) = tree
walked_tree g tree cred ino moment call (Ok ends) = decided (decision_at g tree cred call ends) tree (edited_all (edits_at g tree cred ino moment call ends) tree)

-- the tree after a call, which gives number `ino` to an inode that it makes, and changes times to this moment
unfoldable pub tree_after : Geometry → Tree → Cred → (ino moment : ℕ) → Call → Tree
tree_after g tree cred ino moment call = walked_tree g tree cred ino moment call (ends_of tree cred call)

abbrev pub walked_wants : Geometry → Tree → Cred → Call → Result WalkEnds Refusal → Wanted
walked_wants g tree cred call (Err refusal) = nothing
walked_wants g tree cred call (Ok ends) = decided (decision_at g tree cred call ends) nothing (wants_at tree call ends)

-- what a call claims on this tree; a refused one claims nothing
unfoldable pub wanted_of : Geometry → Tree → Cred → Call → Wanted
wanted_of g tree cred call = walked_wants g tree cred call (ends_of tree cred call)

abbrev pub walked_freed : Geometry → Tree → Cred → Call → Result WalkEnds Refusal → Option ℕ
walked_freed g tree cred call (Err refusal) = None
walked_freed g tree cred call (Ok ends) = decided (decision_at g tree cred call ends) None (freed_at g tree call ends)

-- the inode that a call frees on this tree
unfoldable pub freed_of : Geometry → Tree → Cred → Call → Option ℕ
freed_of g tree cred call = walked_freed g tree cred call (ends_of tree cred call)

abbrev pub walked_freed_blocks : Geometry → Tree → Cred → Call → Result WalkEnds Refusal → ℕ
walked_freed_blocks g tree cred call (Err refusal) = 0
walked_freed_blocks g tree cred call (Ok ends) = decided (decision_at g tree cred call ends) 0 (freed_blocks_at g tree call ends)

-- how many blocks a call frees on this tree
unfoldable pub freed_blocks_of : Geometry → Tree → Cred → Call → ℕ
freed_blocks_of g tree cred call = walked_freed_blocks g tree cred call (ends_of tree cred call)
