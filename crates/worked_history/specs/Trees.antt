-- Small trees and scripts, to compute the definitions on. Some of the trees aren't those of a sound volume, and some of the
-- geometries are smaller than any volume's: a limit then takes a short script to reach.
use Rattle.std.specs.Prelude.{ℕ, ◌+◌, List, [], ◌∷◌, ◌++◌, ◌-◌, replicate, not, is_some, Some, None, codes}
use Rattle.std.specs.List.{position_or_len, range_with_len}
use Rattle.lufs_base.specs.declared.geometry.Geometry.{Geometry}
use Rattle.tree_types.specs.declared.credentials.Cred.{Cred}
use Rattle.tree_types.specs.declared.call.Call.{Call}
use Rattle.tree_types.specs.declared.call.Call.TheVariants as call
use Rattle.tree_types.specs.declared.call.Line.{Line}
use Rattle.tree_types.specs.declared.reply.Reply.{Reply}
use Rattle.tree_types.specs.declared.reply.Reply.TheVariants as reply
use Rattle.tree_types.specs.declared.reply.Refusal.TheVariants.{Syntax}
use Rattle.volume_model.specs.declared.directory.Slot.{Slot}
use Rattle.volume_model.specs.Format.{new_directory, inodes_of}
use Rattle.volume_model.specs.Sound.{Node, Tree}
use Rattle.volume_model.specs.Worked.{smallest}
use Rattle.history_model.specs.Replies.{reply_of, tree_after}
use Rattle.history_model.specs.Lines.{lines_of, first_caller}
use Rattle.history_model.specs.ReplyText.{reply_text_of}
use Rattle.history_model.specs.WorkedTrees.{directory_of, empty_file, tree_of_nodes, new_tree, slot, first_chunk, tree_with}

-- A directory `d` and a file of two names, `/f` and `/d/g`.
abbrev pub family_nodes : List Node
family_nodes =
    directory_of (first_chunk 2 2 (slot 3 12 (codes "d") ∷ (slot 4 476 (codes "f") ∷ [])) ∷ [])
    ∷ (directory_of (first_chunk 3 2 (slot 4 488 (codes "g") ∷ []) ∷ []) ∷ (empty_file ∷ []))

abbrev pub family : Tree
family = tree_of_nodes family_nodes

-- two names of one directory; two directories each above the other; and a name of an inode that isn't in use
abbrev pub twins : Tree
twins = tree_with (first_chunk 2 2 (slot 3 12 (codes "a") ∷ (slot 3 476 (codes "b") ∷ [])) ∷ []) (directory_of (new_directory 3 2 ∷ []) ∷ [])

abbrev pub circle : Tree
circle =
    tree_with (new_directory 2 2 ∷ [])
    (directory_of (first_chunk 3 4 (slot 4 488 (codes "b") ∷ []) ∷ []) ∷ (directory_of (first_chunk 4 3 (slot 3 488 (codes "a") ∷ []) ∷ []) ∷ []))

abbrev pub orphan : Tree
orphan = tree_with (first_chunk 2 2 (slot 5 488 (codes "a") ∷ []) ∷ []) []

-- a name of 255 bytes
abbrev pub longest : (byte : ℕ) → List ℕ
longest byte = replicate 255 byte

-- a chunk in which a name of 255 bytes finds no room
abbrev pub taken_chunk : List Slot
taken_chunk = slot 3 512 (longest 97) ∷ []

-- a directory that gives inode i so many names more, and which no other one names
abbrev pub crowd : (i count : ℕ) → Node
crowd i count = directory_of (replicate count (slot i 512 (codes "x")) ∷ [])

-- the smallest volume with so many body blocks
abbrev pub with_blocks : ℕ → Geometry
with_blocks count = record smallest { bpg = 2 + count }

-- one body block, and no inode but the root's
abbrev pub root_alone : Geometry
root_alone = record smallest { bpg = 2; ipg = 3 }

-- the lowest number of a free inode
abbrev pub lowest_free : Geometry → Tree → ℕ
lowest_free g tree = 2 + position_or_len (λ i. not (is_some (tree i))) (range_with_len 2 (inodes_of g - 2))

-- who makes the next call, after this one
abbrev pub caller_after : Cred → Call → Cred
caller_after cred (call.Become uid gid) = record { uid = uid; gid = gid }
caller_after cred other = cred

-- The replies to the calls of one stream, and the tree after them, where each call at this moment takes the lowest free
-- inode.
abbrev pub replies_from : Geometry → (moment : ℕ) → Tree → Cred → List Call → List Reply
replies_from g moment tree cred [] = []
replies_from g moment tree cred (c ∷ calls) =
    reply_of g tree cred c ∷ replies_from g moment (tree_after g tree cred (lowest_free g tree) moment c) (caller_after cred c) calls

abbrev pub tree_from : Geometry → (moment : ℕ) → Tree → Cred → List Call → Tree
tree_from g moment tree cred [] = tree
tree_from g moment tree cred (c ∷ calls) = tree_from g moment (tree_after g tree cred (lowest_free g tree) moment c) (caller_after cred c) calls

-- the same of lines, as texts
abbrev pub texts_from : Geometry → (moment : ℕ) → Tree → Cred → List Line → List ℕ
texts_from g moment tree cred [] = []
texts_from g moment tree cred (line ∷ lines) =
    elim line.call [
      | None ↦ reply_text_of line.number (reply.Refused Syntax) ++ texts_from g moment tree cred lines
      | Some c ↦ reply_text_of line.number (reply_of g tree cred c) ++ texts_from g moment (tree_after g tree cred (lowest_free g tree) moment c) (caller_after cred c) lines
    ]

-- what is answered to a script on this tree, at moment 1000
abbrev pub answers_on : Geometry → Tree → (script : List ℕ) → List ℕ
answers_on g tree script = texts_from g 1000 tree first_caller (lines_of script)

-- the same on a new volume of the smallest size
abbrev pub answers_to : (script : List ℕ) → List ℕ
answers_to script = answers_on smallest new_tree script

-- what is answered at moment 2000
abbrev pub later_answers_on : Tree → (script : List ℕ) → List ℕ
later_answers_on tree script = texts_from smallest 2000 tree first_caller (lines_of script)
