-- A volume of the smallest size with one file, as the content of a disk, and a small session on it.
use Rattle.std.specs.Prelude.{ℕ, true, false, List, [], ◌∷◌, ◌++◌, replicate, Some, None, codes}
use Rattle.std.specs.List.{flat_map, range_with_len}
use Rattle.tree_types.specs.declared.call.Call.TheVariants as call
use Rattle.tree_types.specs.declared.reply.Reply.TheVariants as reply
use Rattle.tree_types.specs.declared.history.Commit.{Commit}
use Rattle.tree_types.specs.declared.waiting.Cause.TheVariants as cause
use Rattle.volume_model.specs.declared.device_call.DeviceCall.TheVariants.{Flush}
use Rattle.volume_model.specs.Format.{Blocks, Image, super_bytes}
use Rattle.volume_model.specs.Crash.{Record}
use Rattle.volume_model.specs.Sound.{Node, File, Tree}
use Rattle.volume_model.specs.Worked.{smallest, with_file, changed}
use Rattle.history_model.specs.Histories.{History}
use Rattle.history_model.specs.WorkedTrees.{tree_with, first_chunk, slot}
use Rattle.worked_history.specs.Histories.{entry_of}

-- The volume, whose file `/a` begins with five letters, and zeros in what nothing names.
abbrev pub file_volume : Blocks
file_volume = changed (changed with_file 2 0 (super_bytes smallest)) 38 0 (codes "hello")

-- the same as a disk has it
unfoldable pub file_image : Image
file_image = flat_map file_volume (range_with_len 0 99)

-- the file with these bytes, and the tree in which it stands
abbrev pub file_of : List ℕ → Node
file_of bytes = File (record { attributes = record { rights = 0x1a4; uid = 7; gid = 8; mtime = 2000 }; size = 4096; blocks = Some bytes ∷ []; pointers = [] })

abbrev pub tree_of_file : List ℕ → Tree
tree_of_file bytes = tree_with (first_chunk 2 2 (slot 3 488 (codes "a") ∷ []) ∷ []) (file_of bytes ∷ [])

abbrev pub first_letters : List ℕ
first_letters = codes "hello" ++ replicate 4091 0

abbrev pub other_letters : List ℕ
other_letters = codes "hallo" ++ replicate 4091 0

-- A session that reads the file and syncs it: the commit is told after one flush.
abbrev pub read_and_synced : List Commit → History
read_and_synced commits = record {
  entries = record (entry_of 1 None false (reply.Read (codes "hello")) (call.Read (codes "/a") 0 5)) { start = 0; at = 0; told = Some 0 }
      ∷ (record (entry_of 2 None true reply.Done (call.Fsync (codes "/a"))) { start = 0; at = 0; told = Some 1 } ∷ []);
  commits = commits;
  rolls = [];
}

abbrev pub one_commit : List Commit
one_commit = record { boundary = 2; cause = cause.SyncWaits 2 } ∷ []

abbrev pub one_flush : Record
one_flush = record { opening = file_image; calls = Flush ∷ [] }
