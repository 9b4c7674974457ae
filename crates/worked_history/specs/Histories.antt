-- Small histories, to compute the definitions on: those of a new volume of the smallest size at moment 1000.
use Rattle.std.specs.Prelude.{ℕ, Bool, true, false, List, [], ◌∷◌, ◌++◌, replicate, Option, Some, None, codes}
use Rattle.tree_types.specs.declared.call.Call.{Call}
use Rattle.tree_types.specs.declared.call.Call.TheVariants as call
use Rattle.tree_types.specs.declared.reply.Reply.{Reply}
use Rattle.tree_types.specs.declared.reply.Reply.TheVariants as reply
use Rattle.tree_types.specs.declared.history.Entry.{Entry}
use Rattle.tree_types.specs.declared.history.Commit.{Commit}
use Rattle.tree_types.specs.declared.waiting.Cause.TheVariants as cause
use Rattle.volume_model.specs.Sound.{FileNode}
use Rattle.history_model.specs.Histories.{History}
use Rattle.history_model.specs.Lines.{first_caller}
use Rattle.history_model.specs.WorkedTrees.{with_rights}

-- an entry of the superuser in stream 0, that began, ended and was told after three listed calls
abbrev pub entry_of : (line : ℕ) → (ino : Option ℕ) → (sync : Bool) → Reply → Call → Entry
entry_of line ino sync told c = record {
  stream = 0;
  line = line;
  ino = ino;
  start = 3;
  at = 3;
  told = Some 3;
  sync = sync;
  reply = told;
  call = Some c;
  cred = first_caller;
}

abbrev pub made : Entry
made = entry_of 1 (Some 3) false reply.Done (call.Create (codes "/a") 0x1a4)

abbrev pub looked_at : Entry
looked_at =
    entry_of 2 None false (reply.Stat (record { ino = 3; mode = 0x81a4; links = 1; uid = 0; gid = 0; size = 0; mtime = 1000; blocks = 0 })) (call.Stat (codes "/a"))

abbrev pub listed : Entry
listed = entry_of 3 None false (reply.Names (codes "a" ∷ []) false) (call.List (codes "/") None)

abbrev pub three_entries : List Entry
three_entries = made ∷ (looked_at ∷ (listed ∷ []))

abbrev pub without_commits : List Entry → History
without_commits entries = record { entries = entries; commits = []; rolls = [] }

-- a file of 5,000 bytes with a hole in its first block
abbrev pub file_with_hole : FileNode
file_with_hole = record { attributes = with_rights 0x1a4; size = 5000; blocks = None ∷ (Some (replicate 4096 7) ∷ []); pointers = [] }

-- an entry for this call with this reply
abbrev pub ended_as : Reply → Call → Entry
ended_as told c = entry_of 1 None false told c

-- an fsync that was answered ok
abbrev pub synced : Entry
synced = entry_of 2 None true reply.Done (call.Fsync (codes "/a"))

-- a file made and synced, in one transaction that was rolled at the end
abbrev pub synced_session : History
synced_session = record {
  entries = made ∷ (synced ∷ []);
  commits = record { boundary = 2; cause = cause.SyncWaits 2 } ∷ [];
  rolls = record { through = 1; cause = cause.Ending } ∷ [];
}

-- the same entries with these commits
abbrev pub committed_as : List Commit → History
committed_as commits = record synced_session { commits = commits }

-- a file made, written and synced, all after three listed calls
abbrev pub written_once : List Entry
written_once = made ∷ (entry_of 2 None false reply.Done (call.Write (codes "/a") 0 (codes "x")) ∷ [])

abbrev pub written_and_synced : List Entry
written_and_synced = written_once ++ synced ∷ []
