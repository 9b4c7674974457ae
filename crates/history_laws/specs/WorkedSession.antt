-- A whole small session on a new volume of the smallest size, to compute the definitions on: a directory is made and removed, and
-- a file is made, written and synced, to which the directory's block may be given.
use Rattle.std.specs.Prelude.{◌≡◌, ◌≤◌, ◌<◌, ℕ, ◌==◌, Bool, true, false, if◌then◌else◌, List, [], ◌∷◌, ◌++◌, slice_index, replicate, Option, Some, None, IfSome, IsSomeAnd, Contains, codes}
use Rattle.std.specs.List.{flat_map, range_with_len}
use Rattle.tree_types.specs.declared.call.Call.{Call}
use Rattle.tree_types.specs.declared.call.Call.TheVariants as call
use Rattle.tree_types.specs.declared.reply.Reply.TheVariants as reply
use Rattle.tree_types.specs.declared.history.Entry.{Entry}
use Rattle.volume_model.specs.Format.{Blocks, Image, super_bytes, new_directory}
use Rattle.volume_model.specs.Log.{recovered}
use Rattle.volume_model.specs.Crash.{Record}
use Rattle.volume_model.specs.Sound.{Node, File, Tree, shape_of, MountsAs}
use Rattle.volume_model.specs.Worked.{smallest, made, changed}
use Rattle.history_model.specs.Lines.{first_caller}
use Rattle.history_model.specs.CrashSafety.{HasKept}
use Rattle.history_model.specs.WorkedTrees.{with_rights, directory_of, new_tree, tree_with, first_chunk, slot}

-- The volume as it is made, with zeros in what nothing names; the same as a disk has it; and that disk before any call.
abbrev pub volume_as_made : Blocks
volume_as_made = changed made 2 0 (super_bytes smallest)

unfoldable pub new_image : Image
new_image = flat_map volume_as_made (range_with_len 0 99)

abbrev pub new_disk : Record
new_disk = record { opening = new_image; calls = [] }

-- when an entry began, ended and was told, in listed calls of the disk
pub record Times : Type 0 where
  pub start : ℕ
  pub at : ℕ
  pub told : Option ℕ

-- an entry of the superuser, in stream 0, that was answered ok
abbrev pub entry_during : Times → (line : ℕ) → (ino : Option ℕ) → (sync : Bool) → Call → Entry
entry_during times line ino sync c = record {
  stream = 0;
  line = line;
  ino = ino;
  start = times.start;
  at = times.at;
  told = times.told;
  sync = sync;
  reply = reply.Done;
  call = Some c;
  cred = first_caller;
}

abbrev pub letters : List ℕ
letters = codes "abc"

-- the five entries, with the times of each
abbrev pub five_entries : (when : ℕ → Times) → List Entry
five_entries when =
    entry_during (when 1) 1 (Some 3) false (call.Mkdir (codes "/d") 0x1ed)
    ∷ (entry_during (when 2) 2 None false (call.Rmdir (codes "/d"))
    ∷ (entry_during (when 3) 3 (Some 3) false (call.Create (codes "/f") 0x1a4)
    ∷ (entry_during (when 4) 4 None false (call.Write (codes "/f") 0 letters)
    ∷ (entry_during (when 5) 5 None true (call.Fsync (codes "/f")) ∷ []))))

-- the boundaries of its commits: the directory is made, it is removed, the file is synced
abbrev pub committed_at : List ℕ
committed_at = 1 ∷ (2 ∷ (5 ∷ []))

-- the root with the directory, and the root with the file
abbrev pub tree_with_directory : Tree
tree_with_directory = tree_with (first_chunk 2 2 (slot 3 488 (codes "d") ∷ []) ∷ []) (directory_of (new_directory 3 2 ∷ []) ∷ [])

abbrev pub lettered_file : Node
lettered_file = File (record { attributes = with_rights 0x1a4; size = 3; blocks = Some (letters ++ replicate 4093 0) ∷ []; pointers = [] })

abbrev pub tree_with_letters : Tree
tree_with_letters = tree_with (first_chunk 2 2 (slot 3 488 (codes "f") ∷ []) ∷ []) (lettered_file ∷ [])

-- by boundary: the tree before the first commit and after the second one has the root alone
abbrev pub tree_at : (boundary : ℕ) → Tree
tree_at boundary = if boundary == 1 then tree_with_directory else (if boundary == 5 then tree_with_letters else new_tree)

-- the three bytes of the file stand in what is recovered of the image
abbrev pub HasLetters : Image → Type 0
HasLetters image = (p : ℕ) → p < 3 → IsSomeAnd (recovered smallest image) (λ content. HasKept smallest content 3 p (slice_index letters p))

-- The image mounts as the tree of a boundary. Once the fsync was told, that is the last one, and the bytes are there.
pub record IsLeftBy (when : ℕ → Times) (n : ℕ) (image : Image) : Type 0 where
  pub boundary : ℕ
  pub is : Contains (0 ∷ committed_at) boundary
  pub mounts : MountsAs image (shape_of (tree_at boundary))
  pub told : IfSome (when 5).told (λ told. told ≤ n → (boundary ≡ 5) × HasLetters image)
