-- What a call must claim: an inode and blocks.
use Rattle.std.specs.Prelude.{ℕ, ◌+◌, ◌-◌, nat_lt, Bool, true, false, not, if◌then◌else◌, List, [], length, Option, is_some, option_and_then}
use Rattle.std.specs.List.{list_any}
use Rattle.std.specs.Option.{option_map_or}
use Rattle.lufs_base.specs.declared.geometry.Geometry.{Geometry}
use Rattle.tree_types.specs.declared.call.Call.{Call}
use Rattle.tree_types.specs.declared.call.Call.TheVariants as call
use Rattle.volume_model.specs.Format.{room_in}
use Rattle.volume_model.specs.Sound.{FileNode, Tree, directory_blocks, free_blocks_of}
use Rattle.history_model.specs.Places.{chunks_in, file_in}
use Rattle.history_model.specs.Walk.{WalkEnd}
use Rattle.history_model.specs.Ends.{WalkEnds, One, Two}
use Rattle.history_model.specs.FileBytes.{missing_indexes, misses_pointers}

-- an inode, a block at each of these indexes of a file, and so many blocks for anything else
pub record Wanted : Type 0 where
  pub inode : Bool
  pub fresh : List ℕ
  pub others : ℕ

abbrev pub nothing : Wanted
nothing = record { inode = false; fresh = []; others = 0 }

-- how many blocks are wanted
abbrev pub blocks_in : Wanted → ℕ
blocks_in wanted = length wanted.fresh + wanted.others

-- no chunk of the directory has a slot with room for the name
abbrev pub has_no_room : Tree → (dir : ℕ) → (name : List ℕ) → Bool
has_no_room tree dir name = not (list_any (λ chunk. is_some (room_in chunk name)) (chunks_in tree dir))

-- the blocks that a directory must claim for the name: those of one chunk more, where no chunk has room
abbrev pub blocks_for_name : Tree → (dir : ℕ) → (name : List ℕ) → ℕ
blocks_for_name tree dir name =
    let chunks = length (chunks_in tree dir) in
    if has_no_room tree dir name then directory_blocks (chunks + 1) - directory_blocks chunks else 0

-- the file that a walk ends with, if it is one
abbrev pub file_found : Tree → WalkEnd → Option FileNode
file_found tree p = option_and_then (file_in tree) p.found

abbrev pub create_wants : Tree → WalkEnd → Wanted
create_wants tree p = record { inode = true; fresh = []; others = blocks_for_name tree p.dir p.name }

-- the new directory has a block
abbrev pub mkdir_wants : Tree → WalkEnd → Wanted
mkdir_wants tree p = record { inode = true; fresh = []; others = 1 + blocks_for_name tree p.dir p.name }

abbrev pub link_wants : Tree → (new : WalkEnd) → Wanted
link_wants tree new = record { inode = false; fresh = []; others = blocks_for_name tree new.dir new.name }

-- the text of the new link has a block
abbrev pub symlink_wants : Tree → WalkEnd → Wanted
symlink_wants tree p = record { inode = true; fresh = []; others = 1 + blocks_for_name tree p.dir p.name }

-- a name that is there already needs no room
abbrev pub rename_wants : Tree → (new : WalkEnd) → Wanted
rename_wants tree new = if is_some new.found then nothing else link_wants tree new

abbrev pub write_wants : FileNode → (offset count : ℕ) → Wanted
write_wants file offset count = record {
  inode = false;
  fresh = missing_indexes file offset count;
  others = if misses_pointers file offset count then 1 else 0;
}

-- what a call must claim where its walks end so, if it isn't refused
abbrev pub wants_at : Tree → Call → WalkEnds → Wanted
wants_at tree (call.Create path mode) (One p) = create_wants tree p
wants_at tree (call.Mkdir path mode) (One p) = mkdir_wants tree p
wants_at tree (call.Link old new) (Two p q) = link_wants tree q
wants_at tree (call.Symlink text path) (One p) = symlink_wants tree p
wants_at tree (call.Rename old new) (Two p q) = rename_wants tree q
wants_at tree (call.Write path offset bytes) (One p) = option_map_or (λ file. write_wants file offset (length bytes)) (file_found tree p) nothing
wants_at tree other ends = nothing

-- fewer blocks are free than are wanted
abbrev pub lacks : Geometry → Tree → Wanted → Bool
lacks g tree wanted = nat_lt (free_blocks_of g tree) (blocks_in wanted)
