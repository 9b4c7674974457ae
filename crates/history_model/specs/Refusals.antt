-- Why a call is refused whose paths are walked: for each call its refusals, in the order in which they are tested.
use Rattle.std.specs.Prelude.{ℕ, zero, suc, ◌+◌, ◌*◌, ◌==◌, nat_lt, nat_le, Bool, true, false, not, ◌&&◌, ◌||◌, List, [], ◌∷◌, length, Option, Some, None, is_some}
use Rattle.std.specs.Option.{option_map_or}
use Rattle.lufs_base.specs.declared.geometry.Geometry.{Geometry}
use Rattle.tree_types.specs.declared.credentials.Cred.{Cred}
use Rattle.tree_types.specs.declared.call.Call.{Call}
use Rattle.tree_types.specs.declared.call.Call.TheVariants as call
use Rattle.tree_types.specs.declared.reply.Refusal.{Refusal}
use Rattle.tree_types.specs.declared.reply.Refusal.TheVariants.{Noent, Notdir, Denied, Exist, Isdir, Notempty, Inval, Mlink, Fbig, Noinodes, Nospace}
use Rattle.volume_model.specs.Sound.{FileNode, Tree, dot_dot, free_inodes_of}
use Rattle.volume_model.specs.Format.{inodes_of}
use Rattle.history_model.specs.Places.{attributes_in, chunks_in, entries_in, is_directory_in, is_link_in, file_in, lookup, links_in, is_dots, may}
use Rattle.history_model.specs.Walk.{WalkEnd, first_of, root}
use Rattle.history_model.specs.Ends.{WalkEnds, One, Two}
use Rattle.history_model.specs.FileBytes.{greatest_size}
use Rattle.history_model.specs.Wants.{has_no_room, create_wants, mkdir_wants, link_wants, symlink_wants, rename_wants, write_wants, lacks}

-- what becomes of a call: it is refused, or it is answered ok and changes nothing, or it is carried out
pub data Decision : Type 0 where
  Refuse : Refusal → Decision
  Unchanged : Decision
  Proceed : Decision

-- tests in order, with what becomes of the call where one holds and none before it does
abbrev pub Rows : Type 0
Rows = List (Bool × Decision)

-- the most names that an inode may have
abbrev pub most_links : ℕ
most_links = 32767

-- the most chunks that a directory may have: eight in each of 256 blocks
abbrev pub most_chunks : ℕ
most_chunks = 8 * 256

abbrev pub has_most_links : Geometry → Tree → (i : ℕ) → Bool
has_most_links g tree i = nat_le most_links (links_in g tree i)

-- the directory has no room for the name, and may not have a chunk more
abbrev pub cannot_grow : Tree → (dir : ℕ) → (name : List ℕ) → Bool
cannot_grow tree dir name = nat_le most_chunks (length (chunks_in tree dir)) && has_no_room tree dir name

abbrev pub has_no_inode : Geometry → Tree → Bool
has_no_inode g tree = free_inodes_of g tree == 0

abbrev pub is_empty_in : Tree → (i : ℕ) → Bool
is_empty_in tree i = length (entries_in tree i) == 0

abbrev pub is_superuser : Cred → Bool
is_superuser cred = cred.uid == 0

abbrev pub owns : Tree → Cred → (i : ℕ) → Bool
owns tree cred i = option_map_or (λ node. let a = attributes_in node in cred.uid == a.uid) (tree i) false

-- what the test says of the inode that was found; false where none was
abbrev pub found_is : (ℕ → Bool) → Option ℕ → Bool
found_is test found = option_map_or test found false

-- directory i is the other one, or so many steps up from it may lead to it
abbrev pub is_below : (steps : ℕ) → Tree → (i other : ℕ) → Bool
is_below zero tree i other = i == other
is_below (suc steps) tree i other =
    elim (i == other) [
      | true ↦ true
      | false ↦ elim (i == root) [ true ↦ false | false ↦ elim (lookup tree i dot_dot) [ None ↦ false | Some parent ↦ is_below steps tree parent other ] ]
    ]

-- the rows of a call that needs what its path names
abbrev pub on_found : Option ℕ → (ℕ → Rows) → Rows
on_found None rows = (true, Refuse Noent) ∷ []
on_found (Some i) rows = rows i

-- the rows of a call that needs a file, on which the caller has this right
abbrev pub on_file : Tree → Cred → (right i : ℕ) → (FileNode → Rows) → Rows
on_file tree cred right i rows =
    (not (may tree cred i right), Refuse Denied)
    ∷ ((is_directory_in tree i, Refuse Isdir)
    ∷ option_map_or rows (file_in tree i) [])

abbrev pub create_refusals : Geometry → Tree → Cred → WalkEnd → Rows
create_refusals g tree cred p =
    (not (may tree cred p.dir 2), Refuse Denied)
    ∷ ((is_some p.found, Refuse Exist)
    ∷ ((cannot_grow tree p.dir p.name, Refuse Fbig)
    ∷ ((has_no_inode g tree, Refuse Noinodes)
    ∷ ((lacks g tree (create_wants tree p), Refuse Nospace) ∷ []))))

abbrev pub mkdir_refusals : Geometry → Tree → Cred → WalkEnd → Rows
mkdir_refusals g tree cred p =
    (not (may tree cred p.dir 2), Refuse Denied)
    ∷ ((is_some p.found, Refuse Exist)
    ∷ ((has_most_links g tree p.dir, Refuse Mlink)
    ∷ ((cannot_grow tree p.dir p.name, Refuse Fbig)
    ∷ ((has_no_inode g tree, Refuse Noinodes)
    ∷ ((lacks g tree (mkdir_wants tree p), Refuse Nospace) ∷ [])))))

abbrev pub link_refusals : Geometry → Tree → Cred → (old new : WalkEnd) → Rows
link_refusals g tree cred old new = on_found old.found (λ i.
    (not (may tree cred new.dir 2), Refuse Denied)
    ∷ ((is_some new.found, Refuse Exist)
    ∷ ((is_directory_in tree i, Refuse Isdir)
    ∷ ((has_most_links g tree i, Refuse Mlink)
    ∷ ((cannot_grow tree new.dir new.name, Refuse Fbig)
    ∷ ((lacks g tree (link_wants tree new), Refuse Nospace) ∷ []))))))

abbrev pub symlink_refusals : Geometry → Tree → Cred → WalkEnd → Rows
symlink_refusals g tree cred p =
    (not (may tree cred p.dir 2), Refuse Denied)
    ∷ ((is_some p.found, Refuse Exist)
    ∷ ((cannot_grow tree p.dir p.name, Refuse Fbig)
    ∷ ((has_no_inode g tree, Refuse Noinodes)
    ∷ ((lacks g tree (symlink_wants tree p), Refuse Nospace) ∷ []))))

-- Two names of one inode are left alone.
abbrev pub rename_refusals : Geometry → Tree → Cred → (old new : WalkEnd) → Rows
rename_refusals g tree cred old new = on_found old.found (λ i.
    let moves_directory = is_directory_in tree i in
    let onto_directory = found_is (is_directory_in tree) new.found in
    let has_dots = is_dots old.name || is_dots new.name in
    (moves_directory && (is_some new.found && not onto_directory), Refuse Notdir)
    ∷ ((not (may tree cred old.dir 2) || not (may tree cred new.dir 2), Refuse Denied)
    ∷ ((found_is (λ n. n == i) new.found && not has_dots, Unchanged)
    ∷ ((onto_directory && not moves_directory, Refuse Isdir)
    ∷ ((found_is (λ n. is_directory_in tree n && not (is_empty_in tree n)) new.found, Refuse Notempty)
    ∷ ((has_dots || is_below (inodes_of g) tree new.dir i, Refuse Inval)
    ∷ ((moves_directory && (not (is_some new.found) && (not (new.dir == old.dir) && has_most_links g tree new.dir)), Refuse Mlink)
    ∷ ((not (is_some new.found) && cannot_grow tree new.dir new.name, Refuse Fbig)
    ∷ ((lacks g tree (rename_wants tree new), Refuse Nospace) ∷ [])))))))))

abbrev pub remove_refusals : Tree → Cred → WalkEnd → Rows
remove_refusals tree cred p = on_found p.found (λ i.
    (not (may tree cred p.dir 2), Refuse Denied)
    ∷ ((is_directory_in tree i, Refuse Isdir) ∷ []))

abbrev pub rmdir_refusals : Tree → Cred → WalkEnd → Rows
rmdir_refusals tree cred p = on_found p.found (λ i.
    (not (is_directory_in tree i), Refuse Notdir)
    ∷ ((not (may tree cred p.dir 2), Refuse Denied)
    ∷ ((not (is_empty_in tree i), Refuse Notempty)
    ∷ ((is_dots p.name, Refuse Inval) ∷ []))))

abbrev pub chmod_refusals : Tree → Cred → WalkEnd → Rows
chmod_refusals tree cred p = on_found p.found (λ i. (not (is_superuser cred || owns tree cred i), Refuse Denied) ∷ [])

abbrev pub chown_refusals : Cred → WalkEnd → Rows
chown_refusals cred p = on_found p.found (λ i. (not (is_superuser cred), Refuse Denied) ∷ [])

abbrev pub write_refusals : Geometry → Tree → Cred → WalkEnd → (offset count : ℕ) → Rows
write_refusals g tree cred p offset count = on_found p.found (λ i. on_file tree cred 2 i (λ file.
    (nat_lt greatest_size (offset + count), Refuse Fbig)
    ∷ ((lacks g tree (write_wants file offset count), Refuse Nospace) ∷ [])))

abbrev pub trunc_refusals : Tree → Cred → WalkEnd → (size : ℕ) → Rows
trunc_refusals tree cred p size = on_found p.found (λ i. on_file tree cred 2 i (λ file. (nat_lt greatest_size size, Refuse Fbig) ∷ []))

abbrev pub read_refusals : Tree → Cred → WalkEnd → Rows
read_refusals tree cred p = on_found p.found (λ i. on_file tree cred 4 i (λ file. []))

-- those of `fsync`, `stat` and `lstat`
abbrev pub stat_refusals : WalkEnd → Rows
stat_refusals p = on_found p.found (λ i. [])

abbrev pub list_refusals : Tree → Cred → WalkEnd → Rows
list_refusals tree cred p = on_found p.found (λ i.
    (not (is_directory_in tree i), Refuse Notdir)
    ∷ ((not (may tree cred i 4), Refuse Denied) ∷ []))

abbrev pub readlink_refusals : Tree → WalkEnd → Rows
readlink_refusals tree p = on_found p.found (λ i. (not (is_link_in tree i), Refuse Inval) ∷ [])

abbrev pub refusals_at : Geometry → Tree → Cred → Call → WalkEnds → Rows
refusals_at g tree cred (call.Create path mode) (One p) = create_refusals g tree cred p
refusals_at g tree cred (call.Mkdir path mode) (One p) = mkdir_refusals g tree cred p
refusals_at g tree cred (call.Link old new) (Two p q) = link_refusals g tree cred p q
refusals_at g tree cred (call.Symlink text path) (One p) = symlink_refusals g tree cred p
refusals_at g tree cred (call.Rename old new) (Two p q) = rename_refusals g tree cred p q
refusals_at g tree cred (call.Remove path) (One p) = remove_refusals tree cred p
refusals_at g tree cred (call.Rmdir path) (One p) = rmdir_refusals tree cred p
refusals_at g tree cred (call.Chmod path mode) (One p) = chmod_refusals tree cred p
refusals_at g tree cred (call.Chown path uid gid) (One p) = chown_refusals cred p
refusals_at g tree cred (call.Write path offset bytes) (One p) = write_refusals g tree cred p offset (length bytes)
refusals_at g tree cred (call.Trunc path size) (One p) = trunc_refusals tree cred p size
refusals_at g tree cred (call.Fsync path) (One p) = stat_refusals p
refusals_at g tree cred (call.Read path offset count) (One p) = read_refusals tree cred p
refusals_at g tree cred (call.Stat path) (One p) = stat_refusals p
refusals_at g tree cred (call.Lstat path) (One p) = stat_refusals p
refusals_at g tree cred (call.List path after) (One p) = list_refusals tree cred p
refusals_at g tree cred (call.Readlink path) (One p) = readlink_refusals tree p
refusals_at g tree cred other ends = []

-- what becomes of a call whose walks end so
unfoldable pub decision_at : Geometry → Tree → Cred → Call → WalkEnds → Decision
decision_at g tree cred call ends = first_of (refusals_at g tree cred call ends) Proceed
