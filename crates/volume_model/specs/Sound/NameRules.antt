-- The rules of a sound volume about names: the slots of directories, what they name, the tree, and the links. They are
-- rules on what a reading and a tree both say of names.
use Rattle.std.specs.Prelude.{ℕ, zero, suc, ◌==◌, Bool, false, not, ◌&&◌, ◌||◌, if◌then◌else◌, List, [], ◌∷◌, map, bytes_eq, sum_by, Option, Some, None, is_some, option_map, unwrap_or, slice_get}
use Rattle.std.specs.List.{list_all, list_any, filter, flat_map, count_by, range_with_len}
use Rattle.std.specs.Option.{option_map_or}
use Rattle.volume_model.specs.declared.directory.Slot.{Slot}
use Rattle.volume_model.specs.Format.{is_directory}
use Rattle.volume_model.specs.Sound.Readings.{Reading, UsedInode, inodes_in, used_at}

-- What there is of names at each inode number: None where no inode is in use, Some None where it is no directory, and the
-- slots of a directory, chunk by chunk.
abbrev pub Names : Type 0
Names = ℕ → Option (Option (List Slot))

-- the slots of an inode in use, if it is a directory; a chunk that is none has none
abbrev pub slots_of : UsedInode → Option (List Slot)
slots_of u = if is_directory u.inode.mode then Some (flat_map (λ chunk. unwrap_or chunk []) u.chunks) else None

abbrev pub names_in_reading : Reading → Names
names_in_reading r i = option_map slots_of (used_at r i)

-- the names of a directory itself and of the one above it
abbrev pub dot : List ℕ
dot = 46 ∷ []

abbrev pub dot_dot : List ℕ
dot_dot = 46 ∷ 46 ∷ []

-- inode i is in use; it is a directory
abbrev pub is_used_in : Names → ℕ → Bool
is_used_in m i = is_some (m i)

abbrev pub is_directory_in : Names → ℕ → Bool
is_directory_in m i = option_map_or is_some (m i) false

-- the slots of directory i; none where it is no directory
abbrev pub slots_at : Names → ℕ → List Slot
slots_at m i = option_map_or (λ slots. unwrap_or slots []) (m i) []

-- those in use
abbrev pub names_at : Names → ℕ → List Slot
names_at m i = filter (λ s. not (s.ino == 0)) (slots_at m i)

-- those in use but the directory itself and the one above it
abbrev pub entries_at : Names → ℕ → List Slot
entries_at m i = filter (λ s. not (bytes_eq s.name dot || bytes_eq s.name dot_dot)) (names_at m i)

-- the directory that directory i has as the one above it
abbrev pub parent_at : Names → ℕ → ℕ
parent_at m i = option_map_or (λ s. s.ino) (slice_get (slots_at m i) 1) 0

-- the inode of this number is no directory in use
abbrev pub is_no_directory : Names → ℕ → Bool
is_no_directory m i = not (is_directory_in m i)

-- the first two slots are the directory itself, in 12 bytes, and the one above it
abbrev pub begins_right : ℕ → List Slot → Bool
begins_right i [] = false
begins_right i (s ∷ []) = false
begins_right i (s ∷ (t ∷ slots)) =
    bytes_eq s.name dot && s.len == 12 && s.ino == i && bytes_eq t.name dot_dot

-- two of the slots have the same name
abbrev pub has_twice : List Slot → Bool
has_twice [] = false
has_twice (s ∷ slots) = list_any (λ t. bytes_eq s.name t.name) slots || has_twice slots

-- inode i is a directory that doesn't begin as it should, or that has a name twice
abbrev pub has_bad_slots : Names → ℕ → Bool
has_bad_slots m i = is_directory_in m i && not (begins_right i (slots_at m i) && not (has_twice (names_at m i)))

-- directory i names an inode that isn't in use
abbrev pub names_unused : Names → ℕ → Bool
names_unused m i = list_any (λ s. not (is_used_in m s.ino)) (names_at m i)

-- of n inodes the directories that name inode i, each as often as it does, not counting a directory itself and the one
-- above it
abbrev pub namers_of : (n : ℕ) → Names → ℕ → List ℕ
namers_of n m i = flat_map (λ j. map (λ s. j) (filter (λ s. s.ino == i) (entries_at m j))) (range_with_len 0 n)

-- the directory to which so many steps up lead from directory i
abbrev pub ancestor_of : Names → ℕ → ℕ → ℕ
ancestor_of m zero i = i
ancestor_of m (suc steps) i = ancestor_of m steps (parent_at m i)

-- The steps up from directory i lead to the root. Without a circle they are fewer than there are inodes.
abbrev pub leads_to_root : (n : ℕ) → Names → ℕ → Bool
leads_to_root n m i = list_any (λ steps. ancestor_of m steps i == 2) (range_with_len 0 n)

-- Directory i is the root, which no directory names and which is above itself; or one directory names it, once, which it
-- has as the one above it, and the steps up lead to the root.
abbrev pub has_right_parent : (n : ℕ) → Names → ℕ → Bool
has_right_parent n m i =
    if i == 2 then bytes_eq (namers_of n m i) [] && parent_at m i == 2
    else bytes_eq (namers_of n m i) (parent_at m i ∷ []) && leads_to_root n m i

abbrev pub has_bad_parent : (n : ℕ) → Names → ℕ → Bool
has_bad_parent n m i = is_directory_in m i && not (has_right_parent n m i)

-- how many slots name inode i
abbrev pub links_to : (n : ℕ) → Names → ℕ → ℕ
links_to n m i = sum_by (λ j. count_by (λ s. s.ino == i) (names_at m j)) (range_with_len 0 n)

-- inode i has bytes that should be a chunk and are none
abbrev pub has_bad_bytes : Reading → ℕ → Bool
has_bad_bytes r i = option_map_or (λ u. not (list_all is_some u.chunks)) (used_at r i) false

-- so it is, or it is a directory with bad slots
abbrev pub has_bad_chunk : Reading → ℕ → Bool
has_bad_chunk r i = has_bad_bytes r i || has_bad_slots (names_in_reading r) i

-- inode i is in use, and its record has another number of links
abbrev pub has_bad_links : Reading → ℕ → Bool
has_bad_links r i = option_map_or (λ u. not (u.inode.links == links_to (inodes_in r) (names_in_reading r) i)) (used_at r i) false
