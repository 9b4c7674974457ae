-- The steps up in the tree of directories, as a list of the inode above each.
use Rattle.std.specs.Prelude.{◌≡◌, ◌<◌, ℕ, zero, suc, ◌==◌, Bool, false, not, ◌&&◌, List, length, slice_index, slice_index_or, Option, None, Some}
use Rattle.std.specs.List.{range_with_len}
use Rattle.std.specs.Option.{option_map_or}
use Rattle.volume_model.specs.Format.{is_directory}
use Rattle.fsck_core.specs.declared.inodes.Brief.{Brief}
use Rattle.fsck_core.specs.declared.names.Namer.{Namer}
use Rattle.fsck_core.specs.declared.names.Namer.TheVariants.{Nobody, One, Many}
use Rattle.fsck_core.specs.declared.names.NameTables.{NameTables}

-- the record, if there is one, is a directory's
abbrev pub is_directory_record : Option Brief → Bool
is_directory_record inode = option_map_or (λ d. is_directory d.mode) inode false

-- Directory i has its one place in the tree, where these name it, this one is above it, and the steps up from it end at far:
-- it is the root, which nobody names and which is above itself; or one directory names it, which is above it, and the steps
-- up end at the root.
abbrev pub is_placed : ℕ → Namer → (above far : ℕ) → Bool
is_placed i Nobody above far = i == 2 && above == 2
is_placed i (One j) above far = not (i == 2) && (j == above && far == 2)
is_placed i Many above far = false

-- inode i is a directory that doesn't have its one place, where the steps up from each end at these
abbrev pub is_misplaced : List (Option Brief) → NameTables → (far : List ℕ) → ℕ → Bool
is_misplaced inodes t far i =
    is_directory_record (slice_index_or inodes i None) && not (is_placed i (slice_index_or t.namers.items i Nobody) (slice_index t.parents.items i) (slice_index far i))

-- the record, if there is one, has another number of links
abbrev pub has_other_links : Option Brief → ℕ → Bool
has_other_links inode links = option_map_or (λ d. not (d.links == links)) inode false

-- the inode to which so many steps up lead from inode i
abbrev pub stepped : (above : List ℕ) → (steps i : ℕ) → ℕ
stepped above zero i = i
stepped above (suc steps) i = stepped above steps (slice_index above i)

-- where the steps up lead that were taken from each of so many: none yet, or these
abbrev pub far_from : (count : ℕ) → Option (List ℕ) → List ℕ
far_from count None = range_with_len 0 count
far_from count (Some far) = far

-- each number of the list is a place in it
abbrev pub IsClosed : List ℕ → Type 0
IsClosed above = (i : ℕ) → i < length above → slice_index above i < length above

-- The second list says to which inode so many steps up lead from each, where the first says what is one step up.
pub record LeadsUp (above : List ℕ) (steps : ℕ) (far : List ℕ) : Type 0 where
  pub size : length far ≡ length above
  pub each : IsClosed above → (i : ℕ) → i < length above → slice_index far i ≡ stepped above steps i
