-- What a check keeps of the names of a volume.
use Rattle.std.specs.Prelude.{◌≡◌, ◌<◌, ◌≤◌, ℕ, ◌+◌, ◌-◌, ◌^◌, ◌==◌, min, Bool, ◌||◌, bytes_eq, if◌then◌else◌, List, [], ◌∷◌, length, slice_index, slice_get, slice_index_or, slice_set}
use Rattle.std.specs.Option.{option_map_or}
use Rattle.volume_model.specs.declared.directory.Slot.{Slot}
use Rattle.volume_model.specs.Sound.{Names, dot, dot_dot, namers_of, links_to, parent_at}
use Rattle.fsck_core.specs.declared.names.Namer.{Namer}
use Rattle.fsck_core.specs.declared.names.Namer.TheVariants.{Nobody, One, Many}
use Rattle.fsck_core.specs.declared.names.NameTables.{NameTables}

-- which directories name an inode: none, one of them once, or more
abbrev pub namer_in : List ℕ → Namer
namer_in [] = Nobody
namer_in (j ∷ []) = One j
namer_in (j ∷ (k ∷ more)) = Many

-- as directory i names the inode once more
abbrev pub with_namer : Namer → ℕ → Namer
with_namer Nobody i = One i
with_namer (One j) i = Many
with_namer Many i = Many

-- the slot has the name of the directory itself or of the one above it
abbrev pub is_dot : Slot → Bool
is_dot s = bytes_eq s.name dot || bytes_eq s.name dot_dot

-- the most links that the tables can say, in a number of 32 bits
abbrev pub most_links : ℕ
most_links = 2 ^ 32 - 1

-- the directory above each inode, with the one that the slots of directory i say
abbrev pub with_parent : ℕ → List Slot → List ℕ → List ℕ
with_parent i slots parents = option_map_or (λ s. slice_set parents i s.ino) (slice_get slots 1) parents

-- the numbers of links, with the one that a slot in use gives
abbrev pub with_link : List ℕ → Slot → List ℕ
with_link links s = if s.ino == 0 then links else slice_set links s.ino (min (slice_index links s.ino + 1) most_links)

-- who names each inode, with what a slot of directory i says
abbrev pub with_name : ℕ → List Namer → Slot → List Namer
with_name i namers s =
    if s.ino == 0 then namers else (if is_dot s then namers else slice_set namers s.ino (with_namer (slice_index_or namers s.ino Nobody) i))

-- there is an entry for each of n inodes
pub record HasSizes (n : ℕ) (t : NameTables) : Type 0 where
  pub links : length t.links.items ≡ n
  pub namers : length t.namers.items ≡ n
  pub parents : length t.parents.items ≡ n

-- Of n inodes the first so many were looked at. Of each inode: how many slots of theirs name it, as far as a number of 32
-- bits goes, which of them name it besides `.` and `..`, and, if it was looked at, the directory above it.
pub record HasNames (n seen : ℕ) (m : Names) (t : NameTables) : Type 0 where
  pub sizes : HasSizes n t
  pub links : (i : ℕ) → i < n → slice_index t.links.items i ≡ min (links_to seen m i) most_links
  pub namers : (i : ℕ) → i < n → slice_index_or t.namers.items i Nobody ≡ namer_in (namers_of seen m i)
  pub parents : (i : ℕ) → i < seen → slice_index t.parents.items i ≡ parent_at m i
  pub unseen : (i : ℕ) → seen ≤ i → i < n → slice_index t.parents.items i ≡ 0
