-- What a check keeps of the records of a volume.
use Rattle.std.specs.Prelude.{◌≡◌, ◌<◌, ℕ, ◌+◌, ◌*◌, List, length, map, slice_get, Option, Some}
use Rattle.std.specs.List.{range_with_len}
use Rattle.lufs_base.specs.Layout.{group_start}
use Rattle.lufs_base.specs.declared.geometry.Geometry.{Geometry}
use Rattle.volume_model.specs.declared.inode.Dinode.{Dinode}
use Rattle.volume_model.specs.Format.{Blocks, block}
use Rattle.volume_model.specs.Sound.{group_at, inode_at}
use Rattle.cyl_groups.specs.declared.group.Group.{Group}
use Rattle.cyl_groups.specs.Group.{record_of}

-- these are the records of the first groups
abbrev pub AreGroups : Geometry → Blocks → List Group → Type 0
AreGroups g blocks groups = map (group_at g blocks) (range_with_len 0 (length groups)) ≡ map (λ x. Some (record_of x)) groups

-- These are the records of the first inodes, None of one that isn't in use, as the inodes 0 and 1.
pub record AreInodes (g : Geometry) (blocks : Blocks) (inodes : List (Option Dinode)) : Type 0 where
  pub records : map (inode_at g blocks) (range_with_len 0 (length inodes)) ≡ map (λ d. Some d) inodes
  pub reserved : (i : ℕ) (d : Dinode) → i < 2 → slice_get inodes i ≡ Some (Some d) → ⊥

-- the bytes are those of the blocks with the inode records of group n
abbrev pub AreOfGroup : Geometry → Blocks → ℕ → List ℕ → Type 0
AreOfGroup g blocks n bytes = (k : ℕ) → 4096 * k < length bytes → block bytes k ≡ blocks (group_start g n + 1 + k)
