-- What a check has seen of the inodes of a volume.
use Rattle.std.specs.Prelude.{◌≡◌, ◌<◌, ℕ, ◌*◌, true, false, List, [], ◌++◌, length, find, Option, Some, None}
use Rattle.std.specs.List.{list_all, range_with_len}
use Rattle.std.specs.Option.{is_some}
use Rattle.lufs_base.specs.Layout.{blocks_of}
use Rattle.lufs_base.specs.declared.geometry.Geometry.{Geometry}
use Rattle.volume_model.specs.declared.directory.Slot.{Slot}
use Rattle.volume_model.specs.declared.finding.Kind.TheVariants.{Group as of_groups}
use Rattle.volume_model.specs.declared.inode.Dinode.{Dinode}
use Rattle.volume_model.specs.Format.{Blocks, inodes_of}
use Rattle.volume_model.specs.Sound.{Reading, reading_of, inode_at, names_in_reading, slots_at, is_used_in, has_bad_bytes, has_bad_fields, has_bad_chunk, is_directory_in, names_unused, first_of_kind}
use Rattle.fsck_core.specs.Claimed.{HasClaimed}
use Rattle.fsck_core.specs.Inodes.{AreBriefs, is_settled, settled_blocks, other_blocks}
use Rattle.fsck_core.specs.NameTables.{HasSizes, HasNames}
use Rattle.fsck_core.specs.Slots.{is_used_among, AreSlots}
use Rattle.fsck_core.specs.declared.inodes.Brief.{Brief}
use Rattle.fsck_core.specs.declared.survey.Survey.{Survey}

-- Of the directories among the first so many inodes: the first with a bad chunk; and while there is none, the first that
-- names an inode that isn't in use, and what their names say.
pub record HasSeenNames (n seen : ℕ) (r : Reading) (s : Survey) : Type 0 where
  pub chunk : s.bad_chunk ≡ find (has_bad_chunk r) (range_with_len 0 seen)
  pub name : s.bad_chunk ≡ None → s.bad_name ≡ find (names_unused (names_in_reading r)) (range_with_len 0 seen)
  pub tables : s.bad_chunk ≡ None → HasNames n seen (names_in_reading r) s.names

-- Of the first so many inodes, and of all that are settled: their fields are right, these blocks are claimed, and while none
-- is claimed twice, these are the names.
pub record IsSurvey (g : Geometry) (r : Reading) (seen : ℕ) (s : Survey) : Type 0 where
  pub fields : (i : ℕ) → i < seen → has_bad_fields g r i ≡ false
  pub claimed : HasClaimed (blocks_of g) (settled_blocks g r (inodes_of g) ++ other_blocks g r seen) s.claims
  pub names : s.claims.twice ≡ None → HasSeenNames (inodes_of g) seen r s

-- There is room for what the inodes claim and name.
pub record HasRoom (g : Geometry) (s : Survey) : Type 0 where
  pub blocks : blocks_of g < 8 * length s.claims.bits.items
  pub names : HasSizes (inodes_of g) s.names

-- These are the briefs of the inodes, and each group has its record.
pub record Knows (g : Geometry) (blocks : Blocks) (briefs : List (Option Brief)) : Type 0 where
  pub briefs_are : AreBriefs g blocks briefs
  pub size : length briefs ≡ inodes_of g
  pub groups : first_of_kind g (reading_of g blocks) [] of_groups ≡ None

-- This is the record of inode i, which is in use and isn't settled.
pub record IsHere (g : Geometry) (blocks : Blocks) (briefs : List (Option Brief)) (i : ℕ) (d : Dinode) : Type 0 where
  pub knows : Knows g blocks briefs
  pub inside : i < inodes_of g
  pub here : inode_at g blocks i ≡ Some (Some d)
  pub unsettled : is_settled g d ≡ false

-- These are the slots of inode i, one of n: a directory all of whose bytes are chunks. The list says which inodes are in
-- use.
pub record AreSlotsOf (n : ℕ) (r : Reading) (briefs : List (Option Brief)) (i : ℕ) (slots : List Slot) : Type 0 where
  pub inside : i < n
  pub used : (j : ℕ) → is_used_in (names_in_reading r) j ≡ is_used_among briefs j
  pub bytes : has_bad_bytes r i ≡ false
  pub directory : is_directory_in (names_in_reading r) i ≡ true
  pub slots_are : slots_at (names_in_reading r) i ≡ slots

-- These are the chunks of inode i, one of n, which is a directory.
pub record AreChunksOf (n : ℕ) (r : Reading) (briefs : List (Option Brief)) (i : ℕ) (chunks : List (Option (List Slot))) : Type 0 where
  pub bad : list_all is_some chunks ≡ false → has_bad_bytes r i ≡ true
  pub good : (slots : List Slot) → AreSlots chunks (Some slots) → AreSlotsOf n r briefs i slots
