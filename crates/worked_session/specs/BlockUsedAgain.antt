-- A session in which a file gets the block of a directory that was removed.
use Rattle.std.specs.Prelude.{◌≡◌, ℕ, true, [], ◌∷◌, map, slice_index, Some, is_some}
use Rattle.volume_model.specs.Format.{is_directory}
use Rattle.volume_model.specs.Sound.{UsedInode, Reading, used_at}
use Rattle.volume_model.specs.Worked.{smallest}
use Rattle.history_model.specs.WorkedTrees.{new_tree}
use Rattle.journal_model.specs.Versions.{Published}
use Rattle.history_laws.specs.Named.{named_block}
use Rattle.history_laws.specs.Volumes.{Volume, readings_of}
use Rattle.history_laws.specs.Sessions.{Session}
use Rattle.history_laws.specs.WorkedSession.{Times, five_entries, new_disk, committed_at}
use Rattle.worked_session.specs.Stages.{Leads}

-- inode i is a directory, and b is the first of its blocks
pub record IsDirectoryIn (r : Reading) (i b : ℕ) : Type 0 where
  pub inode : UsedInode
  pub used : used_at r i ≡ Some inode
  pub directory : is_directory inode.inode.mode ≡ true
  pub first : slice_index inode.numbers 0 ≡ b

-- A session of the worked new volume with just the five entries and the commits 1, 2 and 5, in which the fsync was told. After the
-- first commit, on the way to its end, the published version has a directory in block 38, and at the end a file.
pub record BlockUsedAgain : Type 0 where
  pub when : ℕ → Times
  pub end : Volume
  pub session : Session smallest 1000 new_tree new_disk end
  pub entries : end.h.entries ≡ five_entries when
  pub commits : map (λ c. c.boundary) end.h.commits ≡ committed_at
  pub told : is_some (when 5).told ≡ true
  pub middle : Volume
  pub began : Session smallest 1000 new_tree new_disk middle
  pub goes_on : Leads middle end
  pub first_commit : map (λ c. c.boundary) middle.h.commits ≡ 1 ∷ []
  pub directory : IsDirectoryIn (readings_of smallest middle Published) 3 38
  pub file : named_block (readings_of smallest end Published) 3 0 ≡ Some 38
