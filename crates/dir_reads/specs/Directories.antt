-- A directory that is opened to be changed, and the first chunk of it that serves.
use Rattle.std.specs.Prelude.{◌≡◌, ◌<◌, ◌/◌, ℕ, Bool, true, false, List, [], map, slice_index, Option, Some, None, unwrap_or, is_some}
use Rattle.lufs_base.specs.declared.geometry.Geometry.{Geometry}
use Rattle.volume_model.specs.declared.inode.Dinode.{Dinode}
use Rattle.volume_model.specs.declared.directory.Slot.{Slot}
use Rattle.volume_model.specs.Format.{Blocks, is_directory, found_at, room_in}
use Rattle.volume_model.specs.Sound.{reading_of, inode_at, chunk_at, chunks_at, used_inode, numbers_of, has_right_numbers, has_bad_numbers, tree_of}
use Rattle.history_model.specs.Places.{is_directory_in}
use Rattle.dir_reads.specs.Chunks.{slots_of_chunk, chunks_of}
use Rattle.dir_reads.specs.declared.directory.Directory.{Directory}
use Rattle.dir_reads.specs.declared.directory.Found.{Found}
use Rattle.dir_reads.specs.declared.directory.Wanted.{Wanted}
use Rattle.dir_reads.specs.declared.directory.Wanted.TheVariants.{Named, Roomy}

-- It has the record of inode i, and the chunks and the numbers of the blocks of that record.
pub record HasDirectory (g : Geometry) (blocks : Blocks) (i : ℕ) (directory : Directory) : Type 0 where
  pub there : inode_at g blocks i ≡ Some (Some directory.dinode)
  pub mode : is_directory directory.dinode.mode ≡ true
  pub count : directory.opened.count ≡ directory.dinode.size / 512
  pub chunks : map (λ chunk. unwrap_or chunk []) (chunks_at blocks directory.dinode) ≡ chunks_of blocks directory.opened
  pub numbers : (k : ℕ) → slice_index directory.opened.numbers.items k ≡ slice_index (numbers_of blocks directory.dinode) k

-- inode i is this directory, or none
abbrev pub IsThisDirectory : Geometry → Blocks → (i : ℕ) → Option Directory → Type 0
IsThisDirectory g blocks i None = is_directory_in (tree_of g blocks) i ≡ false
IsThisDirectory g blocks i (Some directory) = HasDirectory g blocks i directory

-- It is the record of directory i, and its numbers are right.
pub record IsRightRecord (g : Geometry) (blocks : Blocks) (i : ℕ) (d : Dinode) : Type 0 where
  pub there : inode_at g blocks i ≡ Some (Some d)
  pub mode : is_directory d.mode ≡ true
  pub right : has_right_numbers g i (used_inode blocks d) ≡ true

-- the directory of this record, whichever inode's it is
abbrev pub IsOfRecord : Geometry → Blocks → Dinode → Option Directory → Type 0
IsOfRecord g blocks d found = (i : ℕ) → IsRightRecord g blocks i d → IsThisDirectory g blocks i found

-- inode i is this directory, or none, if no number in its record is wrong
abbrev pub IsDirectoryRead : Geometry → Blocks → (i : ℕ) → Option Directory → Type 0
IsDirectoryRead g blocks i found = has_bad_numbers g (reading_of g blocks) i ≡ false → IsThisDirectory g blocks i found

-- the chunk has a slot with the name, or room for it
abbrev pub serves : Wanted → (name : List ℕ) → List Slot → Bool
serves Named name slots = is_some (found_at slots name)
serves Roomy name slots = is_some (room_in slots name)

-- chunk k of these is the first one that passes the test
pub record IsFirstAt (test : List Slot → Bool) (blocks : Blocks) (numbers : List ℕ) (found : Found) : Type 0 where
  pub chunk : Some found.chunk ≡ chunk_at blocks numbers found.place
  pub before : (k : ℕ) → k < found.place → test (slots_of_chunk blocks numbers k) ≡ false

-- the first one of so many chunks that passes the test, or none does
abbrev pub IsFirst : (test : List Slot → Bool) → Blocks → (numbers : List ℕ) → (count : ℕ) → Option Found → Type 0
IsFirst test blocks numbers count None = (k : ℕ) → k < count → test (slots_of_chunk blocks numbers k) ≡ false
IsFirst test blocks numbers count (Some found) = IsFirstAt test blocks numbers found
