-- The chunks of a directory as they are read.
use Rattle.std.specs.Prelude.{◌≡◌, ℕ, false, find, option_map, if◌then◌else◌, List, [], map, Option, Some, None, unwrap_or, IfSome}
use Rattle.std.specs.List.{flat_map, range_with_len}
use Rattle.std.specs.Option.{option_flatten}
use Rattle.lufs_base.specs.declared.geometry.Geometry.{Geometry}
use Rattle.volume_model.specs.declared.inode.Dinode.{Dinode}
use Rattle.volume_model.specs.declared.directory.Slot.{Slot}
use Rattle.volume_model.specs.Format.{Blocks, Image, block, is_directory}
use Rattle.volume_model.specs.Sound.{reading_of, inode_at, chunk_at, has_bad_numbers, tree_of}
use Rattle.history_model.specs.Places.{chunks_in, has_name}
use Rattle.dir_reads.specs.declared.chunk_list.Opened.{Opened}

-- the record, if it is that of a directory
abbrev pub only_directory : Option Dinode → Option Dinode
only_directory None = None
only_directory (Some d) = if is_directory d.mode then Some d else None

-- the record of inode i, if it is a directory
abbrev pub directory_at : Geometry → Blocks → ℕ → Option Dinode
directory_at g blocks i = only_directory (option_flatten (inode_at g blocks i))

-- the slots of chunk k of a directory with these numbers; none where it is no chunk
abbrev pub slots_of_chunk : Blocks → (numbers : List ℕ) → ℕ → List Slot
slots_of_chunk blocks numbers k = unwrap_or (chunk_at blocks numbers k) []

-- those of `count` chunks, from one on
abbrev pub chunks_from : Blocks → (numbers : List ℕ) → (first count : ℕ) → List (List Slot)
chunks_from blocks numbers first count = map (slots_of_chunk blocks numbers) (range_with_len first count)

-- the chunks of a directory that was opened
abbrev pub chunks_of : Blocks → Opened → List (List Slot)
chunks_of blocks opened = chunks_from blocks opened.numbers.items 0 opened.count

-- the inode of the first slot in use with this name
abbrev pub first_inode : (name : List ℕ) → List Slot → Option ℕ
first_inode name slots = option_map (λ s. s.ino) (find (has_name name) slots)

-- the slots of these chunks
abbrev pub slots_in : List (List Slot) → List Slot
slots_in chunks = flat_map (λ chunk. chunk) chunks

-- It is directory i of this volume that was opened, if no number in the record of that inode is wrong.
abbrev pub IsOpened : Geometry → Blocks → ℕ → Opened → Type 0
IsOpened g blocks i opened = has_bad_numbers g (reading_of g blocks) i ≡ false → chunks_in (tree_of g blocks) i ≡ chunks_of blocks opened

-- the bytes are those of the block of this number, if there is one
abbrev pub AreOfBlock : Option Image → Option ℕ → List ℕ → Type 0
AreOfBlock content number bytes = IfSome content (λ image. IfSome number (λ b. bytes ≡ block image b))
