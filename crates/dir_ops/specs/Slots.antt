-- The slots of a chunk that are put into a change.
use Rattle.std.specs.Prelude.{◌≡◌, ◌/◌, ◌%◌, ℕ, List, slice_index, Option, IfSome}
use Rattle.lufs_base.specs.declared.delta.Delta.{Delta}
use Rattle.volume_model.specs.declared.directory.Slot.{Slot}
use Rattle.volume_model.specs.Format.{found_at, IsChunk, chunk_bytes, with_name}
use Rattle.meta_store.specs.declared.change.Change.{Change}
use Rattle.meta_store.specs.Deltas.{chunk_delta}
use Rattle.meta_draft.specs.Drafted.{with_delta}
use Rattle.dir_reads.specs.declared.directory.Directory.{Directory}
use Rattle.dir_reads.specs.declared.directory.Found.{Found}
use Rattle.dir_ops.specs.Edits.{slot_changed}

-- the delta of chunk k of a directory
abbrev pub chunk_of_directory : Directory → (k : ℕ) → List Slot → Delta
chunk_of_directory directory k slots = chunk_delta (slice_index directory.opened.numbers.items (k / 8)) (k % 8) (chunk_bytes slots)

-- The change has these slots in the place of the found chunk.
pub record PutsChunk (directory : Directory) (found : Found) (slots : List Slot) (old new : Change) : Type 0 where
  pub chunk : IsChunk slots
  pub put : new ≡ with_delta old (chunk_of_directory directory found.place slots)

-- The change has the found chunk with its first slot with the name changed.
abbrev pub PutsSlot : Directory → Found → (name : List ℕ) → (to : Option ℕ) → (old new : Change) → Type 0
PutsSlot directory found name to old new = IfSome (found_at found.chunk name) (λ place. PutsChunk directory found (slot_changed to found.chunk place) old new)

-- The change has the found chunk with the name entered for inode i.
abbrev pub PutsName : Directory → Found → (name : List ℕ) → (i : ℕ) → (old new : Change) → Type 0
PutsName directory found name i old new = PutsChunk directory found (with_name found.chunk name i) old new
