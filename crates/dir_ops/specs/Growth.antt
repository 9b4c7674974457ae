-- What is put into a change where a directory gets one chunk more.
use Rattle.std.specs.Prelude.{◌≡◌, ◌≢◌, ◌<◌, ℕ, ◌+◌, ◌*◌, ◌%◌, ◌^◌, List, [], ◌∷◌, slice_index, slice_set, Some}
use Rattle.lufs_base.specs.declared.geometry.Geometry.{Geometry}
use Rattle.volume_model.specs.declared.inode.Dinode.{Dinode}
use Rattle.volume_model.specs.declared.directory.Slot.{Slot}
use Rattle.volume_model.specs.Format.{dinode_bytes, chunk_bytes, numbers_bytes}
use Rattle.meta_store.specs.declared.change.Change.{Change}
use Rattle.meta_store.specs.Deltas.{inode_delta, chunk_delta, zero_delta, pointers_delta}
use Rattle.meta_draft.specs.Drafted.{with_delta}
use Rattle.dir_ops.specs.Slots.{chunk_of_directory}
use Rattle.dir_reads.specs.declared.directory.Directory.{Directory}

-- the record with room for one chunk more, and with so many blocks more
abbrev pub with_room : (more : ℕ) → Dinode → Dinode
with_room more d = record d { size = d.size + 512; blocks = d.blocks + more }

-- the same with a direct block, and with a pointer block
abbrev pub with_direct : (k b : ℕ) → Dinode → Dinode
with_direct k b d = record d { size = d.size + 512; blocks = d.blocks + 1; direct = slice_set d.direct k b }

abbrev pub with_pointer : (p : ℕ) → Dinode → Dinode
with_pointer p d = record d { size = d.size + 512; blocks = d.blocks + 2; indirect = slice_set d.indirect 0 p }

-- the change with the record of inode i
abbrev pub with_inode : Geometry → (i : ℕ) → Dinode → Change → Change
with_inode g i d change = with_delta change (inode_delta g i (dinode_bytes (Some d)))

-- the change with block b: zeros, and these slots as its first chunk
abbrev pub with_block : (b : ℕ) → List Slot → Change → Change
with_block b slots change = with_delta (with_delta change (zero_delta b)) (chunk_delta b 0 (chunk_bytes slots))

-- the change with b as a number of pointer block p
abbrev pub with_number : (p j b : ℕ) → Change → Change
with_number p j b change = with_delta change (pointers_delta p j (numbers_bytes (b ∷ [])))

-- the change in which the directory, which is inode i, has these slots as one chunk more in its last block
abbrev pub with_chunk_added : Geometry → (i : ℕ) → Directory → List Slot → Change → Change
with_chunk_added g i directory slots change =
    with_inode g i (with_room 0 directory.dinode) (with_delta change (chunk_of_directory directory directory.opened.count slots))

-- at the front of block b, which is its direct block k
abbrev pub with_block_added : Geometry → (i : ℕ) → Directory → (k b : ℕ) → List Slot → Change → Change
with_block_added g i directory k b slots change = with_inode g i (with_direct k b directory.dinode) (with_block b slots change)

-- at the front of block b, which is the first one of pointer block p
abbrev pub with_pointer_added : Geometry → (i : ℕ) → Directory → (b p : ℕ) → List Slot → Change → Change
with_pointer_added g i directory b p slots change =
    with_inode g i (with_pointer p directory.dinode) (with_block b slots (with_number p 0 b (with_delta change (zero_delta p))))

-- at the front of block b, which is number j of its pointer block
abbrev pub with_block_by_pointer : Geometry → (i : ℕ) → Directory → (j b : ℕ) → List Slot → Change → Change
with_block_by_pointer g i directory j b slots change =
    with_inode g i (with_room 1 directory.dinode) (with_number (slice_index directory.dinode.indirect 0) j b (with_block b slots change))

-- With one block that is given, the change is such a one, if the count of blocks has room.
abbrev pub AddsBlock : Geometry → (i : ℕ) → Directory → (k : ℕ) → List Slot → (fresh : List ℕ) → (old new : Change) → Type 0
AddsBlock g i directory k slots fresh old new = (b : ℕ) → fresh ≡ b ∷ [] → directory.dinode.blocks + 1 < 2 ^ 32 → new ≡ with_block_added g i directory k b slots old

abbrev pub AddsPointer : Geometry → (i : ℕ) → Directory → List Slot → (fresh : List ℕ) → (old new : Change) → Type 0
AddsPointer g i directory slots fresh old new = (b p : ℕ) → fresh ≡ b ∷ p ∷ [] → directory.dinode.blocks + 2 < 2 ^ 32 → new ≡ with_pointer_added g i directory b p slots old

abbrev pub AddsByPointer : Geometry → (i : ℕ) → Directory → (j : ℕ) → List Slot → (fresh : List ℕ) → (old new : Change) → Type 0
AddsByPointer g i directory j slots fresh old new = (b : ℕ) → fresh ≡ b ∷ [] → directory.dinode.blocks + 1 < 2 ^ 32 → slice_index directory.dinode.indirect 0 ≢ 0
    → new ≡ with_block_by_pointer g i directory j b slots old

-- by the number of chunks that there are
pub record Grows (g : Geometry) (i : ℕ) (directory : Directory) (slots : List Slot) (fresh : List ℕ) (old new : Change) : Type 0 where
  pub in_block : directory.opened.count < 2048 → directory.opened.count % 8 ≢ 0 → new ≡ with_chunk_added g i directory slots old
  pub by_record : (k : ℕ) → directory.opened.count ≡ 8 * k → k < 12 → AddsBlock g i directory k slots fresh old new
  pub with_first : directory.opened.count ≡ 96 → AddsPointer g i directory slots fresh old new
  pub by_pointer : (j : ℕ) → directory.opened.count ≡ 8 * (12 + j) → 0 < j → 12 + j < 256 → AddsByPointer g i directory j slots fresh old new
