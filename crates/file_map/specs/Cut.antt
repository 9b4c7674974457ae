-- A file gets another size.
use Rattle.std.specs.Prelude.{◌≡◌, ◌<◌, ◌≤◌, ℕ, ◌+◌, ◌-◌, ◌==◌, nat_le, Bool, true, false, not, if◌then◌else◌, List, [], ◌∷◌, ◌++◌, map, take, replicate, slice_index, slice_set, Option, Some, None, IfSome}
use Rattle.std.specs.List.{filter, range_with_len}
use Rattle.lufs_base.specs.declared.geometry.Geometry.{Geometry}
use Rattle.volume_model.specs.declared.inode.Dinode.{Dinode}
use Rattle.volume_model.specs.declared.hand.Hand.{Hand}
use Rattle.volume_model.specs.Format.{Image, block, numbers_bytes}
use Rattle.volume_model.specs.Sound.{direct_blocks, reading_of, used_at, used_inode, size_in_blocks, FileNode, File, tree_of}
use Rattle.history_model.specs.FileBytes.{direct_size, at_length}
use Rattle.meta_store.specs.declared.change.Change.{Change}
use Rattle.meta_store.specs.declared.change.Freed.{Freed}
use Rattle.meta_store.specs.Store.{StoreTold}
use Rattle.meta_store.specs.Deltas.{pointers_delta}
use Rattle.meta_draft.specs.Drafted.{drafted_blocks, with_delta}
use Rattle.draft_laws.specs.Drafts.{IsDraft, Draws, links_at}
use Rattle.file_map.specs.Attached.{with_record}

-- The file with another size: it has just the blocks below it, with holes where there were fewer, and its pointer block only
-- where it needs more than the direct blocks.
abbrev pub with_size : FileNode → (size : ℕ) → FileNode
with_size file size = record file {
  size = size;
  blocks = at_length (size_in_blocks size) file.blocks;
  pointers = if nat_le size direct_size then [] else file.pointers;
}

-- the record with another size, and so many blocks fewer
abbrev pub sized : Dinode → (size lost : ℕ) → Dinode
sized d size lost = record d { size = size; blocks = d.blocks - lost }

-- the same with just the first direct blocks, and without a pointer block
abbrev pub sized_to_direct : Dinode → (size lost kept : ℕ) → Dinode
sized_to_direct d size lost kept = record d {
  size = size;
  direct = take kept d.direct ++ replicate (direct_blocks - kept) 0;
  indirect = slice_set d.indirect 0 0;
  blocks = d.blocks - lost;
}

-- a block that goes, if the number isn't 0
abbrev pub lost_block : (meta : Bool) → (number : ℕ) → List Freed
lost_block meta number = if number == 0 then [] else record { block = record { 0 = number }; meta = meta } ∷ []

-- the blocks of a file with these numbers from an index on, if the number isn't 0
abbrev pub lost_from : (numbers : List ℕ) → (kept past : ℕ) → List Freed
lost_from numbers kept past =
    map (λ k. record { block = record { 0 = slice_index numbers k }; meta = false }) (filter (λ k. not (slice_index numbers k == 0)) (range_with_len kept (past - kept)))

-- the same, and before them the pointer block, where the direct blocks are enough for what is left
abbrev pub lost : Dinode → (numbers : List ℕ) → (kept past : ℕ) → List Freed
lost d numbers kept past = (if nat_le kept direct_blocks then lost_block true (slice_index d.indirect 0) else []) ++ lost_from numbers kept past

-- the change in which numbers of the pointer block are cleared, and the record of inode i says its size
abbrev pub with_numbers_cleared : Geometry → Change → (i : ℕ) → Dinode → (size lost entry count : ℕ) → Change
with_numbers_cleared g change i d size lost entry count =
    with_record g (with_delta change (pointers_delta (slice_index d.indirect 0) entry (numbers_bytes (replicate count 0)))) i (sized d size lost)

-- The new change has the inode of this record cut to its first blocks, which were as many as `past` says.
pub record PutsCut (g : Geometry) (old new : Change) (i : ℕ) (d : Dinode) (size lost kept past : ℕ) : Type 0 where
  pub direct : kept ≤ direct_blocks → new ≡ with_record g old i (sized_to_direct d size lost kept)
  pub alone : direct_blocks < kept → (slice_index d.indirect 0 == 0) ≡ true → new ≡ with_record g old i (sized d size lost)
  pub by_pointer : direct_blocks < kept → (slice_index d.indirect 0 == 0) ≡ false → new ≡ with_numbers_cleared g old i d size lost (kept - direct_blocks) (past - kept)

-- Where the content is told, a file with this record, which loses blocks, has another size, and these are given up. The call changed
-- nothing of it before.
abbrev pub IsShortened : StoreTold → (old new : Change) → (i : ℕ) → Dinode → (size : ℕ) → Type 0
IsShortened told old new i d size =
    IfSome told.content (λ base. (taken : ℕ → Bool) (hands : List Hand) (file : FileNode) → IsDraft told.geometry base taken old hands
    → used_at (reading_of told.geometry (drafted_blocks old base)) i ≡ Some (used_inode (drafted_blocks old base) d) → tree_of told.geometry (drafted_blocks old base) i ≡ Some (File file)
    → used_at (reading_of told.geometry (block base)) i ≡ used_at (reading_of told.geometry (drafted_blocks old base)) i
    → Draws told.geometry base taken old new i (Some (File (with_size file size))) (links_at told.geometry (drafted_blocks old base) i) hands)

-- Where the content is told, a file has another size, and what it doesn't need for that is given up. Of an inode that loses blocks the
-- call changed nothing before.
abbrev pub IsCut : StoreTold → (old new : Change) → (i size : ℕ) → Type 0
IsCut told old new i size =
    IfSome told.content (λ base. (taken : ℕ → Bool) (hands : List Hand) (file : FileNode) → IsDraft told.geometry base taken old hands
    → tree_of told.geometry (drafted_blocks old base) i ≡ Some (File file)
    → (size_in_blocks size < size_in_blocks file.size → used_at (reading_of told.geometry (block base)) i ≡ used_at (reading_of told.geometry (drafted_blocks old base)) i)
    → Draws told.geometry base taken old new i (Some (File (with_size file size))) (links_at told.geometry (drafted_blocks old base) i) hands)
