-- A file gets a block at an index where it has a hole, and before that the pointer block that it lacks there.
use Rattle.std.specs.Prelude.{◌≡◌, ◌≢◌, ◌≤◌, ◌<◌, ℕ, ◌+◌, min, ◌==◌, nat_le, Bool, false, ◌&&◌, if◌then◌else◌, List, [], ◌∷◌, length, take, slice_index, slice_set, All, Some, None, IfSome}
use Rattle.lufs_base.specs.declared.geometry.Geometry.{Geometry}
use Rattle.volume_model.specs.declared.inode.Dinode.{Dinode}
use Rattle.volume_model.specs.declared.hand.Hand.{Hand}
use Rattle.volume_model.specs.Format.{Image, dinode_bytes, numbers_bytes}
use Rattle.volume_model.specs.Sound.{direct_blocks, pointers_of_block, Single, size_in_blocks, FileNode, File, tree_of}
use Rattle.change_laws.specs.Plans.{HoldMore}
use Rattle.history_model.specs.FileBytes.{block_at}
use Rattle.meta_store.specs.declared.change.Change.{Change}
use Rattle.meta_store.specs.Store.{StoreTold}
use Rattle.meta_store.specs.Deltas.{inode_delta, pointers_delta, zero_delta}
use Rattle.meta_draft.specs.Drafted.{drafted_blocks, with_delta}
use Rattle.draft_laws.specs.Drafts.{IsDraft, Draws, links_at, IsNewBlock, MayAttach}

-- one more block, as far as 32 bits count
abbrev pub one_more : ℕ → ℕ
one_more blocks = min (blocks + 1) 4294967295

-- the record with one block more; the same with a block at a direct index, and with a pointer block
abbrev pub with_one_more : Dinode → Dinode
with_one_more d = record d { blocks = one_more d.blocks }

abbrev pub with_direct : Dinode → (index b : ℕ) → Dinode
with_direct d index b = record d { direct = slice_set d.direct index b; blocks = one_more d.blocks }

abbrev pub with_pointers : Dinode → (p : ℕ) → Dinode
with_pointers d p = record d { indirect = slice_set d.indirect 0 p; blocks = one_more d.blocks }

-- the change with the record of inode i
abbrev pub with_record : Geometry → Change → (i : ℕ) → Dinode → Change
with_record g change i d = with_delta change (inode_delta g i (dinode_bytes (Some d)))

-- the change with block b at a direct index of inode i
abbrev pub with_block_put : Geometry → Change → (i : ℕ) → Dinode → (index b : ℕ) → Change
with_block_put g change i d index b = with_record g change i (with_direct d index b)

-- the change with block b in an entry of the pointer block of inode i
abbrev pub with_entry_put : Geometry → Change → (i : ℕ) → Dinode → (entry b : ℕ) → Change
with_entry_put g change i d entry b =
    with_record g (with_delta change (pointers_delta (slice_index d.indirect 0) entry (numbers_bytes (b ∷ [])))) i (with_one_more d)

-- the change with block p, which has no numbers, as the pointer block of inode i
abbrev pub with_pointers_put : Geometry → Change → (i : ℕ) → Dinode → (p : ℕ) → Change
with_pointers_put g change i d p = with_record g (with_delta change (zero_delta p)) i (with_pointers d p)

-- The new change has block b at an index of the inode with this record, if that has a place for its number.
pub record PutsBlock (g : Geometry) (old new : Change) (i : ℕ) (d : Dinode) (index b : ℕ) : Type 0 where
  pub direct : index < direct_blocks → new ≡ with_block_put g old i d index b
  pub by_pointer : (entry : ℕ) → index ≡ direct_blocks + entry → entry < pointers_of_block → (slice_index d.indirect 0 == 0) ≡ false → new ≡ with_entry_put g old i d entry b

-- how many pointer blocks a file lacks for a block at this index
abbrev pub pointers_lacking : FileNode → (index : ℕ) → ℕ
pointers_lacking file index = if nat_le direct_blocks index && length file.pointers == 0 then 1 else 0

-- The file with these bytes at an index. Past the direct blocks it has its pointer block.
abbrev pub with_block_at : FileNode → (index : ℕ) → List ℕ → FileNode
with_block_at file index bytes = record file {
  blocks = slice_set file.blocks index (Some bytes);
  pointers = if nat_le direct_blocks index then Single ∷ [] else file.pointers;
}

-- Of a draft inode i is this file, which has a hole at this index and a place for a number there. The hands hold block b
-- beyond those after.
pub record HasPlaceFor (g : Geometry) (base : Image) (taken : ℕ → Bool) (change : Change) (i index b : ℕ) (hands after : List Hand) (file : FileNode) : Type 0 where
  pub stands : tree_of g (drafted_blocks change base) i ≡ Some (File file)
  pub below : index < size_in_blocks file.size
  pub hole : block_at file index ≡ None
  pub pointers : direct_blocks ≤ index → file.pointers ≡ Single ∷ []
  pub held : HoldMore hands after [] (b ∷ [])
  pub new : IsNewBlock g base taken b

-- The same of a file that needs a pointer block and has none.
pub record LacksPointers (g : Geometry) (base : Image) (taken : ℕ → Bool) (change : Change) (i p : ℕ) (hands after : List Hand) (file : FileNode) : Type 0 where
  pub stands : tree_of g (drafted_blocks change base) i ≡ Some (File file)
  pub above : direct_blocks < size_in_blocks file.size
  pub none : file.pointers ≡ []
  pub held : HoldMore hands after [] (p ∷ [])
  pub new : MayAttach g base taken change p

-- Of a draft inode i is this file, which has a hole at this index below its size. The hands hold block b, and the pointer
-- block if it lacks that, beyond those after.
pub record MayGetBlock (g : Geometry) (base : Image) (taken : ℕ → Bool) (change : Change) (i index b : ℕ) (pointers : List ℕ) (hands after : List Hand) (file : FileNode) : Type 0 where
  pub stands : tree_of g (drafted_blocks change base) i ≡ Some (File file)
  pub below : index < size_in_blocks file.size
  pub hole : block_at file index ≡ None
  pub lacking : length pointers ≡ pointers_lacking file index
  pub held : HoldMore hands after [] (b ∷ pointers)
  pub new : IsNewBlock g base taken b
  pub attach : All (MayAttach g base taken change) pointers

-- Where the content is told, a file with a place for block b has it at this index, with the bytes that stand in it.
abbrev pub AttachesBlock : StoreTold → (old new : Change) → (i index b : ℕ) → Type 0
AttachesBlock told old new i index b =
    IfSome told.content (λ base. (taken : ℕ → Bool) (hands after : List Hand) (file : FileNode) → IsDraft told.geometry base taken old hands
    → HasPlaceFor told.geometry base taken old i index b hands after file
    → Draws told.geometry base taken old new i (Some (File (with_block_at file index (take 4096 (drafted_blocks old base b)))))
    (links_at told.geometry (drafted_blocks old base) i) after)

-- Where the content is told, a file that lacks its pointer block has block p for it.
abbrev pub AttachesPointers : StoreTold → (old new : Change) → (i p : ℕ) → Type 0
AttachesPointers told old new i p =
    IfSome told.content (λ base. (taken : ℕ → Bool) (hands after : List Hand) (file : FileNode) → IsDraft told.geometry base taken old hands
    → LacksPointers told.geometry base taken old i p hands after file
    → Draws told.geometry base taken old new i (Some (File (record file { pointers = Single ∷ [] }))) (links_at told.geometry (drafted_blocks old base) i) after)

-- the two changes lay the same over all blocks but these two
abbrev pub LeavesAllBut : (b c : ℕ) → (old new : Change) → Type 0
LeavesAllBut b c old new = (base : Image) (e : ℕ) → e ≢ b → e ≢ c → drafted_blocks new base e ≡ drafted_blocks old base e

-- Where the content is told, a file that may get block b has it at this index, with the bytes that stand in it, and its
-- pointer block if it lacked that.
abbrev pub IsAttached : StoreTold → (old new : Change) → (i index b : ℕ) → (pointers : List ℕ) → Type 0
IsAttached told old new i index b pointers =
    IfSome told.content (λ base. (taken : ℕ → Bool) (hands after : List Hand) (file : FileNode) → IsDraft told.geometry base taken old hands
    → MayGetBlock told.geometry base taken old i index b pointers hands after file
    → Draws told.geometry base taken old new i (Some (File (with_block_at file index (take 4096 (drafted_blocks old base b)))))
    (links_at told.geometry (drafted_blocks old base) i) after)
