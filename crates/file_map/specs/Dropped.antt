-- An inode that is freed with all its blocks.
use Rattle.std.specs.Prelude.{◌≡◌, ℕ, ◌==◌, Bool, true, not, if◌then◌else◌, slice_index, List, [], ◌∷◌, ◌++◌, None, IfSome, Result, OnOk}
use Rattle.std.specs.List.{flat_map, range_with_len}
use Rattle.lufs_base.specs.declared.geometry.Geometry.{Geometry}
use Rattle.volume_model.specs.declared.hand.Hand.{Hand}
use Rattle.volume_model.specs.declared.inode.Dinode.{Dinode}
use Rattle.volume_model.specs.Format.{Image, block, is_file}
use Rattle.volume_model.specs.Sound.{reading_of, used_at}
use Rattle.meta_store.specs.declared.change.Change.{Change}
use Rattle.meta_store.specs.declared.change.Freed.{Freed}
use Rattle.meta_store.specs.declared.error.StoreError.{StoreError}
use Rattle.meta_store.specs.Store.{StoreTold}
use Rattle.meta_draft.specs.Drafted.{drafted_blocks}
use Rattle.draft_laws.specs.Drafts.{IsDraft, Draws}

-- inode i is what it was before the change
abbrev pub IsAsItWas : Geometry → Image → Change → (i : ℕ) → Type 0
IsAsItWas g base change i = used_at (reading_of g (drafted_blocks change base)) i ≡ used_at (reading_of g (block base)) i

-- Where the content is told, the old change is a draft of it, and inode i is what it was, the tree has lost it at Ok. All
-- other inodes are what they were, and the hands are the same.
abbrev pub IsDropped : StoreTold → (old new : Change) → (i : ℕ) → Result Unit StoreError → Type 0
IsDropped told old new i result = IfSome told.content (λ base. (taken : ℕ → Bool) (hands : List Hand) → IsDraft told.geometry base taken old hands
    → IsAsItWas told.geometry base old i → OnOk result (Draws told.geometry base taken old new i None None hands))

-- how many numbers of an inode may name blocks: those of a file, or of a directory, which has more than a link
abbrev pub most_indexes : Dinode → ℕ
most_indexes d = if is_file d.mode then 1036 else 256

-- the block of a number that isn't 0
abbrev pub freed_block : (meta : Bool) → (number : ℕ) → List Freed
freed_block meta number = if number == 0 then [] else record { block = record { 0 = number }; meta = meta } ∷ []

-- the blocks at so many indexes
abbrev pub freed_indexes : (meta : Bool) → (numbers : List ℕ) → (count : ℕ) → List Freed
freed_indexes meta numbers count = flat_map (λ k. freed_block meta (slice_index numbers k)) (range_with_len 0 count)

-- the blocks of an inode, by its record and its numbers
abbrev pub freed_of : Dinode → (numbers : List ℕ) → List Freed
freed_of d numbers = freed_block true (slice_index d.indirect 0) ++ freed_indexes (not (is_file d.mode)) numbers (most_indexes d)
