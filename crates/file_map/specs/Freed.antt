-- Blocks that a call gives up, and perhaps an inode: their bits are cleared in the records of their groups, and they are freed
-- in its change.
use Rattle.std.specs.Prelude.{◌≡◌, ◌≤◌, ◌∷◌, ℕ, ◌==◌, nat_lt, Bool, true, ◌&&◌, List, map, if◌then◌else◌, All, Option, Some, None, IfSome, Result, OnOk, option_map}
use Rattle.std.specs.List.{count_by}
use Rattle.lufs_base.specs.declared.geometry.Geometry.{Geometry}
use Rattle.lufs_base.specs.declared.numbers.Ino.{Ino}
use Rattle.volume_model.specs.declared.hand.Hand.{Hand}
use Rattle.volume_model.specs.Format.{Image, block, is_body, IsGroup}
use Rattle.volume_model.specs.Sound.{reading_of, is_claimed, metadata_length}
use Rattle.change_laws.specs.Marks.{group_of_inode, group_of_block}
use Rattle.cyl_groups.specs.declared.group.Group.{Group}
use Rattle.cyl_groups.specs.Group.{record_of, HasSizesOf, IsCounted}
use Rattle.meta_store.specs.declared.change.Change.{Change}
use Rattle.meta_store.specs.declared.change.Freed.{Freed}
use Rattle.meta_store.specs.declared.error.StoreError.{StoreError}
use Rattle.meta_store.specs.Store.{StoreTold}
use Rattle.draft_laws.specs.Drafts.{IsDraft}
use Rattle.draft_laws.specs.Freeing.{KeepsTree}

-- the hand of these blocks, and of this inode, if there is one
abbrev pub hand_of : Option Ino → List Freed → Hand
hand_of inode freed = record { inode = option_map (λ i. i.0) inode; blocks = map (λ f. f.block.0) freed }

-- how many of the blocks held metadata
abbrev pub metadata_among : List Freed → ℕ
metadata_among freed = count_by (λ f. f.meta) freed

-- an inode of group n that may be freed
abbrev pub IsInodeOf : Geometry → (n : ℕ) → Ino → Type 0
IsInodeOf g n i = (2 ≤ i.0) × (group_of_inode g i.0 ≡ n)

-- a body block of group n
abbrev pub is_block_of : Geometry → (n : ℕ) → Freed → Bool
is_block_of g n f = is_body g f.block.0 && group_of_block g f.block.0 == n

-- a group of the volume whose counts are those of its bits
pub record IsCountedGroup (g : Geometry) (x : Group) : Type 0 where
  pub sizes : HasSizesOf g x
  pub group : IsGroup g x.number (record_of x)
  pub counted : IsCounted x

-- The volume claimed the block before, and this says whether it held metadata then.
pub record WasClaimed (g : Geometry) (base : Image) (f : Freed) : Type 0 where
  pub claimed : is_claimed (reading_of g (block base)) f.block.0 ≡ true
  pub metadata : f.meta ≡ nat_lt 0 (metadata_length g (reading_of g (block base)) f.block.0)

-- Where the content is told, the old change is a draft of it that holds these, and the volume claimed the blocks before, they
-- are held no more at Ok, and the tree and all inodes are what they were.
abbrev pub GivesBack : StoreTold → (old new : Change) → Option Ino → List Freed → Result Unit StoreError → Type 0
GivesBack told old new inode freed result = IfSome told.content (λ base. (taken : ℕ → Bool) (hands : List Hand)
    → IsDraft told.geometry base taken old (hand_of inode freed ∷ hands) → All (WasClaimed told.geometry base) freed
    → OnOk result (KeepsTree told.geometry base taken old new hands))

-- the inode, if there is one and it is of group n
abbrev pub inode_in : Geometry → (n : ℕ) → Option Ino → Option Ino
inode_in g n None = None
inode_in g n (Some i) = if group_of_inode g i.0 == n then Some i else None
