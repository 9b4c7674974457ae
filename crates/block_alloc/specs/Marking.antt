-- What taking and putting back change of a store: bits of groups and their counts, and nothing of the tree.
use Rattle.std.specs.Prelude.{◌≡◌, ◌≢◌, ◌<◌, ℕ, ◌*◌, not, ◌&&◌, ◌||◌, Bool, true, false, List, [], ◌∷◌, take, Option, None, IfSome, is_some, All, AllPairs, Result, Ok, Err}
use Rattle.std.specs.List.{list_any}
use Rattle.lufs_base.specs.Layout.{group_start, blocks_of}
use Rattle.lufs_base.specs.declared.geometry.Geometry.{Geometry}
use Rattle.lufs_base.specs.declared.delta.Delta.{Delta}
use Rattle.lufs_base.specs.declared.errors.DiskFault.{DiskFault}
use Rattle.volume_model.specs.declared.hand.Hand.{Hand}
use Rattle.volume_model.specs.Format.{Image, block}
use Rattle.volume_model.specs.Sound.{Tree, StandsFor, held_inodes, is_among}
use Rattle.change_laws.specs.Marks.{group_of_inode, group_of_block}
use Rattle.sector_disk.specs.Disk.{IsUnwritten}
use Rattle.meta_store.specs.Changes.{Applies, HasWrittenPartly, is_group_at}
use Rattle.meta_store.specs.Changing.{AllTold, IsAsBefore}
use Rattle.meta_store.specs.declared.error.StoreError.{StoreError}
use Rattle.meta_store.specs.declared.error.StoreError.TheVariants.{Disk, Mem as no_memory}
use Rattle.block_alloc.specs.declared.taken.Taken.{Taken}
use Rattle.block_alloc.specs.declared.taken.Taken.TheVariants.{Got}
use Rattle.block_alloc.specs.Marks.{IsOfVolume, marking}

-- The delta gives group n another record than the content has.
pub record ChangesGroup (g : Geometry) (content : Option Image) (n : ℕ) (d : Delta) : Type 0 where
  pub within : n < g.groups
  pub record_of_group : is_group_at (4096 * group_start g n) 416 d ≡ true
  pub differs : IfSome content (λ image. d.bytes ≢ take 416 (block image (group_start g n)))

-- the running transaction holds a record of group n
abbrev pub holds_group : AllTold → (n : ℕ) → Bool
holds_group told n = list_any (is_group_at (4096 * group_start told.read.geometry n) 416) told.changing.held

-- The running transaction took the blocks of the hand, none of them twice, and holds the record of each group of which the
-- hand has something.
pub record IsInTransaction (hand : Hand) (told : AllTold) : Type 0 where
  pub of_volume : IsOfVolume told.read.geometry hand
  pub apart : AllPairs (λ b c. b ≢ c) hand.blocks
  pub inode : All (λ i. holds_group told (group_of_inode told.read.geometry i) ≡ true) (held_inodes (hand ∷ []))
  pub blocks : All (λ b. holds_group told (group_of_block told.read.geometry b) ≡ true) hand.blocks
  pub taken : All (λ b. told.changing.is_taken b ≡ true) hand.blocks

-- The hand was taken by one change: one record for each group that differs after, in rising order. It joins the hands of each
-- tree that the content stood for, and its blocks rise.
pub record HasTaken (hand : Hand) (old new : AllTold) : Type 0 where
  pub applied : (deltas : List Delta) × Applies (marking deltas hand.blocks) old new
      × All (λ d. (n : ℕ) × ChangesGroup old.read.geometry old.read.content n d) deltas × AllPairs (λ d later. d.home < later.home) deltas
  pub rising : AllPairs (λ b c. b < c) hand.blocks
  pub holds : IsInTransaction hand new
  pub stands : (tree : Tree) (hands : List Hand) → IfSome old.read.content (λ image. IfSome new.read.content (λ now.
      StandsFor old.read.geometry (block image) tree hands → StandsFor old.read.geometry (block now) tree (hand ∷ hands)))

-- The hand was taken, or without memory the store is as before; where the disk failed, by each of its sectors.
abbrev pub TakesHand : Result Unit StoreError → Hand → (old new : AllTold) → Type 0
TakesHand (Ok done) hand old new = HasTaken hand old new
TakesHand (Err no_memory) hand old new = IsAsBefore old new
TakesHand (Err Disk) hand old new = HasWrittenPartly [] old new

-- What was got was taken. At any other answer the store is as before; where the disk failed, by each of its sectors.
abbrev pub TakesWhatItGot : Result Taken StoreError → (old new : AllTold) → Type 0
TakesWhatItGot (Ok (Got hand)) old new = HasTaken hand old new
TakesWhatItGot (Ok other) old new = IsAsBefore old new
TakesWhatItGot (Err no_memory) old new = IsAsBefore old new
TakesWhatItGot (Err Disk) old new = HasWrittenPartly [] old new

-- The hand was taken in the running transaction, and is one of the hands of a tree that the content stands for.
pub record IsHeldHand (hand : Hand) (told : AllTold) : Type 0 where
  pub holds : IsInTransaction hand told
  pub stands : IfSome told.read.content (λ image. (tree : Tree) × (hands : List Hand) × StandsFor told.read.geometry (block image) tree (hand ∷ hands))

-- a hand of nothing
abbrev pub no_hand : Hand
no_hand = record { inode = None; blocks = [] }

-- Of the hand only the rest is left among the hands of each tree that the content stood for. The blocks put back are as
-- before they were taken, only bits and counts of groups changed, and no call of a disk was made but reads.
pub record HasPutBack (hand rest : Hand) (old new : AllTold) : Type 0 where
  pub geometry : new.read.geometry ≡ old.read.geometry
  pub tells : is_some new.read.content ≡ is_some old.read.content
  pub stands : (tree : Tree) (hands : List Hand) → IfSome old.read.content (λ image. IfSome new.read.content (λ now.
      StandsFor old.read.geometry (block image) tree (hand ∷ hands) → StandsFor old.read.geometry (block now) tree (rest ∷ hands)))
  pub elsewhere : IfSome old.read.content (λ image. IfSome new.read.content (λ now.
      (b : ℕ) → b < blocks_of old.read.geometry → ((n : ℕ) → n < old.read.geometry.groups → b ≢ group_start old.read.geometry n) → block now b ≡ block image b))
  pub released : (b : ℕ) → new.changing.is_released b ≡ (old.changing.is_released b || (is_among b hand.blocks && not (is_among b rest.blocks)))
  pub taken : (b : ℕ) → new.changing.is_taken b ≡ (old.changing.is_taken b && not (is_among b hand.blocks && not (is_among b rest.blocks)))
  pub freed : (b : ℕ) → new.changing.is_freed b ≡ old.changing.is_freed b
  pub held : (home bytes : ℕ) → list_any (is_group_at home bytes) new.changing.held ≡ list_any (is_group_at home bytes) old.changing.held
  pub room : new.changing.room ≡ old.changing.room
  pub disk : IsUnwritten old.read.disk new.read.disk

-- a part of the hand was put back, or all of it
abbrev pub HasPutBackSome : Hand → (old new : AllTold) → Type 0
HasPutBackSome hand old new = (rest : Hand) × HasPutBack hand rest old new

-- All of the hand was put back where the answer is true, and else nothing of it. A store that tells its content answers no false.
abbrev pub PutsBackWhole : Result Bool DiskFault → Hand → (old new : AllTold) → Type 0
PutsBackWhole (Ok true) hand old new = HasPutBack hand no_hand old new
PutsBackWhole (Ok false) hand old new = (old.read.content ≡ None) × IsAsBefore old new
PutsBackWhole (Err fault) hand old new = IsAsBefore old new
