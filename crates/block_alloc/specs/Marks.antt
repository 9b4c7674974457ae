-- The records of groups in memory, with the bits of a hand put in them.
use Rattle.std.specs.Prelude.{◌≡◌, ◌<◌, ◌≤◌, ℕ, ◌*◌, ◌==◌, Bool, true, false, ◌&&◌, ◌||◌, List, [], ◌∷◌, length, slice_get, Option, Some, None, is_some, All, AllPairs}
use Rattle.std.specs.List.{list_any}
use Rattle.std.specs.Option.{option_flatten}
use Rattle.lufs_base.specs.Layout.{group_start, blocks_of}
use Rattle.lufs_base.specs.declared.geometry.Geometry.{Geometry}
use Rattle.lufs_base.specs.declared.delta.Delta.{Delta}
use Rattle.lufs_base.specs.declared.delta.DeltaKind.TheVariants.{Group as of_group}
use Rattle.volume_model.specs.declared.hand.Hand.{Hand}
use Rattle.volume_model.specs.Format.{Image, Blocks, block, GroupRecord, IsGroup, group_bytes, inodes_of, is_body}
use Rattle.volume_model.specs.Log.{delta_bytes}
use Rattle.volume_model.specs.Sound.{reading_of, record_at, held_inodes, has_right_counts, IsStored, tree_of}
use Rattle.change_laws.specs.Marks.{group_of_inode, group_of_block, HasHandPut}
use Rattle.cyl_groups.specs.declared.group.Group.{Group}
use Rattle.cyl_groups.specs.Group.{record_of, HasSizesOf, IsCounted}
use Rattle.meta_store.specs.declared.change.Change.{Change}
use Rattle.meta_store.specs.Laid.{laid_over}
use Rattle.meta_store.specs.Changes.{deltas_on, is_group_at}
use Rattle.meta_store.specs.Deltas.{group_delta}
use Rattle.block_alloc.specs.Records.{AreRecords}

-- All that the hand holds is of this volume: an inode that a call may make, and body blocks.
pub record IsOfVolume (g : Geometry) (hand : Hand) : Type 0 where
  pub usable : All (λ i. (2 ≤ i) × (i < inodes_of g)) (held_inodes (hand ∷ []))
  pub body : All (λ b. is_body g b ≡ true) hand.blocks

-- a group of the volume whose counts are those of its bits
pub record IsCountedGroup (g : Geometry) (x : Group) : Type 0 where
  pub sizes : HasSizesOf g x
  pub group : IsGroup g x.number (record_of x)
  pub counted : IsCounted x

-- the hand has an inode or a block of group n
abbrev pub has_of_group : Geometry → Hand → (n : ℕ) → Bool
has_of_group g hand n =
    list_any (λ i. group_of_inode g i == n) (held_inodes (hand ∷ [])) || list_any (λ b. group_of_block g b == n) hand.blocks

-- a record of group n with the bits of the hand set in it, and with right counts
pub record IsMarked (g : Geometry) (n : ℕ) (hand : Hand) (old new : GroupRecord) : Type 0 where
  pub group : IsGroup g n new
  pub counts : has_right_counts g new ≡ true
  pub put : HasHandPut g n true hand old new

-- The delta is of the marked record of this group, of which the hand has something.
pub record MarksGroup (g : Geometry) (n : ℕ) (hand : Hand) (found : Option Group) (d : Delta) : Type 0 where
  pub within : n < g.groups
  pub has_some : has_of_group g hand n ≡ true
  pub old : Group
  pub was : found ≡ Some old
  pub new : GroupRecord
  pub marked : IsMarked g n hand (record_of old) new
  pub is : d ≡ group_delta g n (group_bytes new)

-- There is such a delta where the record was read and the hand has something of its group, and else none.
abbrev pub IsMarkedDelta : Geometry → (n : ℕ) → Hand → Option Group → Option Delta → Type 0
IsMarkedDelta g n hand found (Some d) = MarksGroup g n hand found d
IsMarkedDelta g n hand found None = (is_some found && has_of_group g hand n) ≡ false

-- the same of what was read, where both could be
abbrev pub MarksRecord : Geometry → (n : ℕ) → Hand → (old new : Option GroupRecord) → Type 0
MarksRecord g n hand None new = ⊥
MarksRecord g n hand (Some old) None = ⊥
MarksRecord g n hand (Some old) (Some new) = (has_right_counts g new ≡ true) × HasHandPut g n true hand old new

-- In the second content the bits of the hand are set in the records of the first n groups, and all else that is read is as in
-- the first.
pub record AreMarkedTo (g : Geometry) (blocks others : Blocks) (hand : Hand) (n : ℕ) : Type 0 where
  pub inodes : (reading_of g others).inodes ≡ (reading_of g blocks).inodes
  pub tree : tree_of g others ≡ tree_of g blocks
  pub marked : (m : ℕ) → m < n → MarksRecord g m hand (record_at (reading_of g blocks) m) (record_at (reading_of g others) m)
  pub left : (m : ℕ) → n ≤ m → record_at (reading_of g others) m ≡ record_at (reading_of g blocks) m

-- a change of these group records, by which these blocks are taken
abbrev pub marking : List Delta → List ℕ → Change
marking deltas taken = record { deltas = deltas; taken = taken; freed = []; raw = [] }

-- Each of these deltas marks one of the first n groups, in rising order, and each group of which the hand has something and
-- whose record was read has one.
pub record AreMarkings (g : Geometry) (records : List (Option Group)) (hand : Hand) (n : ℕ) (deltas : List Delta) : Type 0 where
  pub each : All (λ d. (m : ℕ) × (m < n) × MarksGroup g m hand (option_flatten (slice_get records m)) d) deltas
  pub rising : AllPairs (λ d later. d.home < later.home) deltas
  pub few : delta_bytes deltas ≤ 432 * n
  pub all : (m : ℕ) → m < n → has_of_group g hand m ≡ true → is_some (option_flatten (slice_get records m)) ≡ true
      → list_any (is_group_at (4096 * group_start g m) 416) deltas ≡ true
  pub laid : (image : Image) (hands : List Hand) → 4096 * blocks_of g ≤ length image → AreRecords (reading_of g (block image)) records
      → IsStored g (reading_of g (block image)) hands → AreMarkedTo g (block image) (block (laid_over (deltas_on deltas) image)) hand n

-- the change marks the hand: it takes its blocks, and sets its bits
pub record IsMarking (g : Geometry) (records : List (Option Group)) (hand : Hand) (change : Change) : Type 0 where
  pub is : change ≡ marking change.deltas hand.blocks
  pub deltas : AreMarkings g records hand g.groups change.deltas
