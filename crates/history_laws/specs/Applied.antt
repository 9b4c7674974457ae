-- What an entry does to the running version, as far as the bytes of files see it.
use Rattle.std.specs.Prelude.{◌≡◌, ◌⊎◌, ℕ, suc, ◌/◌, true, false, List, length, slice_index, Some, None, unwrap_or}
use Rattle.lufs_base.specs.declared.geometry.Geometry.{Geometry}
use Rattle.lufs_base.specs.declared.delta.Delta.{Delta}
use Rattle.tree_types.specs.declared.history.Entry.{Entry}
use Rattle.volume_model.specs.Format.{Image}
use Rattle.volume_model.specs.Crash.{Record, present_of}
use Rattle.volume_model.specs.Sound.{Reading, Tree}
use Rattle.history_model.specs.Histories.{entry_at, replay_of}
use Rattle.history_model.specs.Touched.{touches_byte}
use Rattle.journal_model.specs.Versions.{Version, Published, Sealed, Running}
use Rattle.journal_model.specs.LaidBlocks.{given_by, is_cancelled_in}
use Rattle.journal_model.specs.BlockRoles.{Role, is_claimed}
use Rattle.history_laws.specs.Named.{named_block, Names, byte_in, HasByteOf, AgreeOnPlaces}

-- the same by version, but this of the running one
abbrev pub with_running : {X : Type 0} → (Version → X) → X → Version → X
with_running f x Published = f Published
with_running f x Sealed = f Sealed
with_running f x Running = x

-- no file has block b
abbrev pub LeavesFree : Reading → (b : ℕ) → Type 0
LeavesFree reading b = (ino index : ℕ) → named_block reading ino index ≡ Some b → ⊥

-- The entry after the first k takes the running version to this reading. A block that is named anew, neither the published nor
-- the sealed version names. A byte that the entry doesn't touch stays where it is, and one that it touches is there already.
pub record IsApplied (g : Geometry) (moment : ℕ) (opening : Tree) (entries : List Entry) (r : Record) (readings : Version → Reading) (k : ℕ) (new : Reading) : Type 0 where
  pub entry : Entry
  pub is : entry_at entries (suc k) ≡ Some entry
  pub claims : (ino index b : ℕ) → named_block new ino index ≡ Some b
      → (named_block (readings Running) ino index ≡ Some b) ⊎ (LeavesFree (readings Published) b × LeavesFree (readings Sealed) b)
  pub once : AgreeOnPlaces new new
  pub stays : (ino p value b : ℕ) → HasByteOf (replay_of g moment opening entries (suc k)) ino p value → Names new ino p b
      → touches_byte (replay_of g moment opening entries k) entry ino p ≡ false → Names (readings Running) ino p b × HasByteOf (replay_of g moment opening entries k) ino p value
  pub touched : (ino p value b : ℕ) → HasByteOf (replay_of g moment opening entries (suc k)) ino p value → Names new ino p b
      → touches_byte (replay_of g moment opening entries k) entry ino p ≡ true → byte_in (present_of r) b p ≡ value

-- Of what a call makes of the names of blocks: a block that a file has after it, it had at that index before; or the running
-- version didn't claim the block, and the file had none there.
abbrev pub NamesStay : (role : ℕ → Role) → (before after : Reading) → Type 0
NamesStay role before after = (ino index b : ℕ) → named_block after ino index ≡ Some b
    → (named_block before ino index ≡ Some b) ⊎ ((named_block before ino index ≡ None) × (is_claimed (role b) ≡ false))

-- What is touched of the tree after k + 1 entries, and stands in a block that the reading names, is there already.
abbrev pub AreTouchedPresent : Geometry → (moment : ℕ) → (opening : Tree) → List Entry → Record → (k : ℕ) → Entry → Reading → Type 0
AreTouchedPresent g moment opening entries r k entry new =
    (ino p value b : ℕ) → HasByteOf (replay_of g moment opening entries (suc k)) ino p value → Names new ino p b
    → touches_byte (replay_of g moment opening entries k) entry ino p ≡ true → byte_in (present_of r) b p ≡ value

-- The second image is what these deltas make of the first one: each byte is the one that they give, or else the one that it was.
-- Of blocks that they cancel nothing is asked.
pub record IsMadeBy (deltas : List Delta) (before after : Image) : Type 0 where
  pub size : length after ≡ length before
  pub bytes : (address : ℕ) → is_cancelled_in deltas (address / 4096) ≡ false → slice_index after address ≡ unwrap_or (given_by deltas address) (slice_index before address)
