-- What the calls that change a store do to what it tells.
use Rattle.std.specs.Prelude.{◌≡◌, ◌<◌, ◌⊎◌, ℕ, ◌-◌, ◌*◌, ◌/◌, ◌%◌, ◌==◌, Bool, true, false, not, ◌&&◌, ◌||◌, if◌then◌else◌, List, map, length, Option, IfSome, is_some, option_map, Contains}
use Rattle.std.specs.List.{filter, list_any}
use Rattle.lufs_base.specs.Fields.{put_at}
use Rattle.lufs_base.specs.Layout.{blocks_of}
use Rattle.lufs_base.specs.declared.geometry.Geometry.{Geometry}
use Rattle.lufs_base.specs.declared.delta.Delta.{Delta}
use Rattle.lufs_base.specs.declared.numbers.BlockNo.{BlockNo}
use Rattle.volume_model.specs.declared.device_call.DeviceCall.{DeviceCall}
use Rattle.volume_model.specs.declared.device_call.DeviceCall.TheVariants.{Write}
use Rattle.volume_model.specs.Format.{Image, Blocks, sector, block}
use Rattle.volume_model.specs.Log.{delta_bytes, lays_on}
use Rattle.volume_model.specs.Sound.{is_among}
use Rattle.volume_model.specs.Crash.{image_after, written_to}
use Rattle.meta_store.specs.declared.change.Change.{Change}
use Rattle.meta_store.specs.declared.change.RawWrite.{RawWrite}
use Rattle.meta_store.specs.Laid.{laid_over}
use Rattle.meta_store.specs.Merged.{is_group, all_merged}
use Rattle.meta_store.specs.Changing.{IsKept, AllTold}

-- the raw writes as calls of a disk, in order
abbrev pub writes_of : List RawWrite → List DeviceCall
writes_of raw = map (λ w. Write w.first w.bytes) raw

-- the deltas of these that lay bytes over block b, in order
abbrev pub deltas_on : List Delta → ℕ → List Delta
deltas_on deltas b = filter (lays_on b) deltas

-- the image with the raw writes and then the deltas of a change laid over it
abbrev pub changed : Change → Image → Image
changed change image = laid_over (deltas_on change.deltas) (image_after image (writes_of change.raw))

-- the change frees block b; or it does, and the block held metadata
abbrev pub frees : Change → ℕ → Bool
frees change b = list_any (λ f. f.block.0 == b) change.freed

abbrev pub frees_metadata : Change → ℕ → Bool
frees_metadata change b = list_any (λ f. f.block.0 == b && f.meta) change.freed

-- the numbers of these blocks
abbrev pub numbers_in : List BlockNo → List ℕ
numbers_in blocks = map (λ b. b.0) blocks

-- the blocks with these bytes in block b, from byte `at` on
abbrev pub with_part : Blocks → (b at : ℕ) → List ℕ → Blocks
with_part blocks b at bytes c = if c == b then put_at (blocks c) at bytes else blocks c

-- The content is told after where it was told before, and each block of the volume that is known has the bytes of this map.
pub record HasContent (g : Geometry) (is_known : ℕ → Bool) (after : Image → Blocks) (old new : Option Image) : Type 0 where
  pub tells : is_some new ≡ is_some old
  pub blocks : IfSome old (λ before. IfSome new (λ now. (b : ℕ) → b < blocks_of g → is_known b ≡ true → block now b ≡ after before b))

-- the room that is left where the held deltas had the first number of bytes and have the second one now
abbrev pub room_left : Option ℕ → (before now : ℕ) → Option ℕ
room_left room before now = option_map (λ n. n - (now - before)) room

-- The change was applied. What is in a freed block isn't said, nor whether it is released.
pub record Applies (change : Change) (old new : AllTold) : Type 0 where
  pub geometry : new.read.geometry ≡ old.read.geometry
  pub content : HasContent old.read.geometry (λ b. not (frees change b)) (λ image. block (changed change image)) old.read.content new.read.content
  pub held : new.changing.held ≡ all_merged old.changing.held change.deltas
  pub taken : (b : ℕ) → new.changing.is_taken b ≡ (old.changing.is_taken b || is_among b change.taken)
  pub freed : (b : ℕ) → new.changing.is_freed b ≡ (old.changing.is_freed b || frees change b)
  pub released : (b : ℕ) → frees change b ≡ false → new.changing.is_released b ≡ (old.changing.is_released b && not (is_among b change.taken))
  pub room : new.changing.room ≡ room_left old.changing.room (delta_bytes old.changing.held) (delta_bytes new.changing.held)

-- Each sector of the content is as it was, or as one of these calls was to leave it, and all else is as it was.
pub record HasWrittenPartly (calls : List DeviceCall) (old new : AllTold) : Type 0 where
  pub geometry : new.read.geometry ≡ old.read.geometry
  pub tells : is_some new.read.content ≡ is_some old.read.content
  pub sectors : IfSome old.read.content (λ before. IfSome new.read.content (λ now.
      (k : ℕ) → k < 8 * blocks_of old.read.geometry → (sector now k ≡ sector before k) ⊎ Contains (written_to k calls) (sector now k)))
  pub changing : IsKept old.changing new.changing

-- Block b has these bytes now, and all else is as it was.
pub record Fills (b : ℕ) (bytes : List ℕ) (old new : AllTold) : Type 0 where
  pub geometry : new.read.geometry ≡ old.read.geometry
  pub content : HasContent old.read.geometry (λ c. true) (λ image. with_part (block image) b 0 bytes) old.read.content new.read.content
  pub changing : IsKept old.changing new.changing

-- the delta is of a group record of so many bytes at this home
abbrev pub is_group_at : (home bytes : ℕ) → Delta → Bool
is_group_at home bytes d = is_group d.kind && d.home == home && length d.bytes == bytes

-- such a delta with other bytes
abbrev pub amended : (home : ℕ) → List ℕ → Delta → Delta
amended home bytes d = if is_group_at home (length bytes) d then record d { bytes = bytes } else d

-- The held group record at this home has these bytes now, also in the content, and the returned blocks are as before they
-- were taken. No call of a disk was made.
pub record Amends (home : ℕ) (bytes : List ℕ) (returned : List BlockNo) (old new : AllTold) : Type 0 where
  pub geometry : new.read.geometry ≡ old.read.geometry
  pub content : HasContent old.read.geometry (λ c. true) (λ image. with_part (block image) (home / 4096) (home % 4096) bytes) old.read.content new.read.content
  pub held : new.changing.held ≡ map (amended home bytes) old.changing.held
  pub taken : (b : ℕ) → new.changing.is_taken b ≡ (old.changing.is_taken b && not (is_among b (numbers_in returned)))
  pub freed : (b : ℕ) → new.changing.is_freed b ≡ old.changing.is_freed b
  pub released : (b : ℕ) → new.changing.is_released b ≡ (old.changing.is_released b || is_among b (numbers_in returned))
  pub room : new.changing.room ≡ old.changing.room
  pub disk : new.read.disk ≡ old.read.disk
