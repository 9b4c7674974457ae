-- What a caller knows of a change before a store is to take it.
use Rattle.std.specs.Prelude.{◌≡◌, ◌<◌, ◌≤◌, ℕ, ◌+◌, ◌*◌, ◌/◌, ◌%◌, ◌==◌, nat_lt, Bool, true, false, not, ◌&&◌, ◌||◌, List, length, None, IfSome, IsSome, is_some, All}
use Rattle.std.specs.List.{list_any, filter_map, last_or}
use Rattle.lufs_base.specs.Layout.{group_start}
use Rattle.lufs_base.specs.declared.geometry.Geometry.{Geometry}
use Rattle.lufs_base.specs.declared.delta.Delta.{Delta}
use Rattle.lufs_base.specs.declared.delta.DeltaKind.{DeltaKind}
use Rattle.lufs_base.specs.declared.delta.DeltaKind.TheVariants.{Group, Chunk}
use Rattle.lufs_base.specs.declared.numbers.BlockNo.{BlockNo}
use Rattle.volume_model.specs.Format.{block, is_body, group_of}
use Rattle.volume_model.specs.Log.{AreLoggable, may_be_logged, is_cancel, delta_bytes}
use Rattle.volume_model.specs.Sound.{Reading, reading_of, block_bit, is_claimed, is_among, metadata_length}
use Rattle.sector_disk.specs.Disk.{IsWhole}
use Rattle.meta_store.specs.declared.change.Change.{Change}
use Rattle.meta_store.specs.declared.change.RawWrite.{RawWrite}
use Rattle.meta_store.specs.Laid.{given_in_block}
use Rattle.meta_store.specs.Suited.{suits_block, suits}
use Rattle.meta_store.specs.Changing.{AllTold}
use Rattle.meta_store.specs.Changes.{changed, deltas_on, frees, frees_metadata, numbers_in, with_part, is_group_at}

-- The bits of body blocks that are set from the one reading to the other are those of the first test, and those cleared
-- are those of the second one.
pub record HasBitsOf (g : Geometry) (taken freed : ℕ → Bool) (before after : Reading) : Type 0 where
  pub set : (b : ℕ) → is_body g b ≡ true → (not (block_bit g before b) && block_bit g after b) ≡ taken b
  pub cleared : (b : ℕ) → is_body g b ≡ true → (block_bit g before b && not (block_bit g after b)) ≡ freed b

-- some of these deltas gives the byte at this place of block b
abbrev pub is_given : List Delta → (b place : ℕ) → Bool
is_given deltas b place = is_some (last_or None (filter_map (given_in_block place) (deltas_on deltas b)))

-- A raw write is of whole sectors of one body block.
pub record IsInBlock (g : Geometry) (w : RawWrite) : Type 0 where
  pub whole : IsWhole (length w.bytes)
  pub inside : 512 * (w.first % 8) + length w.bytes ≤ 4096
  pub body : is_body g (w.first / 8) ≡ true

-- Block b stays claimed: deltas of the same kinds may lie on it, and as many bytes of it are metadata, if it isn't of a
-- directory, which may have more chunks in it.
pub record StaysClaimed (g : Geometry) (before after : Reading) (b : ℕ) : Type 0 where
  pub claimed : is_claimed after b ≡ true
  pub kinds : (kind : DeltaKind) → suits_block g after kind b ≡ suits_block g before kind b
  pub length : suits_block g before Chunk b ≡ false → metadata_length g after b ≡ metadata_length g before b

-- Block b comes to be claimed: a body block that was taken, and not freed since, as its bit is set. One of a directory is
-- given in whole, as more chunks may follow in it.
pub record ComesClaimed (g : Geometry) (change : Change) (taken : ℕ → Bool) (after : Reading) (b : ℕ) : Type 0 where
  pub body : is_body g b ≡ true
  pub in_transaction : taken b ≡ true
  pub bit : block_bit g after b ≡ true
  pub whole : suits_block g after Chunk b ≡ true → (place : ℕ) → place < 4096 → is_given change.deltas b place ≡ true

-- Block b is given up: it was claimed, and isn't any more. The change says rightly whether it held metadata.
pub record IsGivenUp (g : Geometry) (change : Change) (before after : Reading) (b : ℕ) : Type 0 where
  pub claimed : is_claimed before b ≡ true
  pub unclaimed : is_claimed after b ≡ false
  pub metadata : frees_metadata change b ≡ nat_lt 0 (metadata_length g before b)

-- What a change does to what is read of the blocks that are metadata, to the claims, and to the bits of blocks. `taken` are
-- the blocks that were taken in the running transaction.
pub record MayFollow (g : Geometry) (change : Change) (taken : ℕ → Bool) (before after : Reading) : Type 0 where
  -- raw writes go to blocks that hold no metadata, before or after
  pub raw_before : All (λ w. metadata_length g before (w.first / 8) ≡ 0) change.raw
  pub raw_after : All (λ w. metadata_length g after (w.first / 8) ≡ 0) change.raw
  -- each delta but a cancel lies on a block that holds metadata after
  pub deltas : All (λ d. is_cancel d.kind ≡ false → 0 < metadata_length g after (d.home / 4096)) change.deltas
  -- and suits what the block is after
  pub suited : All (λ d. suits g after d ≡ true) change.deltas
  -- what was metadata stays so, if its block isn't freed
  pub kept : (b : ℕ) → frees_metadata change b ≡ false → metadata_length g before b ≤ metadata_length g after b
  -- what becomes metadata is given by deltas, in a block that the running transaction took where it held none
  pub given : (b place : ℕ) → metadata_length g before b ≤ place → place < metadata_length g after b → is_given change.deltas b place ≡ true
  pub fresh : (b : ℕ) → metadata_length g before b ≡ 0 → 0 < metadata_length g after b → taken b ≡ true
  -- a block that is claimed before and not freed stays as it is claimed
  pub stays : (b : ℕ) → is_claimed before b ≡ true → frees change b ≡ false → StaysClaimed g before after b
  -- one that is claimed after and not before was taken in the running transaction
  pub claimed : (b : ℕ) → is_claimed before b ≡ false → is_claimed after b ≡ true → ComesClaimed g change taken after b
  -- one that is freed is claimed before and not after, and is marked as metadata just if it held metadata
  pub marked : (b : ℕ) → frees change b ≡ true → IsGivenUp g change before after b
  -- the bits that are set are those of the blocks taken, and those cleared are those of the blocks freed
  pub bits : HasBitsOf g (λ b. is_among b change.taken) (frees change) before after

-- A store that tells this takes this change.
pub record MayApply (change : Change) (told : AllTold) : Type 0 where
  pub taken : All (λ b. told.changing.is_released b ≡ true) change.taken
  -- the deltas may be logged; merged into those that are held they may be, too, which is a law
  pub deltas : AreLoggable told.read.geometry change.deltas
  -- the blocks cancelled are those freed that held metadata
  pub cancels : (b : ℕ) → list_any (λ d. is_cancel d.kind && d.home / 4096 == b) change.deltas ≡ frees_metadata change b
  pub raw : All (IsInBlock told.read.geometry) change.raw
  pub room : IfSome told.changing.room (λ room. delta_bytes change.deltas ≤ room)
  pub content : IfSome told.read.content (λ image.
      MayFollow told.read.geometry change (λ b. told.changing.is_taken b || is_among b change.taken)
      (reading_of told.read.geometry (block image)) (reading_of told.read.geometry (block (changed change image))))

-- Block b is in a hand: a body block that was given out, or may be, and that nothing claims.
pub record MayFill (b : ℕ) (told : AllTold) : Type 0 where
  pub body : is_body told.read.geometry b ≡ true
  pub hand : (told.changing.is_released b || told.changing.is_taken b) ≡ true
  pub unclaimed : IfSome told.read.content (λ image. is_claimed (reading_of told.read.geometry (block image)) b ≡ false)

-- A group record is held at this home, and these are the bytes of one in which just the bits of the returned blocks are
-- clear that were set. The running transaction took these blocks, and nothing claims them.
pub record MayAmend (home : ℕ) (bytes : List ℕ) (returned : List BlockNo) (told : AllTold) : Type 0 where
  pub place : may_be_logged told.read.geometry Group home (length bytes) ≡ true
  pub held : list_any (is_group_at home (length bytes)) told.changing.held ≡ true
  pub group : (n : ℕ) → home ≡ 4096 * group_start told.read.geometry n → IsSome (group_of told.read.geometry n bytes)
  pub body : All (λ b. is_body told.read.geometry b.0 ≡ true) returned
  pub taken : All (λ b. told.changing.is_taken b.0 ≡ true) returned
  pub unclaimed : IfSome told.read.content (λ image. All (λ b. is_claimed (reading_of told.read.geometry (block image)) b.0 ≡ false) returned)
  pub bits : IfSome told.read.content (λ image.
      HasBitsOf told.read.geometry (λ b. false) (λ b. is_among b (numbers_in returned))
      (reading_of told.read.geometry (block image)) (reading_of told.read.geometry (with_part (block image) (home / 4096) (home % 4096) bytes)))
