-- A mount: what the log has is written home, and a header of the next epoch empties it.
use Rattle.std.specs.Prelude.{◌≡◌, ◌<◌, ◌≤◌, ◌⊎◌, ◌^◌, ℕ, ◌+◌, ◌*◌, Bool, true, false, List, [], ◌∷◌, length, slice_index, Some, IsSomeAnd}
use Rattle.lufs_base.specs.Layout.{ring_of, header_sector, group_start, blocks_of}
use Rattle.lufs_base.specs.declared.geometry.Geometry.{Geometry}
use Rattle.volume_model.specs.declared.device_call.DeviceCall.{DeviceCall}
use Rattle.volume_model.specs.declared.device_call.DeviceCall.TheVariants.{Write, Flush}
use Rattle.volume_model.specs.declared.log.Header.{Header}
use Rattle.volume_model.specs.declared.log.Tx.{Tx}
use Rattle.volume_model.specs.Format.{Image, block, geometry_of}
use Rattle.volume_model.specs.Log.{header_bytes, replayed, Listed, WithHeader, log_of, recovered}
use Rattle.volume_model.specs.Crash.{Record, IsOfSectors, Outcome, IsSettled, present_of}
use Rattle.volume_model.specs.Sound.{is_among, HasNoLaterIdent}
use Rattle.log_laws.specs.StaleSectors.{HasNoIdentAbove}
use Rattle.log_laws.specs.LogOnImage.{ring_sector}
use Rattle.journal_model.specs.LaidBlocks.{replayed_byte, is_laid_by}
use Rattle.journal_model.specs.SafeImages.{HasHeader}

-- what a mount finds in the log
pub record Found : Type 0 where
  pub header : Header
  pub txs : List Tx

-- How far a mount has come: these blocks are still to be written home; they are all kept there; the new header was
-- written; and it is kept.
pub data Stage : Type 0 where
  Replaying : (left : List ℕ) → Stage
  Replayed : Stage
  Emptied : Stage
  Mounted : Stage

abbrev pub is_home : Stage → Bool
is_home (Replaying left) = false
is_home Replayed = true
is_home Emptied = true
is_home Mounted = true

abbrev pub left_in : Stage → List ℕ
left_in (Replaying left) = left
left_in stage = []

-- the header of the next epoch, of an empty log
abbrev pub next_epoch : Header → Header
next_epoch h = record { epoch = h.epoch + 1; head = 0; tid = 1 }

-- the header that is kept, and the one that was written last
abbrev pub kept_header : Header → Stage → Header
kept_header h Mounted = next_epoch h
kept_header h stage = h

abbrev pub newest_header : Header → Stage → Header
newest_header h Emptied = next_epoch h
newest_header h Mounted = next_epoch h
newest_header h stage = h

-- In this stage, over what stands at home, a step of the mount makes calls of the disk and comes to a stage.
pub data MountStep (g : Geometry) (found : Found) (home : Image) (stage : Stage) : List DeviceCall → Stage → Type 0 where
  HomeWrite : (b : ℕ) (left : List ℕ) → stage ≡ Replaying (b ∷ left) → MountStep g found home stage (Write (8 * b) (block (replayed home found.txs) b) ∷ []) (Replaying left)
  HomeFlush : stage ≡ Replaying [] → MountStep g found home stage (Flush ∷ []) Replayed
  NewHeader : stage ≡ Replayed → MountStep g found home stage (Write (header_sector g) (header_bytes (next_epoch found.header)) ∷ []) Emptied
  HeaderFlush : stage ≡ Emptied → MountStep g found home stage (Flush ∷ []) Mounted

-- the byte is one of the volume, and not of its log
abbrev pub IsOutsideLog : Geometry → ℕ → Type 0
IsOutsideLog g address = (address < 512 * header_sector g) ⊎ ((4096 * group_start g 0 ≤ address) × (address < 4096 * blocks_of g))

-- the image may be mounted: its log is a list of transactions, it has no later ident, and there is an epoch left
pub record IsFoundIn (g : Geometry) (found : Found) (image : Image) : Type 0 where
  pub geometry : geometry_of image ≡ Some g
  pub log : log_of g image ≡ WithHeader found.header (Listed found.txs)
  pub idents : HasNoIdentAbove g found.header.epoch (ring_sector g image)
  pub epoch : found.header.epoch + 1 < 2 ^ 32

-- What each image that a crash leaves has of a mount that began with the first one: the same ring; the header that is kept,
-- or the newest; and the same bytes, once the old transactions are replayed, which they need not be once the blocks are kept.
pub record IsMountImage (g : Geometry) (found : Found) (first : Image) (stage : Stage) (image : Image) : Type 0 where
  pub geometry : geometry_of image ≡ Some g
  pub header : HasHeader g image (kept_header found.header stage) ⊎ HasHeader g image (newest_header found.header stage)
  pub ring : (place : ℕ) → place < ring_of g → ring_sector g image place ≡ ring_sector g first place
  pub replays : (address : ℕ) → IsOutsideLog g address → replayed_byte image found.txs address ≡ replayed_byte first found.txs address
  pub home : is_home stage ≡ true → (address : ℕ) → IsOutsideLog g address → slice_index image address ≡ replayed_byte first found.txs address

-- A mount has come to a stage: each image that a crash may leave now has what it should, what was written last is present, and
-- at the end no write is after the last flush.
pub record IsMounting (g : Geometry) (found : Found) (first : Image) (r : Record) (stage : Stage) : Type 0 where
  pub sectors : IsOfSectors r
  pub began : IsFoundIn g found first
  pub each : (image : Image) → Outcome r (length r.calls) image → IsMountImage g found first stage image
  pub newest : HasHeader g (present_of r) (newest_header found.header stage)
  -- blocks that are still to be written are those of the old transactions
  pub left : (b : ℕ) → is_among b (left_in stage) ≡ true → is_laid_by found.txs b ≡ true
  pub written : (b i : ℕ) → is_laid_by found.txs b ≡ true → is_among b (left_in stage) ≡ false → i < 4096
      → slice_index (present_of r) (4096 * b + i) ≡ replayed_byte first found.txs (4096 * b + i)
  pub settled : stage ≡ Mounted → IsSettled r

-- A mount of this image recovers what one of the first image does, and it may be mounted likewise.
pub record RecoversSame (g : Geometry) (found : Found) (first image : Image) : Type 0 where
  pub log : (log_of g image ≡ WithHeader found.header (Listed found.txs)) ⊎ (log_of g image ≡ WithHeader (next_epoch found.header) (Listed []))
  pub bytes : IsSomeAnd (recovered g image) (λ content. (address : ℕ) → IsOutsideLog g address → slice_index content address ≡ replayed_byte first found.txs address)
  pub idents : HasNoLaterIdent g image

-- What a mount of this image finds, unless its epoch is the last one: the same transactions, or none; and its bytes outside the
-- log are recovered as those of the first image.
pub record IsFoundAgain (g : Geometry) (found : Found) (first image : Image) : Type 0 where
  pub again : Found
  pub which : (again ≡ found) ⊎ (again ≡ record { header = next_epoch found.header; txs = [] })
  pub may : again.header.epoch + 1 < 2 ^ 32 → IsFoundIn g again image
  pub replays : (address : ℕ) → IsOutsideLog g address → replayed_byte image again.txs address ≡ replayed_byte first found.txs address
