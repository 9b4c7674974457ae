-- How an image is written back to its disk: the calls, in order, and what stands there then.
use Rattle.std.specs.Prelude.{◌≡◌, ◌<◌, ◌⊎◌, ℕ, ◌*◌, List, [], ◌∷◌, ◌++◌, length, map, All, AllPairs, Some, IfSome, Result}
use Rattle.lufs_base.specs.Layout.{header_sector}
use Rattle.lufs_base.specs.declared.geometry.Geometry.{Geometry}
use Rattle.volume_model.specs.declared.device_call.DeviceCall.{DeviceCall}
use Rattle.volume_model.specs.declared.device_call.DeviceCall.TheVariants.{Write, Flush}
use Rattle.volume_model.specs.declared.log.Header.{Header}
use Rattle.volume_model.specs.Format.{Image, sector, block, geometry_of}
use Rattle.volume_model.specs.Log.{header_bytes, Listed, WithHeader, log_of, recovered}
use Rattle.volume_model.specs.Crash.{IsSettled, image_after}
use Rattle.volume_model.specs.Sound.{HasNoLaterIdent}
use Rattle.log_laws.specs.StaleSectors.{HasNoIdentAbove}
use Rattle.log_laws.specs.LogOnImage.{ring_sector}
use Rattle.journal_model.specs.Mount.{next_epoch}
use Rattle.sector_disk.specs.Disk.{DiskTold, Makes}
use Rattle.plain_image.specs.HomeBlocks.{IsHome, changed_blocks, IsBesides}

-- the call that writes block b of the image
abbrev pub home_call : Image → ℕ → DeviceCall
home_call image b = Write (8 * b) (block image b)

-- those that write these blocks
abbrev pub home_calls : Image → List ℕ → List DeviceCall
home_calls image written = map (home_call image) written

-- those that empty the log, by a header of the next epoch, and keep that
abbrev pub emptying : Geometry → Header → List DeviceCall
emptying g header = Write (header_sector g) (header_bytes (next_epoch header)) ∷ (Flush ∷ [])

-- all calls, where these blocks are written: the log is emptied once the blocks are kept
abbrev pub calls_that_write : Geometry → Header → Image → List ℕ → List DeviceCall
calls_that_write g header image written = home_calls image written ++ (Flush ∷ emptying g header)

-- all calls, where this stood on the disk before: each home block in which the image differs is written
abbrev pub write_back_calls : Geometry → Header → (image before : Image) → List DeviceCall
write_back_calls g header image before = calls_that_write g header image (changed_blocks g image before)

-- Some home blocks are written, in rising order, and the log is emptied; where the disk doesn't tell what stood there.
pub record WritesHomes {T E : Type 0} (g : Geometry) (header : Header) (image : Image) (result : Result T E) (old new : DiskTold) : Type 0 where
  pub written : List ℕ
  pub homes : All (IsHome g) written
  pub rising : AllPairs (λ b c. b < c) written
  pub makes : Makes (calls_that_write g header image written) result old new

-- The home blocks are those of the image, all else but the log's header is as it was. Where no sector of the ring had an
-- ident above the epoch, the log is empty now.
pub record IsWrittenBack (g : Geometry) (header : Header) (image before now : Image) : Type 0 where
  pub size : length now ≡ length before
  pub blocks : (b : ℕ) → IsHome g b → block now b ≡ block image b
  pub rest : (k : ℕ) → IsBesides g k → sector now k ≡ sector before k
  pub geometry : geometry_of now ≡ geometry_of before
  pub log : HasNoIdentAbove g header.epoch (ring_sector g before) → log_of g now ≡ WithHeader (next_epoch header) (Listed [])
  pub idents : HasNoIdentAbove g header.epoch (ring_sector g before) → HasNoLaterIdent g now
  pub recovers : HasNoIdentAbove g header.epoch (ring_sector g before) → recovered g now ≡ Some now

-- so it is on a disk that tells its content, and nothing is pending
pub record HoldsImage (g : Geometry) (header : Header) (image : Image) (old new : DiskTold) : Type 0 where
  pub content : IfSome old.present (λ before. IfSome new.present (IsWrittenBack g header image before))
  pub settled : IfSome new.listed IsSettled

-- Each sector is as it was, or as the calls were to leave it, and the log's header isn't new before all home blocks are.
pub record IsPartlyBack (g : Geometry) (header : Header) (image before now : Image) : Type 0 where
  pub size : length now ≡ length before
  pub each : (k : ℕ) → (sector now k ≡ sector before k) ⊎ (sector now k ≡ sector (image_after before (write_back_calls g header image before)) k)
  pub order : (sector now (header_sector g) ≡ sector before (header_sector g)) ⊎ ((b : ℕ) → IsHome g b → block now b ≡ block image b)

-- so it is on a disk that tells its content
abbrev pub HoldsPartly : Geometry → Header → Image → (old new : DiskTold) → Type 0
HoldsPartly g header image old new = IfSome old.present (λ before. IfSome new.present (IsPartlyBack g header image before))
