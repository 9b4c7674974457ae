-- How far the home blocks are written.
use Rattle.std.specs.Prelude.{◌≡◌, ◌<◌, ◌⊎◌, ℕ, ◌-◌, ◌*◌, Bool, true, not, if◌then◌else◌, List, [], ◌∷◌, All, AllPairs, IfSome, bytes_eq}
use Rattle.std.specs.List.{filter, range_with_len}
use Rattle.lufs_base.specs.Layout.{header_sector, group_start}
use Rattle.lufs_base.specs.declared.geometry.Geometry.{Geometry}
use Rattle.volume_model.specs.declared.device_call.DeviceCall.{DeviceCall}
use Rattle.volume_model.specs.declared.device_call.DeviceCall.TheVariants.{Write}
use Rattle.volume_model.specs.declared.log.Header.{Header}
use Rattle.volume_model.specs.Format.{Image, block}
use Rattle.volume_model.specs.Log.{header_bytes}
use Rattle.volume_model.specs.Crash.{IsPartlyWritten}
use Rattle.journal_model.specs.Mount.{next_epoch}
use Rattle.sector_disk.specs.Disk.{DiskTold, IsUnwritten, HasMade, HasMadePartly}
use Rattle.plain_image.specs.HomeBlocks.{IsHome, differs}
use Rattle.plain_image.specs.WrittenBack.{home_calls}

-- block b isn't these bytes
abbrev pub is_other : Image → ℕ → List ℕ → Bool
is_other before b bytes = not (bytes_eq (block before b) bytes)

-- the write of block b, if it is written
abbrev pub block_calls : ℕ → List ℕ → Bool → List DeviceCall
block_calls b bytes wrote = if wrote then Write (8 * b) bytes ∷ [] else []

-- block b is what it was, or in part these bytes, if it wasn't these bytes
abbrev pub IsStoppedAt : ℕ → List ℕ → (old new : DiskTold) → Type 0
IsStoppedAt b bytes old new =
    IsUnwritten old new ⊎ (HasMadePartly (8 * b) bytes old new × IfSome old.present (λ before. is_other before b bytes ≡ true))

-- the home blocks below block n in which the image differs
abbrev pub changed_below : Geometry → (image before : Image) → ℕ → List ℕ
changed_below g image before n = filter (differs image before) (range_with_len (group_start g 0) (n - group_start g 0))

-- the home blocks below block n are written, those in which the image differs
pub record HasHomes (g : Geometry) (image : Image) (n : ℕ) (old new : DiskTold) : Type 0 where
  pub written : List ℕ
  pub homes : All (IsHome g) written
  pub below : All (λ b. b < n) written
  pub rising : AllPairs (λ b c. b < c) written
  pub made : HasMade (home_calls image written) old new
  pub told : IfSome old.present (λ before. written ≡ changed_below g image before n)

-- some home blocks are written, and the next one isn't, or in part
pub record HasStopped (g : Geometry) (image : Image) (old new : DiskTold) : Type 0 where
  pub at : ℕ
  pub home : IsHome g at
  pub mid : DiskTold
  pub before : HasHomes g image at old mid
  pub stops : IsStoppedAt at (block image at) mid new

-- nothing but the log's header is written, or in part
abbrev pub IsHeaderPartly : Geometry → Header → (old new : DiskTold) → Type 0
IsHeaderPartly g header old new =
    IfSome old.present (λ before. IfSome new.present (IsPartlyWritten (header_sector g) (header_bytes (next_epoch header)) before))
