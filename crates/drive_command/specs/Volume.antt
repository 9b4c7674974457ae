-- How the volume of a session is taken, and read.
use Rattle.std.specs.Prelude.{◌≡◌, ◌≢◌, ◌<◌, ◌≤◌, ℕ, ◌*◌, List, [], length, Some, None, IsSome, IfSome, IsSomeAnd, Result, Ok, Err}
use Rattle.lufs_base.specs.Layout.{IsGeometry, blocks_of}
use Rattle.lufs_base.specs.declared.geometry.Geometry.{Geometry}
use Rattle.volume_model.specs.declared.finding.Verdict.TheVariants.{Finding}
use Rattle.volume_model.specs.declared.log.Header.{Header}
use Rattle.volume_model.specs.declared.log.Tx.{Tx}
use Rattle.volume_model.specs.Format.{Image, block, geometry_of}
use Rattle.volume_model.specs.Log.{Transactions, NoHeader, WithHeader, Listed, BadRun, log_of, recovered}
use Rattle.volume_model.specs.Sound.{Sound, Tree, tree_of, StandsFor, verdict_of}
use Rattle.volume_model.specs.Texts.{verdict_of_image}
use Rattle.sector_disk.specs.Disk.{DiskTold, IsUnwritten, NoneFailed, FailsJustAt}
use Rattle.log_scan.specs.declared.geometry.GeometryError.{GeometryError}
use Rattle.log_scan.specs.declared.geometry.GeometryError.TheVariants as geometries
use Rattle.log_scan.specs.declared.log.ScanError.{ScanError}
use Rattle.log_scan.specs.declared.log.ScanError.TheVariants as scans
use Rattle.log_scan.specs.Ring.{transactions_of}
use Rattle.meta_store.specs.declared.error.StoreError.{StoreError}
use Rattle.meta_store.specs.declared.error.StoreError.TheVariants as stores
use Rattle.host_io.specs.declared.host.HostError.{HostError}
use Rattle.host_io.specs.declared.host.HostError.TheVariants as hosts
use Rattle.host_io.specs.declared.host.AskKind.TheVariants.{TakeDisk}
use Rattle.host_io.specs.declared.host.AskAnswer.TheVariants.{Given}
use Rattle.host_io.specs.Outside.{Outside, disk_of, refused_with, after_ask, with_disk}
use Rattle.drive_command.specs.declared.ending.DriveEnding.{DriveEnding}
use Rattle.drive_command.specs.declared.ending.DriveEnding.TheVariants as ends
use Rattle.drive_command.specs.declared.mount.MountError.{MountError}
use Rattle.drive_command.specs.declared.mount.MountError.TheVariants.{NotVolume, BadHeader, EpochSpent, BadLog, Unsound, Disk, Mem}

-- the epoch after which there is none
abbrev pub last_epoch : ℕ
last_epoch = 4294967295

-- the ending tells of this error of the host, which was asked for the disk of this name
abbrev pub IsDiskRefusal : HostError → List ℕ → DriveEnding → Type 0
IsDiskRefusal hosts.Missing name (ends.Missing at) = at.now ≡ name
IsDiskRefusal hosts.Failed name (ends.DiskFault at) = at.now ≡ name
IsDiskRefusal hosts.Mem name ends.NoMemory = Unit {0}
IsDiskRefusal error name ending = ⊥

-- the image has this geometry, and a log with this header and these transactions
pub record HasLog (image : Image) (g : Geometry) (h : Header) (txs : Transactions) : Type 0 where
  pub geometry : geometry_of image ≡ Some g
  pub log : log_of g image ≡ WithHeader h txs

-- What is said against the image is true of it, and nothing that is looked at before is. A failed read and lack of memory
-- say nothing of it.
abbrev pub IsRefusalOf : Image → MountError → Type 0
IsRefusalOf image NotVolume = geometry_of image ≡ None
IsRefusalOf image BadHeader = (g : Geometry) × (geometry_of image ≡ Some g) × (log_of g image ≡ NoHeader)
IsRefusalOf image EpochSpent = (g : Geometry) × (h : Header) × (txs : Transactions) × HasLog image g h txs × (h.epoch ≡ last_epoch)
IsRefusalOf image (BadLog tid place) = (g : Geometry) × (h : Header) × HasLog image g h (BadRun tid place) × (h.epoch ≢ last_epoch)
IsRefusalOf image (Unsound kind number) =
    (g : Geometry) × (h : Header) × (txs : List Tx) × HasLog image g h (Listed txs) × (h.epoch ≢ last_epoch) × (verdict_of_image image ≡ Some (Finding kind number))
IsRefusalOf image Disk = Unit {0}
IsRefusalOf image Mem = Unit {0}

-- the ending tells why the volume of this name was refused
abbrev pub TellsRefusal : MountError → (volume : List ℕ) → DriveEnding → Type 0
TellsRefusal NotVolume volume (ends.NotVolume at) = at.now ≡ volume
TellsRefusal BadHeader volume ends.BadHeader = Unit {0}
TellsRefusal EpochSpent volume (ends.EpochSpent at) = at.now ≡ volume
TellsRefusal (BadLog tid place) volume (ends.BadLog tid_told place_told) = (tid_told ≡ tid) × (place_told ≡ place)
TellsRefusal (Unsound kind number) volume (ends.Unsound kind_told number_told) = (kind_told ≡ kind) × (number_told ≡ number)
TellsRefusal Disk volume (ends.DiskFault at) = at.now ≡ volume
TellsRefusal Mem volume ends.NoMemory = Unit {0}
TellsRefusal why volume ending = ⊥

-- The disk of this name was lent, and told this then.
pub record IsDiskLent (name : List ℕ) (before : DiskTold) (old new : Outside) : Type 0 where
  pub given : IsSome old.holds → disk_of old name ≡ Some before
  pub after : new ≡ after_ask TakeDisk name (Some Given) old

-- There is no volume of this name to serve, the ending says why, and its disk is back unwritten if it was lent.
pub data VolumeStops (volume : List ℕ) (ending : DriveEnding) (old new : Outside) : Type 0 where
  -- the host gave no disk
  not_lent : (error : HostError) → IsDiskRefusal error volume ending → (error ≡ hosts.Missing → disk_of old volume ≡ None)
      → new ≡ after_ask TakeDisk volume (refused_with error) old → VolumeStops volume ending old new
  -- The disk was read, and its volume refused: for a fault of the disk just where one of its calls failed, the last one.
  refused : (before now : DiskTold) (lent : Outside) → IsDiskLent volume before old lent → (why : MountError) → TellsRefusal why volume ending
      → IfSome before.present (λ image. IsRefusalOf image why) → IsUnwritten before now → FailsJustAt (why ≡ Disk) before now
      → new ≡ with_disk volume now lent → VolumeStops volume ending old new

-- the tree with which a session on this content begins
abbrev pub opening_of : Geometry → Image → Tree
opening_of g content = tree_of g (block content)

-- What was read of the image: its geometry, the header of its log, and its recovered content, which stands for the same tree.
pub record IsMountOf (g : Geometry) (h : Header) (content : Image) (image : Image) : Type 0 where
  pub txs : List Tx
  pub log : HasLog image g h (Listed txs)
  pub stands : IsSomeAnd (recovered g image) (λ there. StandsFor g (block there) (opening_of g content) [])

-- The volume on a disk was read and is sound, of an epoch that has a next one. Its content is in memory, and the disk unwritten.
pub record IsMounted (g : Geometry) (h : Header) (content : Image) (before now : DiskTold) : Type 0 where
  pub in_range : IsGeometry g
  pub disk : 8 * blocks_of g ≤ now.sectors
  pub size : 4096 * blocks_of g ≤ length content
  pub epoch : h.epoch < last_epoch
  pub sound : Sound g (block content) []
  pub image : IfSome before.present (IsMountOf g h content)
  pub unwritten : IsUnwritten before now
  pub none_failed : NoneFailed before now

-- the header of the log of this image, or that it has none or one of the last epoch
abbrev pub IsHeaderRead : Geometry → Image → Result Header MountError → Type 0
IsHeaderRead g image (Ok h) = log_of g image ≡ WithHeader h (transactions_of g h image)
IsHeaderRead g image (Err BadHeader) = log_of g image ≡ NoHeader
IsHeaderRead g image (Err EpochSpent) = (h : Header) × (log_of g image ≡ WithHeader h (transactions_of g h image)) × (h.epoch ≡ last_epoch)
IsHeaderRead g image (Err Disk) = Unit {0}
IsHeaderRead g image (Err other) = ⊥

-- the log of this image, or why it can't be replayed
abbrev pub IsLogRead : Geometry → Image → Result (Header × List Tx) MountError → Type 0
IsLogRead g image (Ok read) = log_of g image ≡ WithHeader read.0 (Listed read.1)
IsLogRead g image (Err why) = geometry_of image ≡ Some g → IsRefusalOf image why

-- the content in memory has the blocks of this one
abbrev pub HasBlocksOf : Geometry → (content there : Image) → Type 0
HasBlocksOf g content there = (b : ℕ) → b < blocks_of g → block content b ≡ block there b

-- what a check of the content answers, where it isn't sound
abbrev pub IsUnsound : Geometry → Image → MountError → Type 0
IsUnsound g content (Unsound kind number) = verdict_of g (block content) ≡ Finding kind number
IsUnsound g content Mem = Unit {0}
IsUnsound g content other = ⊥

-- why a session has no volume, by what reading it answers
abbrev pub no_geometry : GeometryError → MountError
no_geometry geometries.NotVolume = NotVolume
no_geometry geometries.Disk = Disk

abbrev pub unlisted : ScanError → MountError
unlisted scans.Disk = Disk
unlisted scans.BadHeader = BadHeader
unlisted (scans.BadLog tid place) = BadLog tid place
unlisted scans.Mem = Mem

abbrev pub stopped : StoreError → MountError
stopped stores.Disk = Disk
stopped stores.Mem = Mem
