-- The log of a journal on an image: its header and its ring, and the writes that append to it.
use Rattle.std.specs.Prelude.{◌≡◌, ◌<◌, ◌≤◌, ℕ, ◌+◌, ◌%◌, List, ◌++◌, length, take, drop, Some, Contains}
use Rattle.lufs_base.specs.Layout.{ring_of, header_sector, ring_place}
use Rattle.lufs_base.specs.declared.geometry.Geometry.{Geometry}
use Rattle.volume_model.specs.declared.device_call.DeviceCall.{DeviceCall}
use Rattle.volume_model.specs.declared.device_call.DeviceCall.TheVariants.{Write}
use Rattle.volume_model.specs.declared.log.Header.{Header}
use Rattle.volume_model.specs.declared.log.Tx.{Tx}
use Rattle.volume_model.specs.Format.{Image, sector, sectors_from}
use Rattle.volume_model.specs.Log.{header_of, Listed, WithHeader, log_of, tx_bytes}
use Rattle.log_laws.specs.LogRing.{IsLogRing, IsSectorOfNext}

-- the sector at a place of an image's ring
abbrev pub ring_sector : Geometry → Image → ℕ → List ℕ
ring_sector g image place = sector image (ring_place g place)

-- the image has this log header, and after it the ring of these transactions
pub record HasLog (g : Geometry) (h : Header) (image : Image) (txs more : List Tx) : Type 0 where
  pub header : header_of g (sector image (header_sector g)) ≡ Some h
  pub ring : IsLogRing g h (ring_sector g image) txs more

-- What is written to the ring is sectors of the transactions that are being written, each at its place.
abbrev pub WritesNext : Geometry → Header → (txs more : List Tx) → (written : ℕ → List (List ℕ)) → Type 0
WritesNext g h txs more written =
    (m : ℕ) (s : List ℕ) → m < ring_of g → Contains (written (ring_place g ((h.head + m) % ring_of g))) s → IsSectorOfNext h txs more m s

-- the write of n sectors of a transaction from its sector i on
abbrev pub tx_write : Geometry → (epoch : ℕ) → Tx → (i n : ℕ) → DeviceCall
tx_write g epoch tx i n = Write (ring_place g ((tx.first + i) % ring_of g)) (sectors_from (tx_bytes tx.deltas tx.tid epoch) i n)

-- the transaction has these sectors, and their places go on without a turn of the ring
pub record IsInOneTurn (g : Geometry) (tx : Tx) (i n : ℕ) : Type 0 where
  pub sectors : i + n ≤ tx.sectors
  pub places : (tx.first + i) % ring_of g + n ≤ ring_of g

-- a mount of the image lists the transactions, and the first few of those that were being written, which stand written
pub record MountsSome (g : Geometry) (h : Header) (image : Image) (txs more : List Tx) : Type 0 where
  pub count : ℕ
  pub within : count ≤ length more
  pub log : HasLog g h image (txs ++ take count more) (drop count more)
  pub listed : log_of g image ≡ WithHeader h (Listed (txs ++ take count more))

-- the images have the same log
pub record HaveSameLog (g : Geometry) (before after : Image) : Type 0 where
  pub header : sector after (header_sector g) ≡ sector before (header_sector g)
  pub ring : (place : ℕ) → place < ring_of g → ring_sector g after place ≡ ring_sector g before place
