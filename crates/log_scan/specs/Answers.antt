-- What the answers of this crate say. Lack of memory and a fault of the disk say nothing of the log.
use Rattle.std.specs.Prelude.{◌≡◌, ℕ, suc, ◌+◌, List, [], length, take, drop, Option, Some, None, Result, Ok, Err}
use Rattle.lufs_base.specs.Layout.{ring_of}
use Rattle.lufs_base.specs.declared.geometry.Geometry.{Geometry}
use Rattle.volume_model.specs.declared.log.Header.{Header}
use Rattle.volume_model.specs.declared.log.Tx.{Tx}
use Rattle.volume_model.specs.Log.{Log, NoHeader, WithHeader, Transactions, Listed, BadRun, with_tx, row_of, payload_of, transactions_from, log_of}
use Rattle.volume_model.specs.Format.{Image}
use Rattle.log_scan.specs.Ring.{transactions_of}
use Rattle.log_scan.specs.declared.geometry.GeometryError.{GeometryError}
use Rattle.log_scan.specs.declared.geometry.GeometryError.TheVariants.{NotVolume, Disk as geometry_unread}
use Rattle.log_scan.specs.declared.log.ScanError.{ScanError}
use Rattle.log_scan.specs.declared.log.ScanError.TheVariants.{Disk, BadHeader, BadLog, Mem as no_memory}

-- the row of a transaction at the front of the rest of the ring has so many sectors, and they carry this payload
abbrev pub IsRow : (epoch tid : ℕ) → List (List ℕ) → (sectors : ℕ) → List ℕ → Type 0
IsRow epoch tid rest sectors payload = (sectors ≡ length (row_of epoch tid rest)) × (payload ≡ payload_of (take sectors rest))

-- the error says nothing of the log
abbrev pub IsStop : ScanError → Type 0
IsStop Disk = Unit {0}
IsStop BadHeader = ⊥
IsStop (BadLog tid place) = ⊥
IsStop no_memory = Unit {0}

-- the answer tells what stands at the front of the rest of the ring: a transaction, the end of the log,
-- or a bad run
abbrev pub IsTx : Geometry → Header → (tid at : ℕ) → List (List ℕ) → Result (Option Tx) ScanError → Type 0
IsTx g h tid at rest (Ok (Some tx)) =
    (more : ℕ) → transactions_from g (ring_of g) h (suc more) tid at rest ≡ with_tx tx (transactions_from g (ring_of g) h more (tid + 1) (at + tx.sectors) (drop tx.sectors rest))
IsTx g h tid at rest (Ok None) = (more : ℕ) → transactions_from g (ring_of g) h (suc more) tid at rest ≡ Listed []
IsTx g h tid at rest (Err (BadLog bad place)) = (more : ℕ) → transactions_from g (ring_of g) h (suc more) tid at rest ≡ BadRun bad place
IsTx g h tid at rest (Err Disk) = Unit {0}
IsTx g h tid at rest (Err BadHeader) = ⊥
IsTx g h tid at rest (Err no_memory) = Unit {0}

-- the answer tells the transactions
abbrev pub IsListing : Transactions → Result (List Tx) ScanError → Type 0
IsListing listing (Ok txs) = listing ≡ Listed txs
IsListing listing (Err (BadLog tid place)) = listing ≡ BadRun tid place
IsListing listing (Err Disk) = Unit {0}
IsListing listing (Err BadHeader) = ⊥
IsListing listing (Err no_memory) = Unit {0}

-- the answer tells the header of the log, or that there is none
abbrev pub IsHeaderAnswer : Geometry → Image → Result Header ScanError → Type 0
IsHeaderAnswer g image (Ok h) = log_of g image ≡ WithHeader h (transactions_of g h image)
IsHeaderAnswer g image (Err BadHeader) = log_of g image ≡ NoHeader
IsHeaderAnswer g image (Err Disk) = Unit {0}
IsHeaderAnswer g image (Err (BadLog tid place)) = ⊥
IsHeaderAnswer g image (Err no_memory) = ⊥

-- the answer tells the log
abbrev pub IsScan : Log → Result (Header × List Tx) ScanError → Type 0
IsScan log (Ok found) = log ≡ WithHeader found.0 (Listed found.1)
IsScan log (Err (BadLog tid place)) = (h : Header) × (log ≡ WithHeader h (BadRun tid place))
IsScan log (Err BadHeader) = log ≡ NoHeader
IsScan log (Err Disk) = Unit {0}
IsScan log (Err no_memory) = Unit {0}

-- the answer tells the geometry of the volume, or that there is none
abbrev pub IsGeometryAnswer : Option Geometry → Result Geometry GeometryError → Type 0
IsGeometryAnswer found (Ok g) = found ≡ Some g
IsGeometryAnswer found (Err NotVolume) = found ≡ None
IsGeometryAnswer found (Err geometry_unread) = Unit {0}
