-- The ring of a journal: what stands in it, in the present image and in each that a crash may leave.
use Rattle.std.specs.Prelude.{◌≡◌, ◌⊎◌, ◌<◌, ◌≤◌, ℕ, suc, ◌+◌, ◌^◌, ◌%◌, List, [], ◌++◌, length, take, slice_index_or, All}
use Rattle.lufs_base.specs.Layout.{IsGeometry, ring_of}
use Rattle.lufs_base.specs.declared.geometry.Geometry.{Geometry}
use Rattle.volume_model.specs.declared.log.Header.{Header}
use Rattle.volume_model.specs.declared.log.Tx.{Tx}
use Rattle.volume_model.specs.Format.{sector}
use Rattle.volume_model.specs.Log.{Listed, transactions_from, ring_from, tx_bytes}
use Rattle.log_laws.specs.TxsInRing.{sectors_in_txs, sectors_of_txs, StandFrom, IsWritten}
use Rattle.log_laws.specs.StaleSectors.{IsStale, IsStaleAt, HasNoIdentAbove}

-- these transactions stand written in the ring from its head on
pub record BeginsWith (g : Geometry) (h : Header) (at_place : ℕ → List ℕ) (txs : List Tx) : Type 0 where
  pub geometry : IsGeometry g
  pub epoch : h.epoch < 2 ^ 32
  pub head : h.head < ring_of g
  pub stand : StandFrom g h.head 0 h.tid txs
  pub room : sectors_of_txs txs ≤ ring_of g
  pub numbers : h.tid + length txs ≤ 2 ^ 32
  pub written : All (IsWritten g h.epoch at_place) txs

-- more transactions are to follow these, and there are places and numbers for them
pub record AreNext (g : Geometry) (h : Header) (txs more : List Tx) : Type 0 where
  pub stand : StandFrom g h.head (sectors_of_txs txs) (h.tid + length txs) more
  pub room : sectors_of_txs txs + sectors_of_txs more ≤ ring_of g
  pub numbers : h.tid + length txs + length more ≤ 2 ^ 32

-- each sector of the transaction is as it is written, or stale
pub record IsWrittenOrStale (g : Geometry) (h : Header) (at_place : ℕ → List ℕ) (tx : Tx) : Type 0 where
  pub each : (i : ℕ) → i < tx.sectors
      → (at_place ((tx.first + i) % ring_of g) ≡ sector (tx_bytes tx.deltas tx.tid h.epoch) i) ⊎ IsStale h.epoch h.tid (at_place ((tx.first + i) % ring_of g))

-- The untrimmed transactions stand written, each sector of those that are being written after them is written or stale,
-- all else is stale, and no ident is above the epoch.
pub record IsLogRing (g : Geometry) (h : Header) (at_place : ℕ → List ℕ) (txs more : List Tx) : Type 0 where
  pub begins : BeginsWith g h at_place txs
  pub next : AreNext g h txs more
  pub each : All (IsWrittenOrStale g h at_place) more
  pub rest : (m : ℕ) → sectors_of_txs txs + sectors_of_txs more ≤ m → IsStaleAt g h at_place m
  pub idents : HasNoIdentAbove g h.epoch at_place

-- of the transactions that are being written, s is the sector that stands m after the head
pub record IsSectorOfNext (h : Header) (txs more : List Tx) (m : ℕ) (s : List ℕ) : Type 0 where
  pub index : ℕ
  pub below : index < sectors_of_txs more
  pub place : m ≡ sectors_of_txs txs + index
  pub is : s ≡ slice_index_or (sectors_in_txs h.epoch more) index []

-- a mount lists the transactions, and the first few of those that were being written, which stand written
pub record ListsSome (g : Geometry) (h : Header) (at_place : ℕ → List ℕ) (txs more : List Tx) : Type 0 where
  pub count : ℕ
  pub within : count ≤ length more
  pub begins : BeginsWith g h at_place (txs ++ take count more)
  pub listed : transactions_from g (ring_of g) h (suc (ring_of g)) h.tid 0 (ring_from (ring_of g) h.head at_place) ≡ Listed (txs ++ take count more)
