-- Transactions as they stand in the ring of a log, one after the other from its head on.
use Rattle.std.specs.Prelude.{◌≡◌, ◌<◌, ℕ, ◌+◌, ◌%◌, List, [], ◌∷◌, length, sum_by}
use Rattle.std.specs.List.{flat_map}
use Rattle.lufs_base.specs.Layout.{ring_of}
use Rattle.lufs_base.specs.declared.geometry.Geometry.{Geometry}
use Rattle.volume_model.specs.declared.log.Header.{Header}
use Rattle.volume_model.specs.declared.log.Tx.{Tx}
use Rattle.volume_model.specs.Format.{sector, sectors_in}
use Rattle.volume_model.specs.Log.{AreLoggable, tx_sectors, tx_bytes}

-- the sectors that a transaction is written as
abbrev pub sectors_in_tx : (epoch : ℕ) → Tx → List (List ℕ)
sectors_in_tx epoch tx = sectors_in (tx_bytes tx.deltas tx.tid epoch)

-- those of the transactions, one after the other
abbrev pub sectors_in_txs : (epoch : ℕ) → List Tx → List (List ℕ)
sectors_in_txs epoch txs = flat_map (sectors_in_tx epoch) txs

-- how many sectors the transactions take
abbrev pub sectors_of_txs : List Tx → ℕ
sectors_of_txs txs = sum_by (λ tx. tx.sectors) txs

-- the transaction has this number, and its sectors follow the first `at` after the head
pub record StandsAt (g : Geometry) (head at tid : ℕ) (tx : Tx) : Type 0 where
  pub number : tx.tid ≡ tid
  pub first : tx.first ≡ (head + at) % ring_of g
  pub size : tx.sectors ≡ tx_sectors tx.deltas
  pub loggable : AreLoggable g tx.deltas

-- the transactions have the numbers from tid on, and stand one after the other, after the first `at` sectors
abbrev pub StandFrom : Geometry → (head at tid : ℕ) → List Tx → Type 0
StandFrom g head at tid [] = Unit {0}
StandFrom g head at tid (tx ∷ txs) = StandsAt g head at tid tx × StandFrom g head (at + tx.sectors) (tid + 1) txs

-- the first n sectors of the transaction are at their places as they are written
pub record IsWrittenUpTo (g : Geometry) (epoch : ℕ) (at_place : ℕ → List ℕ) (n : ℕ) (tx : Tx) : Type 0 where
  pub each : (i : ℕ) → i < n → at_place ((tx.first + i) % ring_of g) ≡ sector (tx_bytes tx.deltas tx.tid epoch) i

-- and so are all its sectors
abbrev pub IsWritten : Geometry → (epoch : ℕ) → (ℕ → List ℕ) → Tx → Type 0
IsWritten g epoch at_place tx = IsWrittenUpTo g epoch at_place tx.sectors tx

-- the header after these transactions are trimmed: it names what comes after them
abbrev pub trimmed : Geometry → Header → List Tx → Header
trimmed g h txs = record { epoch = h.epoch; head = (h.head + sectors_of_txs txs) % ring_of g; tid = h.tid + length txs }
