-- The log with its transactions summed up.
use Rattle.std.specs.Prelude.{◌≡◌, ℕ, List, length, map, Option, Some, None, Result, Ok, Err}
use Rattle.lufs_base.specs.declared.geometry.Geometry.{Geometry}
use Rattle.volume_model.specs.declared.log.Header.{Header}
use Rattle.volume_model.specs.declared.log.Tx.{Tx}
use Rattle.volume_model.specs.Log.{delta_bytes, Log, WithHeader, Transactions, Listed}
use Rattle.log_scan.specs.declared.log.ScanError.{ScanError}
use Rattle.log_scan.specs.declared.summary.TxSummary.{TxSummary}
use Rattle.log_scan.specs.Answers.{IsTx, IsListing, IsScan}

-- what a listing keeps of a transaction
abbrev pub summary_of : Tx → TxSummary
summary_of tx = record { tid = tx.tid; first = tx.first; sectors = tx.sectors; deltas = length tx.deltas; bytes = delta_bytes tx.deltas }

-- the answer sums up the transaction that stands at the front of the rest of the ring, if there is one
abbrev pub IsTxSummary : Geometry → Header → (tid at : ℕ) → List (List ℕ) → Result (Option TxSummary) ScanError → Type 0
IsTxSummary g h tid at rest (Ok (Some summary)) = (tx : Tx) × (summary_of tx ≡ summary) × IsTx g h tid at rest (Ok (Some tx))
IsTxSummary g h tid at rest (Ok None) = IsTx g h tid at rest (Ok None)
IsTxSummary g h tid at rest (Err e) = IsTx g h tid at rest (Err e)

-- the answer sums up the transactions
abbrev pub IsSummed : Transactions → Result (List TxSummary) ScanError → Type 0
IsSummed listing (Ok summaries) = (txs : List Tx) × (listing ≡ Listed txs) × (summaries ≡ map summary_of txs)
IsSummed listing (Err e) = IsListing listing (Err e)

-- the answer sums up the log
abbrev pub IsList : Log → Result (Header × List TxSummary) ScanError → Type 0
IsList log (Ok found) = (txs : List Tx) × (log ≡ WithHeader found.0 (Listed txs)) × (found.1 ≡ map summary_of txs)
IsList log (Err e) = IsScan log (Err e)
