-- Which blocks transactions lay bytes over, and which they cancel.
use Rattle.std.specs.Prelude.{ℕ, ◌/◌, ◌==◌, Bool, not, ◌&&◌, List, Option, None}
use Rattle.std.specs.List.{list_any, filter_map, last_or}
use Rattle.lufs_base.specs.declared.delta.Delta.{Delta}
use Rattle.volume_model.specs.declared.log.Tx.{Tx}
use Rattle.volume_model.specs.Format.{Image}
use Rattle.volume_model.specs.Log.{is_cancel, cancels, given_at, live_deltas, recovered_byte, lays_on}

-- what deltas, laid in order, give for the byte at an address
abbrev pub given_by : List Delta → ℕ → Option ℕ
given_by deltas address = last_or None (filter_map (given_at address) deltas)

-- the byte at an address once these transactions are replayed
abbrev pub replayed_byte : Image → List Tx → ℕ → ℕ
replayed_byte image txs address = recovered_byte image (live_deltas txs) address

-- a replay of the transactions lays bytes over block b
abbrev pub is_laid_by : List Tx → ℕ → Bool
is_laid_by txs b = list_any (lays_on b) (live_deltas txs)

-- one of the deltas cancels block b
abbrev pub is_cancelled_in : List Delta → ℕ → Bool
is_cancelled_in deltas b = list_any (λ d. is_cancel d.kind && d.home / 4096 == b) deltas

-- one of the transactions cancels block b
abbrev pub is_cancelled_by : List Tx → ℕ → Bool
is_cancelled_by txs b = list_any (cancels b) txs
