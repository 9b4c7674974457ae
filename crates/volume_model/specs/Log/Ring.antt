-- The log of a volume, read at once: its header, and the committed transactions in the ring after it.
use Rattle.std.specs.Prelude.{ℕ, zero, suc, ◌+◌, ◌%◌, ◌==◌, Bool, ◌&&◌, List, [], ◌∷◌, length, take, drop, map, take_while, Option, Some, None}
use Rattle.std.specs.List.{flat_map, range_with_len}
use Rattle.lufs_base.specs.Layout.{payload_size, ring_of, header_sector, ring_place}
use Rattle.lufs_base.specs.declared.geometry.Geometry.{Geometry}
use Rattle.volume_model.specs.declared.log.Header.{Header}
use Rattle.volume_model.specs.declared.log.Tx.{Tx}
use Rattle.volume_model.specs.Format.{Image, sector}
use Rattle.volume_model.specs.Log.LogHeader.{header_of}
use Rattle.volume_model.specs.Log.LogTrailer.{trailer_of}
use Rattle.volume_model.specs.Log.LogRun.{Run, Whole, Short, Bad, run_of}

-- the transactions of a log, or the first run that is bad, by its transaction and its first ring place
pub data Transactions : Type 0 where
  Listed : List Tx → Transactions
  BadRun : (tid place : ℕ) → Transactions

pub data Log : Type 0 where
  NoHeader : Log
  WithHeader : Header → Transactions → Log

-- the sector belongs to this transaction of this epoch
abbrev pub belongs_to : ℕ → ℕ → List ℕ → Bool
belongs_to epoch tid s = (trailer_of s).tid == tid && (trailer_of s).ident == epoch

-- the longest row of such sectors at the front
abbrev pub row_of : ℕ → ℕ → List (List ℕ) → List (List ℕ)
row_of epoch tid ring = take_while (belongs_to epoch tid) ring

-- what the sectors carry, without their trailers
abbrev pub payload_of : List (List ℕ) → List ℕ
payload_of row = flat_map (λ s. take payload_size s) row

abbrev pub with_tx : Tx → Transactions → Transactions
with_tx tx (Listed txs) = Listed (tx ∷ txs)
with_tx tx (BadRun tid place) = BadRun tid place

-- the transactions that begin with this run; `more` gives those after it
abbrev pub transactions_at : Run → (tid place sectors : ℕ) → (Unit {0} → Transactions) → Transactions
transactions_at (Whole deltas) tid place sectors more =
    with_tx (record { tid = tid; first = place; sectors = sectors; deltas = deltas }) (more tt)
transactions_at Short tid place sectors more = Listed []
transactions_at Bad tid place sectors more = BadRun tid place

-- The transactions from tid on, in what is left of a ring of so many places from its sector `at` after the head on.
-- Each takes a sector, so there are no more of them than sectors.
unfoldable pub transactions_from : Geometry → (places : ℕ) → Header → ℕ → ℕ → ℕ → List (List ℕ) → Transactions
transactions_from g places h zero tid at ring = Listed []
transactions_from g places h (suc more) tid at ring =
    let row = row_of h.epoch tid ring in
    transactions_at (run_of g tid (payload_of row)) tid ((h.head + at) % places) (length row)
    (λ _. transactions_from g places h more (tid + 1) (at + length row) (drop (length row) ring))

-- a ring of so many places once round, from this place on
abbrev pub ring_from : (places head : ℕ) → (ℕ → List ℕ) → List (List ℕ)
ring_from places head at_place = map (λ i. at_place ((head + i) % places)) (range_with_len 0 places)

abbrev pub log_after : Geometry → (ℕ → List ℕ) → Option Header → Log
log_after g at_place None = NoHeader
log_after g at_place (Some h) = WithHeader h (transactions_from g (ring_of g) h (suc (ring_of g)) h.tid 0 (ring_from (ring_of g) h.head at_place))

-- the log of a header sector and a ring with these sectors at its places
unfoldable pub log_with : Geometry → List ℕ → (ℕ → List ℕ) → Log
log_with g header at_place = log_after g at_place (header_of g header)

-- the log of a volume
abbrev pub log_of : Geometry → Image → Log
log_of g image = log_with g (sector image (header_sector g)) (λ place. sector image (ring_place g place))
