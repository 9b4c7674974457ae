-- The three contents of a volume with a journal: what is published, what is sealed, and what calls see.
use Rattle.std.specs.Prelude.{ℕ, ◌==◌, if◌then◌else◌, Bool, true, false, List, [], ◌∷◌, ◌++◌, take, drop, Option, Some, None}
use Rattle.lufs_base.specs.declared.geometry.Geometry.{Geometry}
use Rattle.volume_model.specs.declared.log.Header.{Header}
use Rattle.volume_model.specs.declared.log.Tx.{Tx}
use Rattle.volume_model.specs.Format.{Image}
use Rattle.volume_model.specs.Log.{tx_sectors, replayed}
use Rattle.log_laws.specs.TxsInRing.{trimmed}
use Rattle.journal_model.specs.Journals.{SealedTx, Journal}

pub data Version : Type 0 where
  Published : Version
  Sealed : Version
  Running : Version

-- a mount may recover this version, since the log has it or is getting it
abbrev pub is_logged : Version → Bool
is_logged Published = true
is_logged Sealed = true
is_logged Running = false

abbrev pub tx_in : Option SealedTx → List Tx
tx_in None = []
tx_in (Some s) = s.tx ∷ []

-- the transaction that is sealed, if there is one
abbrev pub sealed_txs : Journal → List Tx
sealed_txs j = tx_in j.sealed

-- it, once a sector of it may be written
abbrev pub tx_written : Option SealedTx → List Tx
tx_written None = []
tx_written (Some s) = if s.written == 0 then [] else s.tx ∷ []

abbrev pub written_txs : Journal → List Tx
written_txs j = tx_written j.sealed

-- the header after the n oldest transactions
abbrev pub header_after : Geometry → Journal → ℕ → Header
header_after g j n = trimmed g j.oldest (take n j.committed)

-- the header that names the next transaction that is sealed
abbrev pub next_header : Geometry → Journal → Header
next_header g j = trimmed g j.oldest (j.committed ++ sealed_txs j)

-- the running transaction as it would be sealed now
abbrev pub running_tx : Geometry → Journal → Tx
running_tx g j = record { tid = (next_header g j).tid; first = (next_header g j).head; sectors = tx_sectors j.running; deltas = j.running }

-- what a version has after the committed transactions
abbrev pub later_of : Geometry → Journal → Version → List Tx
later_of g j Published = []
later_of g j Sealed = sealed_txs j
later_of g j Running = sealed_txs j ++ running_tx g j ∷ []

-- the transactions of a version without the n oldest
abbrev pub txs_after : Geometry → Journal → ℕ → Version → List Tx
txs_after g j n v = drop n j.committed ++ later_of g j v

abbrev pub txs_of : Geometry → Journal → Version → List Tx
txs_of g j v = j.committed ++ later_of g j v

-- the content of a version over what stands at home
abbrev pub content_of : Geometry → Journal → Version → Image → Image
content_of g j v home = replayed home (txs_of g j v)
