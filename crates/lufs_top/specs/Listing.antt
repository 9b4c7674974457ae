-- What `scan` prints, by the summaries of the transactions.
use Rattle.std.specs.Prelude.{ℕ, List, [], ◌∷◌, ◌++◌, length, sum_by, codes}
use Rattle.std.specs.List.{flat_map}
use Rattle.lufs_base.specs.declared.geometry.Geometry.{Geometry}
use Rattle.volume_model.specs.declared.log.Header.{Header}
use Rattle.volume_model.specs.Texts.{field, header_line}
use Rattle.log_scan.specs.declared.summary.TxSummary.{TxSummary}

-- the line of a transaction
abbrev pub summed_line : TxSummary → List ℕ
summed_line tx =
    field (codes "tx") tx.tid ++ (field (codes " sectors") tx.sectors
    ++ (field (codes " deltas") tx.deltas ++ (field (codes " bytes") tx.bytes ++ (10 ∷ []))))

-- the last line
abbrev pub total_line : List TxSummary → List ℕ
total_line txs = field (codes "committed") (length txs) ++ (field (codes " sectors") (sum_by (λ tx. tx.sectors) txs) ++ (10 ∷ []))

-- what is printed of a log with this header and these transactions
unfoldable pub listing_text : Geometry → Header → List TxSummary → List ℕ
listing_text g h txs = header_line g h ++ (flat_map summed_line txs ++ total_line txs)
