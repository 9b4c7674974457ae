-- What `scan` prints of a log.
use Rattle.std.specs.Prelude.{ℕ, List, [], ◌∷◌, ◌++◌, length, sum_by, codes, Option, Some, None, option_and_then}
use Rattle.std.specs.List.{flat_map}
use Rattle.std.specs.Fmt.{decimal}
use Rattle.lufs_base.specs.Layout.{ring_of}
use Rattle.lufs_base.specs.declared.geometry.Geometry.{Geometry}
use Rattle.volume_model.specs.declared.log.Header.{Header}
use Rattle.volume_model.specs.declared.log.Tx.{Tx}
use Rattle.volume_model.specs.Format.{Image, geometry_of}
use Rattle.volume_model.specs.Log.{delta_bytes, Log, NoHeader, WithHeader, Listed, BadRun, log_of}

-- a word and a number after it
abbrev pub field : List ℕ → ℕ → List ℕ
field word n = word ++ (32 ∷ decimal n)

abbrev pub header_line : Geometry → Header → List ℕ
header_line g h =
    field (codes "epoch") h.epoch ++ (field (codes " head") h.head ++ (field (codes " tid") h.tid ++ (field (codes " ring") (ring_of g) ++ (10 ∷ []))))

abbrev pub tx_line : Tx → List ℕ
tx_line tx =
    field (codes "tx") tx.tid ++ (field (codes " sectors") tx.sectors
    ++ (field (codes " deltas") (length tx.deltas) ++ (field (codes " bytes") (delta_bytes tx.deltas) ++ (10 ∷ []))))

abbrev pub summary_line : List Tx → List ℕ
summary_line txs = field (codes "committed") (length txs) ++ (field (codes " sectors") (sum_by (λ tx. tx.sectors) txs) ++ (10 ∷ []))

-- what is printed of a log with this header and these transactions
unfoldable pub scan_text : Geometry → Header → List Tx → List ℕ
scan_text g h txs = header_line g h ++ (flat_map tx_line txs ++ summary_line txs)

abbrev pub text_of_log : Geometry → Log → Option (List ℕ)
text_of_log g NoHeader = None
text_of_log g (WithHeader h (Listed txs)) = Some (scan_text g h txs)
text_of_log g (WithHeader h (BadRun tid place)) = None

-- what `scan` prints of an image, if it is a volume with a log that is not bad
unfoldable pub scan_text_of : Image → Option (List ℕ)
scan_text_of image = option_and_then (λ g. text_of_log g (log_of g image)) (geometry_of image)
