-- What is read of the ring of the log.
use Rattle.std.specs.Prelude.{ℕ, suc, List}
use Rattle.lufs_base.specs.Layout.{ring_of, ring_place}
use Rattle.lufs_base.specs.declared.geometry.Geometry.{Geometry}
use Rattle.volume_model.specs.declared.log.Header.{Header}
use Rattle.volume_model.specs.Format.{Image, sector}
use Rattle.volume_model.specs.Log.{Transactions, transactions_from, ring_from}

-- the ring of an image once round, from this head on
abbrev pub ring_in : Geometry → (head : ℕ) → Image → List (List ℕ)
ring_in g head image = ring_from (ring_of g) head (λ place. sector image (ring_place g place))

-- the transactions of an image whose log header is this
abbrev pub transactions_of : Geometry → Header → Image → Transactions
transactions_of g h image = transactions_from g (ring_of g) h (suc (ring_of g)) h.tid 0 (ring_in g h.head image)
