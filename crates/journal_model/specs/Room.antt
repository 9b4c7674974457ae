-- The room of the ring: what transactions take of it, and what the calls inside have reserved.
use Rattle.std.specs.Prelude.{◌≤◌, ◌⊎◌, ℕ, ◌+◌, length}
use Rattle.lufs_base.specs.Layout.{ring_of}
use Rattle.lufs_base.specs.declared.geometry.Geometry.{Geometry}
use Rattle.volume_model.specs.Log.{delta_bytes, Fits}
use Rattle.log_laws.specs.TxsInRing.{sectors_of_txs}
use Rattle.journal_model.specs.Journals.{Journal}
use Rattle.journal_model.specs.Versions.{sealed_txs}

-- the sectors of the committed transactions, and of the sealed one
abbrev pub used_sectors : Journal → ℕ
used_sectors j = sectors_of_txs j.committed

abbrev pub sealed_sectors : Journal → ℕ
sealed_sectors j = sectors_of_txs (sealed_txs j)

-- the bytes of the running deltas, and those that calls may still log
abbrev pub pending_bytes : Journal → ℕ
pending_bytes j = delta_bytes j.running + j.unspent

-- with so many bytes more the running transaction has room in the ring
abbrev pub HasSpaceFor : Geometry → Journal → (need : ℕ) → Type 0
HasSpaceFor g j need = Fits (ring_of g) (used_sectors j) (sealed_sectors j) (pending_bytes j) need

-- the running transaction has a delta, or may get one
abbrev pub IsOpen : Journal → Type 0
IsOpen j = (1 ≤ length j.running) ⊎ (1 ≤ j.members)
