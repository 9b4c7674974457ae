-- What a volume holds once its log is replayed.
use Rattle.std.specs.Prelude.{◌≤◌, ◌⊎◌, ℕ, ◌+◌, ◌-◌, ◌*◌, ◌/◌, ◌==◌, nat_le, nat_lt, Bool, not, ◌&&◌, if◌then◌else◌, List, [], ◌∷◌, ◌++◌, length, map, slice_index, Option, Some, None, unwrap_or}
use Rattle.std.specs.List.{list_any, AllByRecursion, filter, filter_map, last_or, range_with_len}
use Rattle.lufs_base.specs.declared.geometry.Geometry.{Geometry}
use Rattle.lufs_base.specs.declared.delta.Delta.{Delta}
use Rattle.volume_model.specs.declared.log.Tx.{Tx}
use Rattle.volume_model.specs.Format.{Image}
use Rattle.lufs_base.specs.Kinds.{has_bytes, is_zero_block, is_cancel}
use Rattle.volume_model.specs.Log.Ring.{Log, NoHeader, WithHeader, Listed, BadRun, log_of}

-- the delta lays bytes over block b
abbrev pub lays_on : (b : ℕ) → Delta → Bool
lays_on b d = d.home / 4096 == b && not (is_cancel d.kind)

-- the transaction cancels this block
abbrev pub cancels : ℕ → Tx → Bool
cancels block tx = list_any (λ d. is_cancel d.kind && d.home / 4096 == block) tx.deltas

-- the deltas, in order, whose blocks no later transaction cancels
abbrev pub live_deltas : List Tx → List Delta
live_deltas [] = []
live_deltas (tx ∷ later) = filter (λ d. not (list_any (cancels (d.home / 4096)) later)) tx.deltas ++ live_deltas later

-- the byte that a delta has i bytes after its home: zeros are laid by a zero block, nothing by a cancel
abbrev pub byte_of : Delta → ℕ → Option ℕ
byte_of d i = if has_bytes d.kind then Some (slice_index d.bytes i) else (if is_zero_block d.kind then Some 0 else None)

-- what a delta gives for the byte at this address, if it covers it
abbrev pub given_at : ℕ → Delta → Option ℕ
given_at address d = if nat_le d.home address && nat_lt address (d.home + d.len) then byte_of d (address - d.home) else None

-- the byte at this address after the replay: what the last of these deltas that covers it gives, or the image's byte
abbrev pub recovered_byte : Image → List Delta → ℕ → ℕ
recovered_byte image deltas address = unwrap_or (last_or None (filter_map (given_at address) deltas)) (slice_index image address)

-- the image with these transactions replayed
unfoldable pub replayed : Image → List Tx → Image
replayed image txs = map (recovered_byte image (live_deltas txs)) (range_with_len 0 (length image))

abbrev pub recovered_by : Image → Log → Option Image
recovered_by image NoHeader = None
recovered_by image (WithHeader h (Listed txs)) = Some (replayed image txs)
recovered_by image (WithHeader h (BadRun tid place)) = None

-- the recovered content of a volume, if its log is a list of transactions
abbrev pub recovered : Geometry → Image → Option Image
recovered g image = recovered_by image (log_of g image)

-- the delta covers no byte of block b
abbrev pub IsElsewhere : ℕ → Delta → Type 0
IsElsewhere b d = (d.home + d.len ≤ 4096 * b) ⊎ (4096 * b + 4096 ≤ d.home)

-- no delta of these transactions covers a byte of block b
abbrev pub IsUncovered : ℕ → List Tx → Type 0
IsUncovered b txs = AllByRecursion (λ tx. AllByRecursion (IsElsewhere b) tx.deltas) txs
