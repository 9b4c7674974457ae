-- Deltas laid over the blocks that they lie in. What reaches past its block isn't laid.
use Rattle.std.specs.Prelude.{◌≤◌, ℕ, ◌+◌, ◌*◌, ◌/◌, ◌%◌, ◌==◌, Bool, not, ◌&&◌, List, length, map, slice_index, Option, None, unwrap_or}
use Rattle.std.specs.List.{AllByRecursion, filter, filter_map, last_or, range_with_len}
use Rattle.lufs_base.specs.declared.delta.Delta.{Delta}
use Rattle.volume_model.specs.declared.log.Tx.{Tx}
use Rattle.volume_model.specs.Format.{Image}
use Rattle.volume_model.specs.Log.{is_cancel, live_deltas, byte_of, given_at, lays_on}

-- what a delta gives for the byte at this place of its block
abbrev pub given_in_block : ℕ → Delta → Option ℕ
given_in_block place d = given_at (4096 * (d.home / 4096) + place) d

-- the byte at this place of a block, with deltas of the block laid over it in order
abbrev pub laid_byte : List Delta → (place byte : ℕ) → ℕ
laid_byte deltas place byte = unwrap_or (last_or None (filter_map (given_in_block place) deltas)) byte

-- the part of a block that a delta covers, from its home on, with the delta laid over it
unfoldable pub laid_part : Delta → List ℕ → List ℕ
laid_part d bytes = map (λ i. unwrap_or (byte_of d i) (slice_index bytes i)) (range_with_len 0 (length bytes))

-- a block with deltas laid over it in order
unfoldable pub laid_block : List Delta → List ℕ → List ℕ
laid_block deltas bytes = map (λ place. laid_byte deltas place (slice_index bytes place)) (range_with_len 0 (length bytes))

-- an image with the deltas of each of its blocks laid over it
unfoldable pub laid_over : (ℕ → List Delta) → Image → Image
laid_over deltas_of image =
    map (λ address. laid_byte (deltas_of (address / 4096)) (address % 4096) (slice_index image address)) (range_with_len 0 (length image))

-- what a replay of these transactions lays over a block, in order
unfoldable pub laid_on : List Tx → ℕ → List Delta
laid_on txs b = filter (lays_on b) (live_deltas txs)

-- the delta lies within one block
abbrev pub IsWithinBlock : Delta → Type 0
IsWithinBlock d = d.home % 4096 + d.len ≤ 4096

-- each delta of these transactions does
abbrev pub AreWithinBlocks : List Tx → Type 0
AreWithinBlocks txs = AllByRecursion (λ tx. AllByRecursion IsWithinBlock tx.deltas) txs
