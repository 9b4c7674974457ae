-- The live deltas of a log by their blocks.
use Rattle.std.specs.Prelude.{◌≡◌, ◌<◌, ℕ, ◌+◌, ◌*◌, List, [], length, unwrap_or, option_map}
use Rattle.std.specs.Ordering.{nat_cmp}
use Rattle.std.specs.BTreeMap.{get}
use Rattle.lufs_base.specs.declared.geometry.Geometry.{Geometry}
use Rattle.lufs_base.specs.declared.delta.Delta.{Delta}
use Rattle.volume_model.specs.declared.log.Tx.{Tx}
use Rattle.sector_disk.specs.Disk.{DiskTold}
use Rattle.meta_store.specs.declared.laid.LaidDeltas.{LaidDeltas}
use Rattle.volume_model.specs.Format.{block}
use Rattle.meta_store.specs.Laid.{laid_on, laid_block, laid_over}
use Rattle.meta_store.specs.Store.{StoreTold}

-- the deltas of a block, in order
abbrev pub deltas_of : LaidDeltas → ℕ → List Delta
deltas_of laid b = unwrap_or (get nat_cmp laid.by_block b) []

-- the index has of each block what a replay of these transactions lays over it
abbrev pub IsIndexOf : List Tx → LaidDeltas → Type 0
IsIndexOf txs laid = (b : ℕ) → deltas_of laid b ≡ laid_on txs b

-- what a store tells of a disk that has these deltas laid over it
abbrev pub replayed_told : Geometry → LaidDeltas → DiskTold → StoreTold
replayed_told g laid disk = record { geometry = g; content = option_map (laid_over (deltas_of laid)) disk.present; disk = disk }

-- each of these blocks, from block `first` of the volume on, has what there is for it laid over
abbrev pub AreLaid : LaidDeltas → (first : ℕ) → (old new : List ℕ) → Type 0
AreLaid laid first old new = (k : ℕ) → 4096 * k < length old → block new k ≡ laid_block (deltas_of laid (first + k)) (block old k)
