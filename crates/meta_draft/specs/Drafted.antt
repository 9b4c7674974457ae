-- The change that a call is making: what a store tells with it, and the change with one more part.
use Rattle.std.specs.Prelude.{ℕ, if◌then◌else◌, List, [], ◌∷◌, ◌++◌, option_map}
use Rattle.lufs_base.specs.declared.delta.Delta.{Delta}
use Rattle.volume_model.specs.Format.{Image, Blocks, block}
use Rattle.meta_store.specs.declared.change.Change.{Change}
use Rattle.meta_store.specs.declared.change.Freed.{Freed}
use Rattle.meta_store.specs.declared.change.RawWrite.{RawWrite}
use Rattle.meta_store.specs.Store.{StoreTold}
use Rattle.meta_store.specs.Merged.{merged, all_merged}
use Rattle.meta_store.specs.Changes.{changed}
use Rattle.meta_store.specs.Deltas.{cancel_delta}

-- what a store tells, with this change made to its content
abbrev pub drafted : Change → StoreTold → StoreTold
drafted change told = record told { content = option_map (changed change) told.content }

-- the blocks of an image with this change made to it
abbrev pub drafted_blocks : Change → Image → Blocks
drafted_blocks change image = block (changed change image)

-- the change with one more delta
abbrev pub with_delta : Change → Delta → Change
with_delta change d = record change { deltas = merged change.deltas d }

-- and with these, one after the other
abbrev pub with_deltas : Change → List Delta → Change
with_deltas change deltas = record change { deltas = all_merged change.deltas deltas }

-- the change with one more block freed, whose deltas are void if it held metadata
abbrev pub with_freed : Change → Freed → Change
with_freed change f = record change {
  deltas = if f.meta then merged change.deltas (cancel_delta f.block.0) else change.deltas;
  freed = change.freed ++ f ∷ [];
}

-- the change with one more block taken
abbrev pub with_taken : Change → ℕ → Change
with_taken change b = record change { taken = change.taken ++ b ∷ [] }

-- the change with one more raw write
abbrev pub with_raw : Change → RawWrite → Change
with_raw change w = record change { raw = change.raw ++ w ∷ [] }
