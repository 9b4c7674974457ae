-- The parts of what a change must be to be recorded, as tests.
use Rattle.std.specs.Prelude.{ℕ, ◌+◌, ◌*◌, ◌/◌, ◌%◌, ◌==◌, nat_lt, nat_le, Bool, not, ◌&&◌, ◌||◌, List, length}
use Rattle.std.specs.List.{list_all, list_any}
use Rattle.lufs_base.specs.declared.geometry.Geometry.{Geometry}
use Rattle.lufs_base.specs.declared.delta.Delta.{Delta}
use Rattle.volume_model.specs.Format.{is_body}
use Rattle.volume_model.specs.Log.{is_cancel}
use Rattle.meta_store.specs.declared.change.Change.{Change}
use Rattle.meta_store.specs.declared.change.Freed.{Freed}
use Rattle.meta_store.specs.declared.change.RawWrite.{RawWrite}

-- a delta of these cancels block b
abbrev pub cancels : List Delta → (b : ℕ) → Bool
cancels deltas b = list_any (λ d. is_cancel d.kind && d.home / 4096 == b) deltas

-- block b is one of these that held metadata
abbrev pub frees_as_metadata : List Freed → (b : ℕ) → Bool
frees_as_metadata freed b = list_any (λ f. f.block.0 == b && f.meta) freed

-- each block that is cancelled is freed, and held metadata; and the other way round
abbrev pub are_cancels_freed : List Delta → List Freed → Bool
are_cancels_freed deltas freed = list_all (λ d. not (is_cancel d.kind) || frees_as_metadata freed (d.home / 4096)) deltas

abbrev pub are_freed_cancelled : List Delta → List Freed → Bool
are_freed_cancelled deltas freed = list_all (λ f. not f.meta || cancels deltas f.block.0) freed

-- the raw write is of whole sectors of one body block
abbrev pub is_in_block : Geometry → RawWrite → Bool
is_in_block g w =
    nat_lt 0 (length w.bytes) && length w.bytes % 512 == 0 && nat_le (512 * (w.first % 8) + length w.bytes) 4096 && is_body g (w.first / 8)

-- what is asked of a change besides that its deltas may be those of one transaction
abbrev pub passes : Geometry → Change → Bool
passes g change =
    are_cancels_freed change.deltas change.freed && are_freed_cancelled change.deltas change.freed && list_all (is_in_block g) change.raw
