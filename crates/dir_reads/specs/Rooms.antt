-- Where a name may be entered.
use Rattle.std.specs.Prelude.{ℕ, ◌==◌, ◌%◌, if◌then◌else◌, List}
use Rattle.volume_model.specs.Sound.{Tree}
use Rattle.history_model.specs.Refusals.{cannot_grow}
use Rattle.history_model.specs.Wants.{has_no_room, blocks_for_name}
use Rattle.dir_reads.specs.declared.space.Room.{Room}
use Rattle.dir_reads.specs.declared.space.Room.TheVariants.{Fits, NewChunk, NewBlock, Past}

-- where directory `dir` has room for the name: in a chunk, in one more chunk, which needs no block more, or with more blocks
abbrev pub room_for : Tree → (dir : ℕ) → (name : List ℕ) → Room
room_for tree dir name =
    if cannot_grow tree dir name then Past
    else (if has_no_room tree dir name then (if blocks_for_name tree dir name == 0 then NewChunk else NewBlock) else Fits)

-- where there is room for one more chunk after so many
abbrev pub room_after : (chunks : ℕ) → Room
room_after chunks = if chunks == 2048 then Past else (if chunks % 8 == 0 then NewBlock else NewChunk)
