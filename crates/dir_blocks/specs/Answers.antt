-- What a reader of a chunk answers. Lack of memory says nothing of the bytes.
use Rattle.std.specs.Prelude.{◌≡◌, List, Option, Some, None, Result, Ok, Err}
use Rattle.volume_model.specs.declared.directory.Slot.{Slot}
use Rattle.dir_blocks.specs.declared.chunk.ChunkError.{ChunkError}
use Rattle.dir_blocks.specs.declared.chunk.ChunkError.TheVariants.{Bad, Mem}

-- the answer is the slots of the chunk, or that there is none
abbrev pub IsRead : Option (List Slot) → Result (List Slot) ChunkError → Type 0
IsRead chunk (Ok slots) = chunk ≡ Some slots
IsRead chunk (Err Bad) = chunk ≡ None
IsRead chunk (Err Mem) = Unit {0}
