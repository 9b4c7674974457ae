-- The slots of one directory.
use Rattle.std.specs.Prelude.{◌≡◌, ℕ, ◌*◌, ◌==◌, Bool, false, true, not, List, [], take, drop, map, Option, Some, None, is_some, unwrap_or, slice_get}
use Rattle.std.specs.List.{filter, flat_map, list_all, list_any, range_with_len}
use Rattle.std.specs.Option.{option_flatten}
use Rattle.volume_model.specs.declared.directory.Slot.{Slot}
use Rattle.volume_model.specs.Format.{chunk_of}
use Rattle.fsck_core.specs.declared.entries.Entry.{Entry}
use Rattle.fsck_core.specs.declared.inodes.Brief.{Brief}

-- the slot that stands there
abbrev pub slot_of : Entry → Slot
slot_of e = record { ino = e.ino; len = e.len; name = e.name.now }

-- those in use
abbrev pub used_slots : List Slot → List Slot
used_slots slots = filter (λ s. not (s.ino == 0)) slots

-- an inode of this number is in use
abbrev pub is_used_among : List (Option Brief) → ℕ → Bool
is_used_among inodes i = is_some (option_flatten (slice_get inodes i))

-- a slot in use names an inode that isn't
abbrev pub unused_named : List (Option Brief) → List Slot → Bool
unused_named inodes slots = list_any (λ s. not (is_used_among inodes s.ino)) (used_slots slots)

-- the first so many chunks of a block
abbrev pub chunks_in : (bytes : List ℕ) → ℕ → List (Option (List Slot))
chunks_in bytes count = map (λ k. chunk_of (take 512 (drop (512 * k) bytes))) (range_with_len 0 count)

-- the slots in these chunks; one that is none has none
abbrev pub slots_in_chunks : List (Option (List Slot)) → List Slot
slots_in_chunks chunks = flat_map (λ chunk. unwrap_or chunk []) chunks

-- These are the slots in the chunks of a directory, or one of these is none.
abbrev pub AreSlots : List (Option (List Slot)) → Option (List Slot) → Type 0
AreSlots chunks None = list_all is_some chunks ≡ false
AreSlots chunks (Some slots) = (list_all is_some chunks ≡ true) × (slots ≡ slots_in_chunks chunks)
