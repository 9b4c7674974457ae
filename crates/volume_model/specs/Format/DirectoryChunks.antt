-- A chunk of a directory: 512 bytes, filled by a row of slots, each with the number of an inode and
-- its name. A slot with inode 0 is unused, and has the empty name.
use Rattle.std.specs.Prelude.{◌≡◌, ◌≢◌, ◌≤◌, ◌<◌, ℕ, zero, suc, ◌+◌, ◌-◌, ◌*◌, ◌/◌, ◌%◌, ◌^◌, ◌==◌, nat_le, Bool, not, ◌&&◌, ◌||◌, if◌then◌else◌, List, [], ◌∷◌, ◌++◌, length, bytes_eq, take, drop, replicate, sum_by, position, All, Option, Some, None, option_map, slice_index, slice_get, IsSomeAnd}
use Rattle.std.specs.List.{flat_map}
use Rattle.std.specs.Option.{option_map_or}
use Rattle.lufs_base.specs.Fields.{u16_at, u32_at, field_bytes}
use Rattle.lufs_base.specs.Name.{is_name, IsName}
use Rattle.volume_model.specs.declared.directory.Slot.{Slot}

-- The least bytes of a slot in use whose name has so many bytes: 8 bytes of numbers, the name, and a
-- zero byte after it, up to a multiple of four.
abbrev pub least_length : ℕ → ℕ
least_length name_length = 8 + 4 * ((name_length + 4) / 4)

-- what the bytes of a slot mean
abbrev pub slot_at : List ℕ → Slot
slot_at bytes = record {
  ino = u32_at bytes 0;
  len = u16_at bytes 4;
  name = if u32_at bytes 0 == 0 then [] else take (u16_at bytes 6) (drop 8 bytes);
}

-- the bytes of a slot have a right name, a zero byte after it, and room for both
abbrev pub is_named : List ℕ → Bool
is_named bytes =
    nat_le (least_length (u16_at bytes 6)) (u16_at bytes 4) && is_name (take (u16_at bytes 6) (drop 8 bytes))
    && slice_index bytes (8 + u16_at bytes 6) == 0

-- a slot stands at the front of these bytes, and ends in them
abbrev pub is_slot : List ℕ → Bool
is_slot bytes =
    nat_le 12 (u16_at bytes 4) && nat_le (u16_at bytes 4) (length bytes) && u16_at bytes 4 % 4 == 0
    && (u32_at bytes 0 == 0 || is_named bytes)

-- The slots that fill the bytes. Each takes bytes, so there are no more slots than bytes.
unfoldable pub slots_in : ℕ → List ℕ → Option (List Slot)
slots_in more [] = Some []
slots_in zero (b ∷ bytes) = None
slots_in (suc more) (b ∷ bytes) =
    if is_slot (b ∷ bytes)
    then option_map (λ slots. slot_at (b ∷ bytes) ∷ slots) (slots_in more (drop (u16_at (b ∷ bytes) 4) (b ∷ bytes)))
    else None

-- the slots of a chunk, if these bytes are one
abbrev pub chunk_of : List ℕ → Option (List Slot)
chunk_of bytes = if length bytes == 512 then slots_in 512 bytes else None

-- the bytes of a slot, with zeros where a reader ignores them
abbrev pub slot_bytes : Slot → List ℕ
slot_bytes s =
    field_bytes 4 s.ino ++ (field_bytes 2 s.len ++ (field_bytes 2 (length s.name) ++ (s.name ++ replicate (s.len - 8 - length s.name) 0)))

-- the bytes of a chunk
abbrev pub chunk_bytes : List Slot → List ℕ
chunk_bytes slots = flat_map slot_bytes slots

-- a slot that may be written
pub record IsSlot (s : Slot) : Type 0 where
  pub ino : s.ino < 2 ^ 32
  pub low : 12 ≤ s.len
  pub step : s.len % 4 ≡ 0
  pub unused : s.ino ≡ 0 → s.name ≡ []
  pub named : s.ino ≢ 0 → IsName s.name
  pub room : s.ino ≢ 0 → least_length (length s.name) ≤ s.len

-- the slots that may be written as a chunk
pub record IsChunk (slots : List Slot) : Type 0 where
  pub full : sum_by (λ s. s.len) slots ≡ 512
  pub right : All IsSlot slots

-- the bytes of a slot that it can't spare
abbrev pub kept_length : Slot → ℕ
kept_length s = if s.ino == 0 then 0 else least_length (length s.name)

-- the first slot that can spare the bytes of a new slot with this name
abbrev pub room_in : List Slot → List ℕ → Option ℕ
room_in slots name = position (λ s. nat_le (least_length (length name)) (s.len - kept_length s)) slots

-- The slots in the place of one that takes a name: an unused slot is taken over, and one in use is
-- cut to what it can't spare, with a new slot after it.
abbrev pub entered : Slot → List ℕ → ℕ → List Slot
entered s name i =
    if s.ino == 0 then record s { ino = i; name = name } ∷ []
    else record s { len = kept_length s } ∷ (record { ino = i; len = s.len - kept_length s; name = name } ∷ [])

-- the slot at this place takes a name for inode i
abbrev pub with_name_at : List Slot → ℕ → List ℕ → ℕ → List Slot
with_name_at [] place name i = []
with_name_at (s ∷ slots) zero name i = entered s name i ++ slots
with_name_at (s ∷ slots) (suc place) name i = s ∷ with_name_at slots place name i

-- the first slot with room takes a name for inode i
abbrev pub with_name : List Slot → List ℕ → ℕ → List Slot
with_name slots name i = option_map_or (λ place. with_name_at slots place name i) (room_in slots name) slots

-- the slot at this place names inode i
abbrev pub with_ino : List Slot → ℕ → ℕ → List Slot
with_ino [] place i = []
with_ino (s ∷ slots) zero i = record s { ino = i } ∷ slots
with_ino (s ∷ slots) (suc place) i = s ∷ with_ino slots place i

-- the slot at this place, after slot s, gives its bytes to the slot before it
abbrev pub joined : Slot → List Slot → ℕ → List Slot
joined s [] place = s ∷ []
joined s (t ∷ slots) zero = record s { len = s.len + t.len } ∷ slots
joined s (t ∷ slots) (suc place) = s ∷ joined t slots place

-- The slot at this place is removed: the first slot becomes unused, and another one gives its bytes to
-- the slot before it.
abbrev pub without_slot : List Slot → ℕ → List Slot
without_slot [] place = []
without_slot (s ∷ slots) zero = record { ino = 0; len = s.len; name = [] } ∷ slots
without_slot (s ∷ slots) (suc place) = joined s slots place

-- the first slot in use with this name
abbrev pub found_at : List Slot → List ℕ → Option ℕ
found_at slots name = position (λ s. not (s.ino == 0) && bytes_eq s.name name) slots

-- the chunk has a slot at this place, and it is in use
abbrev pub IsUsed : List Slot → ℕ → Type 0
IsUsed slots place = IsSomeAnd (slice_get slots place) (λ s. s.ino ≢ 0)

-- the one slot of a chunk that is appended for a name
abbrev pub one_slot : List ℕ → ℕ → List Slot
one_slot name i = record { ino = i; len = 512; name = name } ∷ []

-- the slots of a new directory: it names itself, and its parent
abbrev pub new_directory : (this parent : ℕ) → List Slot
new_directory this parent =
    record { ino = this; len = 12; name = 46 ∷ [] } ∷ (record { ino = parent; len = 500; name = 46 ∷ 46 ∷ [] } ∷ [])
