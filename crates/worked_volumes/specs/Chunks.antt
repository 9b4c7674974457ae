-- Small chunks and a pointer block, to compute the definitions on.
use Rattle.std.specs.Prelude.{ℕ, List, [], ◌∷◌, ◌++◌, replicate}
use Rattle.volume_model.specs.declared.directory.Slot.{Slot}

-- the chunk of a new root: inode 2 with `.` in 12 bytes, inode 2 with `..` in 500
abbrev pub root_chunk : List ℕ
root_chunk =
    0 ∷ 0 ∷ 0 ∷ 2 ∷ 0 ∷ 12 ∷ 0 ∷ 1 ∷ 46 ∷ 0 ∷ 0 ∷ 0 ∷ []
    ++ 0 ∷ 0 ∷ 0 ∷ 2 ∷ 1 ∷ 244 ∷ 0 ∷ 2 ∷ 46 ∷ 46 ∷ replicate 490 0

-- the same with lengths 13 and 499
abbrev pub odd_chunk : List ℕ
odd_chunk =
    0 ∷ 0 ∷ 0 ∷ 2 ∷ 0 ∷ 13 ∷ 0 ∷ 1 ∷ 46 ∷ 0 ∷ 0 ∷ 0 ∷ 0 ∷ []
    ++ 0 ∷ 0 ∷ 0 ∷ 2 ∷ 1 ∷ 243 ∷ 0 ∷ 2 ∷ 46 ∷ 46 ∷ replicate 489 0

-- the name `1`
abbrev pub one : List ℕ
one = 49 ∷ []

-- the root with inode 5 entered by that name
abbrev pub root_with_one : List Slot
root_with_one =
    record { ino = 2; len = 12; name = 46 ∷ [] } ∷ (record { ino = 2; len = 12; name = 46 ∷ 46 ∷ [] }
    ∷ (record { ino = 5; len = 488; name = one } ∷ []))

-- the same with its first slot removed
abbrev pub root_after_one : List Slot
root_after_one =
    record { ino = 0; len = 12; name = [] } ∷ (record { ino = 2; len = 12; name = 46 ∷ 46 ∷ [] }
    ∷ (record { ino = 5; len = 488; name = one } ∷ []))

-- a pointer block with numbers 37 and 0x01020304, and zeros
abbrev pub pointer_block : List ℕ
pointer_block = 0 ∷ 0 ∷ 0 ∷ 37 ∷ 1 ∷ 2 ∷ 3 ∷ 4 ∷ replicate 4088 0

abbrev pub pointers : List ℕ
pointers = 37 ∷ 0x01020304 ∷ replicate 1022 0
