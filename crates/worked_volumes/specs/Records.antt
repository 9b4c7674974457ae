-- The records of the smallest volume as it was made, to compute the definitions on.
use Rattle.std.specs.Prelude.{ℕ, List, ◌∷◌, ◌++◌, replicate}
use Rattle.lufs_base.specs.Fields.{field_bytes}
use Rattle.volume_model.specs.Format.{GroupRecord}

-- the inodes 0, 1 and 2 and the group's first three blocks are in use
abbrev pub made_group : GroupRecord
made_group = record { number = 0; free_inodes = 29; free_blocks = 61; inode_bits = 7 ∷ replicate 127 0; block_bits = 7 ∷ replicate 255 0 }

-- a group record with these numbers and bits, each followed by zeros
abbrev pub group_with : (number : ℕ) → (inode_bits block_bits : List ℕ) → List ℕ
group_with number inode_bits block_bits =
    0 ∷ 9 ∷ 2 ∷ 0x55 ∷ field_bytes 4 number ++ (field_bytes 4 29 ++ (field_bytes 4 61 ++ (replicate 16 0 ++ (inode_bits ++ block_bits))))

-- its bits, with inode 32 or block 64 in use, which it doesn't have
abbrev pub inode_bits : List ℕ
inode_bits = 7 ∷ replicate 127 0

abbrev pub inode_bits_past : List ℕ
inode_bits_past = 7 ∷ 0 ∷ 0 ∷ 0 ∷ 1 ∷ replicate 123 0

abbrev pub block_bits : List ℕ
block_bits = 7 ∷ replicate 255 0

abbrev pub block_bits_past : List ℕ
block_bits_past = 7 ∷ replicate 7 0 ++ (1 ∷ replicate 247 0)

-- an inode record that begins with these numbers, and has 512 bytes in block 37, and these indirect blocks
abbrev pub inode_with : (mode links second third : ℕ) → List ℕ
inode_with mode links second third =
    field_bytes 2 mode ++ field_bytes 2 links ++ replicate 12 0 ++ field_bytes 8 512 ++ field_bytes 8 1000 ++ field_bytes 4 37 ++ replicate 48 0
    ++ field_bytes 4 second ++ field_bytes 4 third ++ field_bytes 4 1 ++ replicate 32 0
