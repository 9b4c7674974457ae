-- The smallest volume as it was made, and with more in it, to compute the definitions on. Its one group has the group
-- record in block 35, the inode records in block 36, and the root's chunk in block 37.
use Rattle.std.specs.Prelude.{ℕ, ◌-◌, ◌*◌, ◌==◌, true, false, List, [], ◌∷◌, ◌++◌, length, replicate, Some, unwrap_or, codes}
use Rattle.lufs_base.specs.Fields.{field_bytes, put_at}
use Rattle.lufs_base.specs.declared.geometry.Geometry.{Geometry}
use Rattle.volume_model.specs.declared.inode.Dinode.{Dinode}
use Rattle.volume_model.specs.declared.directory.Slot.{Slot}
use Rattle.volume_model.specs.Format.{Blocks, dinode_bytes, chunk_bytes, pointer_bytes}
use Rattle.volume_model.specs.Sound.{dot, dot_dot}
use Rattle.volume_model.specs.MkfsImage.{made_block}
use Rattle.volume_model.specs.Worked.Logs.{smallest}

-- as made at moment 1000, with zeros in what mkfs leaves alone
abbrev pub made_of : Geometry → Blocks
made_of g b = unwrap_or (made_block g 1000 b) (replicate 4096 0)

abbrev pub made : Blocks
made = made_of smallest

-- the root, with its first chunk in block 37
abbrev pub made_root : Dinode
made_root = record {
  mode = 0x41ed;
  links = 2;
  uid = 0;
  gid = 0;
  size = 512;
  mtime = 1000;
  direct = 37 ∷ replicate 11 0;
  indirect = 0 ∷ 0 ∷ 0 ∷ [];
  blocks = 1;
}

-- with these bytes in the place of those of a block (by `elim`, which computes only the block that is asked for)
abbrev pub replaced : Blocks → (block : ℕ) → List ℕ → Blocks
replaced blocks block bytes b = elim (b == block) [ true ↦ bytes | false ↦ blocks b ]

-- with these bytes in the place of those from byte `at` of a block on
abbrev pub changed : Blocks → (block at : ℕ) → List ℕ → Blocks
changed blocks block at bytes = replaced blocks block (put_at (blocks block) at bytes)

-- with this inode as inode i
abbrev pub with_inode : Blocks → ℕ → Dinode → Blocks
with_inode blocks i d = changed blocks 36 (128 * i) (dinode_bytes (Some d))

-- with these bits of the first eight inodes, and of the first eight blocks of the group
abbrev pub with_bits : Blocks → (inodes others : ℕ) → Blocks
with_bits blocks inodes others = changed (changed blocks 35 32 (inodes ∷ [])) 35 160 (others ∷ [])

-- with these counts of free inodes and free blocks
abbrev pub with_counts : Blocks → (inodes others : ℕ) → Blocks
with_counts blocks inodes others = changed blocks 35 8 (field_bytes 4 inodes ++ field_bytes 4 others)

-- with these slots in chunk k of a block
abbrev pub with_chunk : Blocks → (block k : ℕ) → List Slot → Blocks
with_chunk blocks block k slots = changed blocks block (512 * k) (chunk_bytes slots)

-- with these numbers at the front of a pointer block
abbrev pub with_pointers : Blocks → (block : ℕ) → List ℕ → Blocks
with_pointers blocks block numbers = changed blocks block 0 (pointer_bytes numbers)

-- An inode with this mode: its links, its size, its direct blocks, its pointer block, and how many blocks it says that it
-- claims.
abbrev pub inode_of : (mode links size : ℕ) → (direct : List ℕ) → (pointer claimed : ℕ) → Dinode
inode_of mode links size direct pointer claimed = record {
  mode = mode;
  links = links;
  uid = 7;
  gid = 8;
  size = size;
  mtime = 2000;
  direct = direct ++ replicate (12 - length direct) 0;
  indirect = pointer ∷ (0 ∷ (0 ∷ []));
  blocks = claimed;
}

-- a file of mode 644, a directory of mode 755, and a link
abbrev pub file : (links size : ℕ) → (direct : List ℕ) → (pointer claimed : ℕ) → Dinode
file = inode_of 0x81a4

abbrev pub directory : (links size : ℕ) → (direct : List ℕ) → (pointer claimed : ℕ) → Dinode
directory = inode_of 0x41ed

abbrev pub link : (links size : ℕ) → (direct : List ℕ) → (pointer claimed : ℕ) → Dinode
link = inode_of 0xa1ff

-- a slot of so many bytes that names an inode
abbrev pub slot : (ino len : ℕ) → List ℕ → Slot
slot ino len name = record { ino = ino; len = len; name = name }

-- the slots of a directory: itself, the one above it, and then these, which have 488 bytes
abbrev pub directory_slots : (this parent : ℕ) → List Slot → List Slot
directory_slots this parent slots = slot this 12 dot ∷ (slot parent 12 dot_dot ∷ slots)

-- with these slots in the root
abbrev pub with_root : Blocks → List Slot → Blocks
with_root blocks slots = with_chunk blocks 37 0 slots

-- with a file 3 of one block, that the root names
abbrev pub with_file : Blocks
with_file =
    let root = with_root made (directory_slots 2 2 (slot 3 488 (codes "a") ∷ [])) in
    let inodes = with_inode root 3 (file 1 4096 (38 ∷ []) 0 1) in
    with_counts (with_bits inodes 15 15) 28 60

-- The root names directory 4, and file 3, which has two blocks, one of them by its pointer block 39, and holes between
-- them. The directory has two chunks: it names the file too, and a link.
abbrev pub with_all : Blocks
with_all =
    let root = with_root made (directory_slots 2 2 (slot 4 12 (codes "d") ∷ (slot 3 476 (codes "f") ∷ []))) in
    let first = with_chunk root 41 0 (directory_slots 4 2 (slot 3 488 (codes "g") ∷ [])) in
    let second = with_chunk first 41 1 (slot 5 512 (codes "l") ∷ []) in
    let bytes = changed (replaced (replaced second 38 (replicate 4096 1)) 40 (replicate 4096 2)) 42 0 (codes "/f") in
    let pointers = with_pointers bytes 39 (40 ∷ []) in
    let two = with_inode pointers 2 (directory 3 512 (37 ∷ []) 0 1) in
    let three = with_inode two 3 (file 2 50000 (38 ∷ []) 39 3) in
    let four = with_inode three 4 (directory 2 1024 (41 ∷ []) 0 1) in
    let five = with_inode four 5 (link 1 2 (42 ∷ []) 0 1) in
    with_counts (with_bits five 63 255) 26 56

-- a new volume with the bits of inode 3 and of block 38 set, and counts that fit them
abbrev pub with_held_bits : Blocks
with_held_bits = with_counts (with_bits made 15 15) 28 60
