-- The smallest volume with more in it, and one of two groups, to compute the definitions on.
use Rattle.std.specs.Prelude.{ℕ, zero, suc, ◌+◌, ◌*◌, [], ◌∷◌, replicate, codes}
use Rattle.std.specs.List.{range_with_len}
use Rattle.lufs_base.specs.declared.geometry.Geometry.{Geometry}
use Rattle.volume_model.specs.declared.inode.Dinode.{Dinode}
use Rattle.volume_model.specs.Format.{Blocks, chunk_bytes}
use Rattle.volume_model.specs.Worked.{smallest, made, changed, with_inode, with_bits, with_counts, with_chunk, with_pointers, file, directory, slot, directory_slots, with_root}

-- Two groups of the smallest size. The second has its group record in block 99, its inodes from 32 on in block 100, and its body
-- blocks from 101 to 162.
abbrev pub two_groups : Geometry
two_groups = record smallest { groups = 2 }

-- with an inode 3 that nothing names
abbrev pub with_three : Dinode → Blocks
with_three d = with_inode made 3 d

-- with an empty directory 3, that the root names
abbrev pub with_directory : Blocks
with_directory =
    let root = with_root made (directory_slots 2 2 (slot 3 488 (codes "d") ∷ [])) in
    let chunk = with_chunk root 38 0 (directory_slots 3 2 (slot 0 488 [] ∷ [])) in
    let inodes = with_inode (with_inode chunk 2 (directory 3 512 (37 ∷ []) 0 1)) 3 (directory 2 512 (38 ∷ []) 0 1) in
    with_counts (with_bits inodes 15 15) 28 60

-- Directories 3 and 4, of which each names the other and has it above itself. The root names neither.
abbrev pub with_a_circle : Blocks
with_a_circle =
    let first = with_chunk made 38 0 (directory_slots 3 4 (slot 4 488 (codes "d") ∷ [])) in
    let second = with_chunk first 39 0 (directory_slots 4 3 (slot 3 488 (codes "d") ∷ [])) in
    let inodes = with_inode (with_inode second 3 (directory 3 512 (38 ∷ []) 0 1)) 4 (directory 3 512 (39 ∷ []) 0 1) in
    with_counts (with_bits inodes 31 31) 27 59

-- A directory 3 that has file 4 above itself. The root names both.
abbrev pub with_a_file_above : Blocks
with_a_file_above =
    let root = with_root made (directory_slots 2 2 (slot 3 12 (codes "d") ∷ (slot 4 476 (codes "f") ∷ []))) in
    let chunk = with_chunk root 38 0 (directory_slots 3 4 (slot 0 488 [] ∷ [])) in
    with_inode (with_inode chunk 3 (directory 2 512 (38 ∷ []) 0 1)) 4 (file 2 0 [] 0 0)

-- with so many chunks of one unused slot each from chunk k of a block on
abbrev pub with_unused : Blocks → (block k count : ℕ) → Blocks
with_unused blocks block k count = changed blocks block (512 * k) (chunk_bytes (replicate count (slot 0 512 [])))

-- with unused chunks in all of the count blocks from this one on
abbrev pub all_unused : Blocks → (block count : ℕ) → Blocks
all_unused blocks block zero = blocks
all_unused blocks block (suc count) = all_unused (with_unused blocks block 0 8) (block + 1) count

-- The root has 97 chunks. The first twelve of their blocks are from block 37 on, and the last is block 50, by the pointer
-- block 49.
abbrev pub with_large_root : Blocks
with_large_root =
    let chunks = with_unused (all_unused (all_unused made 38 11) 50 1) 37 1 7 in
    let pointers = with_pointers chunks 49 (50 ∷ []) in
    let root = with_inode pointers 2 (directory 2 49664 (range_with_len 37 12) 49 14) in
    with_counts (changed root 35 160 (255 ∷ (255 ∷ []))) 29 48
