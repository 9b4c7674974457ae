-- The bytes of files, as calls read and change them.
use Rattle.std.specs.Prelude.{ℕ, ◌+◌, ◌-◌, ◌*◌, ◌/◌, ◌%◌, ◌==◌, nat_lt, nat_le, min, max, Bool, not, ◌&&◌, if◌then◌else◌, List, [], ◌∷◌, ◌++◌, length, take, drop, replicate, Option, Some, None, is_some, unwrap_or, slice_get, option_map}
use Rattle.std.specs.List.{range_with_len, flat_map, count_by}
use Rattle.std.specs.Option.{option_flatten}
use Rattle.lufs_base.specs.Fields.{put_at}
use Rattle.volume_model.specs.Sound.{Single, FileNode, size_in_blocks, direct_blocks, pointers_of_block}

-- the largest size of a file
abbrev pub greatest_size : ℕ
greatest_size = 4096 * (direct_blocks + pointers_of_block)

-- the largest size for which no pointer block is needed
abbrev pub direct_size : ℕ
direct_size = 4096 * direct_blocks

-- the block at this index, or a hole
abbrev pub block_at : FileNode → (index : ℕ) → Option (List ℕ)
block_at file index = option_flatten (slice_get file.blocks index)

abbrev pub zeros : List ℕ
zeros = replicate 4096 0

-- the indexes of the blocks in which these bytes lie
abbrev pub indexes_of : (offset count : ℕ) → List ℕ
indexes_of offset count = range_with_len (offset / 4096) (size_in_blocks (offset + count) - offset / 4096)

-- What a read of at most so many bytes from `offset` on gives: those up to the size. A hole reads as zeros.
abbrev pub bytes_read : FileNode → (offset count : ℕ) → List ℕ
bytes_read file offset count =
    let there = min count (file.size - offset) in
    if there == 0 then [] else take there (drop (offset % 4096) (flat_map (λ index. unwrap_or (block_at file index) zeros) (indexes_of offset there)))

-- the bytes of the block at this index, of which those from the old size on are zero now
abbrev pub zeroed : (old_size index : ℕ) → List ℕ → List ℕ
zeroed old_size index bytes =
    if nat_le (4096 * (index + 1)) old_size then bytes
    else take (old_size - 4096 * index) bytes ++ replicate (4096 - (old_size - 4096 * index)) 0

-- a block that is claimed already, in a file that changes its size: only where it grows are bytes past the old size zeroed
abbrev pub resized : (old_size new_size index : ℕ) → Option (List ℕ) → Option (List ℕ)
resized old_size new_size index block = if nat_lt old_size new_size then option_map (zeroed old_size index) block else block

-- some of the bytes from `offset` on lie in the block at this index
abbrev pub reaches : (offset count index : ℕ) → Bool
reaches offset count index = nat_lt offset (4096 * (index + 1)) && nat_lt (4096 * index) (offset + count)

-- the block at this index, with those of the bytes from `offset` on that lie in it
abbrev pub overlaid : (offset : ℕ) → (bytes : List ℕ) → (index : ℕ) → (block : List ℕ) → List ℕ
overlaid offset bytes index block =
    let from = max offset (4096 * index) in
    let to = min (offset + length bytes) (4096 * (index + 1)) in
    put_at block (from - 4096 * index) (take (to - from) (drop (from - offset) bytes))

-- A block in which bytes are written is there afterwards: a fresh one held zeros.
abbrev pub written_block : (old_size new_size offset : ℕ) → (bytes : List ℕ) → (index : ℕ) → Option (List ℕ) → Option (List ℕ)
written_block old_size new_size offset bytes index block =
    if reaches offset (length bytes) index
    then Some (overlaid offset bytes index (unwrap_or (resized old_size new_size index block) zeros))
    else resized old_size new_size index block

-- f of each element and its index, which begins with this one
abbrev pub map_from : {X Y : Type 0} → (ℕ → X → Y) → (index : ℕ) → List X → List Y
map_from f index [] = []
map_from f index (x ∷ xs) = f index x ∷ map_from f (index + 1) xs

-- just so many of the blocks, with holes where there are too few
abbrev pub at_length : (count : ℕ) → List (Option (List ℕ)) → List (Option (List ℕ))
at_length count blocks = take count (blocks ++ replicate count None)

-- the bytes from `offset` on reach past the direct blocks
abbrev pub needs_pointers : (offset count : ℕ) → Bool
needs_pointers offset count = nat_lt direct_size (offset + count)

-- the file after these bytes were written from `offset` on
abbrev pub written : FileNode → (offset : ℕ) → (bytes : List ℕ) → FileNode
written file offset bytes =
    let size = max file.size (offset + length bytes) in
    record file {
      size = size;
      blocks = map_from (written_block file.size size offset bytes) 0 (at_length (size_in_blocks size) file.blocks);
      pointers = if needs_pointers offset (length bytes) then Single ∷ [] else file.pointers;
    }

-- The file with another size: it keeps no block at or past it, and the pointer block only where more blocks than the
-- direct ones are left.
abbrev pub cut_to : FileNode → (size : ℕ) → FileNode
cut_to file size = record file {
  size = size;
  blocks = map_from (resized file.size size) 0 (at_length (size_in_blocks size) file.blocks);
  pointers = if nat_le size direct_size then [] else file.pointers;
}

-- the indexes of those of these blocks, from this index on, that are missing where bytes go
abbrev pub missing_from : (offset count index : ℕ) → List (Option (List ℕ)) → List ℕ
missing_from offset count index [] = []
missing_from offset count index (block ∷ blocks) =
    if reaches offset count index && not (is_some block) then index ∷ missing_from offset count (index + 1) blocks
    else missing_from offset count (index + 1) blocks

-- the indexes at which a write of so many bytes must claim a block
abbrev pub missing_indexes : FileNode → (offset count : ℕ) → List ℕ
missing_indexes file offset count = missing_from offset count 0 (at_length (size_in_blocks (max file.size (offset + count))) file.blocks)

-- a write of so many bytes must claim the pointer block
abbrev pub misses_pointers : FileNode → (offset count : ℕ) → Bool
misses_pointers file offset count = needs_pointers offset count && length file.pointers == 0

-- how many blocks a file loses where its size becomes this one
abbrev pub blocks_cut : FileNode → (size : ℕ) → ℕ
blocks_cut file size =
    count_by is_some (drop (size_in_blocks size) file.blocks) + (if nat_le size direct_size then length file.pointers else 0)
