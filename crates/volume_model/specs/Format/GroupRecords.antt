-- The record of a group: the first 416 bytes of its group block.
use Rattle.std.specs.Prelude.{◌≡◌, ◌≢◌, ℕ, zero, suc, ◌+◌, ◌/◌, ◌%◌, ◌^◌, ◌<◌, ◌≤◌, ◌==◌, Bool, true, false, not, ◌&&◌, ◌||◌, if◌then◌else◌, List, ◌++◌, length, take, drop, replicate, slice_index, Option, Some, None}
use Rattle.std.specs.List.{list_all, range_with_len}
use Rattle.lufs_base.specs.Fields.{u32_at, field_bytes, AreBytes, are_zeros}
use Rattle.lufs_base.specs.declared.geometry.Geometry.{Geometry}

-- what a group keeps: how many of its inodes and blocks are free, and the bits that say which are in use
pub record GroupRecord : Type 0 where
  pub number : ℕ
  pub free_inodes : ℕ
  pub free_blocks : ℕ
  pub inode_bits : List ℕ
  pub block_bits : List ℕ

-- bit i of these bytes: bit i % 8, from the lowest, of byte i / 8
abbrev pub bit_at : List ℕ → ℕ → Bool
bit_at bits i = (slice_index bits (i / 8) / 2 ^ (i % 8)) % 2 == 1

-- one bit has this value after, and all others are as they were
pub record HasBit (place : ℕ) (value : Bool) (old new : List ℕ) : Type 0 where
  pub bit : bit_at new place ≡ value
  pub others : (other : ℕ) → other ≢ place → bit_at new other ≡ bit_at old other

-- how many of the first n bits are clear
unfoldable pub clear_bits : List ℕ → ℕ → ℕ
clear_bits bits zero = 0
clear_bits bits (suc n) = clear_bits bits n + (if bit_at bits n then 0 else 1)

-- each of the first n bits is set
abbrev pub are_set : List ℕ → ℕ → Bool
are_set bits n = list_all (λ i. bit_at bits i) (range_with_len 0 n)

-- The numbers and bits that these bytes name.
abbrev pub named_group : List ℕ → GroupRecord
named_group bytes = record {
  number = u32_at bytes 4;
  free_inodes = u32_at bytes 8;
  free_blocks = u32_at bytes 12;
  inode_bits = take 128 (drop 32 bytes);
  block_bits = take 256 (drop 160 bytes);
}

-- The bits past the group's inodes and blocks are clear. Both counts are whole bytes of bits.
abbrev pub has_clear_rest : Geometry → GroupRecord → Bool
has_clear_rest g r = are_zeros (drop (g.ipg / 8) r.inode_bits) && are_zeros (drop (g.bpg / 8) r.block_bits)

-- what is never free is in use: the group block and the inode blocks, and the inodes 0 and 1
abbrev pub has_reserved : Geometry → GroupRecord → Bool
has_reserved g r = are_set r.block_bits (1 + g.ipg / 32) && (not (r.number == 0) || are_set r.inode_bits 2)

-- the bytes are the record of group n
abbrev pub is_group : Geometry → ℕ → List ℕ → Bool
is_group g n bytes =
    u32_at bytes 0 == 0x00090255 && u32_at bytes 4 == n && are_zeros (take 16 (drop 16 bytes))
    && has_clear_rest g (named_group bytes) && has_reserved g (named_group bytes)

-- the record of group n in these bytes
unfoldable pub group_of : Geometry → ℕ → List ℕ → Option GroupRecord
group_of g n bytes = if is_group g n bytes then Some (named_group bytes) else None

-- the bytes of a record
unfoldable pub group_bytes : GroupRecord → List ℕ
group_bytes r =
    field_bytes 4 0x00090255 ++ (field_bytes 4 r.number ++ (field_bytes 4 r.free_inodes ++ (field_bytes 4 r.free_blocks
    ++ (replicate 16 0 ++ (r.inode_bits ++ r.block_bits)))))

-- a record of group n, as its bytes can hold it
pub record IsGroup (g : Geometry) (n : ℕ) (r : GroupRecord) : Type 0 where
  pub number : r.number ≡ n
  pub number_fits : r.number < 2 ^ 32
  pub free_inodes_fits : r.free_inodes < 2 ^ 32
  pub free_blocks_fits : r.free_blocks < 2 ^ 32
  pub inode_bits_size : length r.inode_bits ≡ 128
  pub inode_bits_bytes : AreBytes r.inode_bits
  pub block_bits_size : length r.block_bits ≡ 256
  pub block_bits_bytes : AreBytes r.block_bits
  -- the bits past the group's inodes and blocks are clear
  pub inode_bits_end : (i : ℕ) → g.ipg ≤ i → bit_at r.inode_bits i ≡ false
  pub block_bits_end : (i : ℕ) → g.bpg ≤ i → bit_at r.block_bits i ≡ false
  -- the group block and the inode blocks are in use, and the inodes 0 and 1
  pub reserved_blocks : (i : ℕ) → i ≤ g.ipg / 32 → bit_at r.block_bits i ≡ true
  pub reserved_inodes : n ≡ 0 → (i : ℕ) → i < 2 → bit_at r.inode_bits i ≡ true
