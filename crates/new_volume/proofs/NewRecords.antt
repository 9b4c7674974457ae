-- The records that mkfs makes: of a group, of the root, and of its chunk, as they read back.
use Rattle.std.proofs.Common.{◌≡◌, ◌≢◌, ◌<◌, ◌≤◌, ℕ, zero, suc, ◌+◌, ◌-◌, ◌*◌, ◌/◌, ◌^◌, Bool, true, false, if◌then◌else◌, List, ◌∷◌, ◌++◌, length, take, drop, replicate, slice_index, Some, inl, inr, refl, ap, ◌∙◌, arith}
use Rattle.std.specs.Prelude.{◌==◌}
use Rattle.std.proofs.Math.Seq.{drop-append-add}
use Rattle.std.proofs.lemmas.Bool.{cases_lt, or_right}
use Rattle.std.proofs.lemmas.List.{take_at, get_or-replicate, get_or_past, length-replicate}
use Rattle.lufs_base.specs.Fields.{number_in}
use Rattle.lufs_base.specs.Layout.{IsGeometry}
use Rattle.lufs_base.specs.declared.geometry.Geometry.{Geometry}
use Rattle.volume_model.specs.Format.{group_bytes, IsGroup, dinode_bytes, IsDinode, slots_in, chunk_of, chunk_bytes, new_directory}
use Rattle.volume_model.specs.MkfsImage.{used_inodes, used_blocks, root_block, made_group, made_root, block_with}
use Rattle.new_volume.proofs.FirstBits.{length-first_bits, first_bits_are_bytes, first_bit_set, first_bit_clear}
use Rattle.new_volume.proofs.Groups.{used_in_group}
use Rattle.new_volume.proofs.BlockSectors.{zeros_in_zeros}

-- what is in use at first
few : (first : Bool) → (if first then 3 else 0) ≤ 3
few true = omega arith
few false = omega arith

pub used_inodes_few : (n : ℕ) → used_inodes n ≤ 3
used_inodes_few n = few (n == 0)

pub used_blocks_fit : (g : Geometry) (n : ℕ) → IsGeometry g → used_blocks g n ≤ 2048
used_blocks_fit g n ok = omega (arith, used_in_group g n ok, ok.bpg_high)

pub made_is_group : (g : Geometry) (n : ℕ) → IsGeometry g → n < g.groups → IsGroup g n (made_group g n)
made_is_group g n ok within =
    let inodes = used_inodes_few n in
    let blocks = used_in_group g n ok in
    let low : 1 + g.ipg / 32 ≤ used_blocks g n = omega arith in
    record {
      number = refl;
      number_fits = omega (arith, within, ok.groups_high);
      free_inodes_fits = omega (arith, ok.ipg_high);
      free_blocks_fits = omega (arith, ok.bpg_high);
      inode_bits_size = length-first_bits (used_inodes n) 128;
      inode_bits_bytes = first_bits_are_bytes (used_inodes n) 128;
      block_bits_size = length-first_bits (used_blocks g n) 256;
      block_bits_bytes = first_bits_are_bytes (used_blocks g n) 256;
      inode_bits_end = λ i past. first_bit_clear (used_inodes n) 128 i (omega (arith, inodes, past, ok.ipg_low));
      block_bits_end = λ i past. first_bit_clear (used_blocks g n) 256 i (omega (arith, blocks, past));
      reserved_blocks = λ i below. first_bit_set (used_blocks g n) 256 i (omega (arith, low, below)) (omega (arith, below, ok.ipg_high));
      reserved_inodes = λ first i below.
          let three : used_inodes n ≡ 3 = ap used_inodes first in
          first_bit_set (used_inodes n) 128 i (omega (arith, three, below)) (omega (arith, below));
    }

pub length-made_group : (g : Geometry) (n : ℕ) → length (group_bytes (made_group g n)) ≡ 416
unfolding group_bytes
length-made_group g n = refl

-- the root's record
pub length-dinode : (g : Geometry) (moment : ℕ) → length (dinode_bytes (Some (made_root g moment))) ≡ 128
unfolding dinode_bytes
length-dinode g moment = refl

root_block_fits : (g : Geometry) → IsGeometry g → root_block g < 2 ^ 32
root_block_fits g ok = omega (arith, ok.log_high, ok.ipg_high)

pub root_is_inode : (g : Geometry) (moment : ℕ) → IsGeometry g → moment < 2 ^ 64 → IsDinode g.version (made_root g moment)
root_is_inode g moment ok fits = record {
  mode = refl;
  links_fits = omega arith;
  uid_fits = omega arith;
  gid_fits = omega arith;
  size_fits = omega arith;
  mtime_fits = fits;
  direct_size = refl;
  direct_fits = numbers_fit;
  indirect_size = refl;
  indirect_fits = zeros_fit 3;
  blocks_fits = omega arith;
  indirect_in_version = or_right _ _ refl;
}
  where
    zeros_fit : (n i : ℕ) → slice_index (replicate n 0) i < 2 ^ 32
    zeros_fit n i = elim (cases_lt i n) [
      | inl below ↦ let zero_there : slice_index (replicate n 0) i ≡ 0 = get_or-replicate n i (let z : ℕ = 0 in z) 0 below in omega (arith, zero_there)
      | inr past ↦ let none : slice_index (replicate n 0) i ≡ 0 = get_or_past (replicate n 0) i 0 (omega (arith, past, length-replicate {A = ℕ} n 0)) in omega (arith, none)
    ]

    numbers_fit : (i : ℕ) → slice_index (root_block g ∷ replicate 11 0) i < 2 ^ 32
    numbers_fit zero = root_block_fits g ok
    numbers_fit (suc i) = zeros_fit 11 i

-- records in a block
pub front_of_block : (bytes : List ℕ) → length bytes ≡ 416 → take 416 (block_with 0 bytes) ≡ bytes
front_of_block bytes size = take_at bytes (drop (0 + length bytes) (replicate 4096 0)) 416 size

-- a block with one inode record, as three parts
third_record : (bytes : List ℕ) → length bytes ≡ 128 → block_with 256 bytes ≡ replicate 256 0 ++ (bytes ++ replicate 3712 0)
third_record bytes size =
    ap (λ (n : ℕ). replicate 256 (let z : ℕ = 0 in z) ++ (bytes ++ drop (256 + n) (replicate 4096 0))) size

pub record_2 : (bytes : List ℕ) → length bytes ≡ 128 → take 128 (drop 256 (block_with 256 bytes)) ≡ bytes
record_2 bytes size =
    ap (λ (l : List ℕ). take 128 (drop 256 l)) (third_record bytes size) ∙ take_at bytes (replicate 3712 0) 128 size

record_0 : (bytes : List ℕ) → length bytes ≡ 128 → take 128 (drop 0 (block_with 256 bytes)) ≡ replicate 128 0
record_0 bytes size = ap (λ (l : List ℕ). take 128 (drop 0 l)) (third_record bytes size)

record_1 : (bytes : List ℕ) → length bytes ≡ 128 → take 128 (drop 128 (block_with 256 bytes)) ≡ replicate 128 0
record_1 bytes size = ap (λ (l : List ℕ). take 128 (drop 128 l)) (third_record bytes size)

record_past : (bytes : List ℕ) (p : ℕ) → length bytes ≡ 128 → 3 ≤ p → p < 32 → take 128 (drop (128 * p) (block_with 256 bytes)) ≡ replicate 128 0
record_past bytes p size low high =
    let at : 128 * p ≡ 256 + (128 + 128 * (p - 3)) = omega (arith, low) in
    let behind : 128 + 128 * (p - 3) ≡ length bytes + 128 * (p - 3) = omega (arith, size) in
    ap (λ (l : List ℕ). take 128 (drop (128 * p) l)) (third_record bytes size)
    ∙ ap (λ (k : ℕ). take 128 (drop k (replicate 256 (let z : ℕ = 0 in z) ++ (bytes ++ replicate 3712 0)))) at
    ∙ ap (take 128) (drop-append-add (replicate 256 0) (bytes ++ replicate 3712 0) (128 + 128 * (p - 3)))
    ∙ ap (λ (k : ℕ). take 128 (drop k (bytes ++ replicate 3712 (let z : ℕ = 0 in z)))) behind
    ∙ ap (take 128) (drop-append-add bytes (replicate 3712 0) (128 * (p - 3)))
    ∙ zeros_in_zeros (128 * (p - 3)) 128 3712 (omega (arith, high))

pub record_of_zeros : (bytes : List ℕ) (p : ℕ) → length bytes ≡ 128 → p < 32 → p ≢ 2 → take 128 (drop (128 * p) (block_with 256 bytes)) ≡ replicate 128 0
record_of_zeros bytes zero size below other = record_0 bytes size
record_of_zeros bytes (suc zero) size below other = record_1 bytes size
record_of_zeros bytes (suc (suc zero)) size below other = absurd (other refl)
record_of_zeros bytes (suc (suc (suc p))) size below other = record_past bytes (suc (suc (suc p))) size (omega arith) below

pub chunk_reads : chunk_of (take 512 (drop 0 (block_with 0 (chunk_bytes (new_directory 2 2))))) ≡ Some (new_directory 2 2)
unfolding number_in slots_in
chunk_reads = refl
