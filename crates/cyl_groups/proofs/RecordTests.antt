-- What a group record's test says, test by test.
use Rattle.std.proofs.Common.{◌≡◌, ℕ, ◌+◌, ◌-◌, ◌/◌, ◌<◌, ◌≤◌, Bool, true, false, not, ◌||◌, eqb, List, length, take, drop, slice_index, Some, None, inl, inr, ap, ◌∙◌, arith}
use Rattle.std.proofs.lemmas.List.{get_or-take, get_or_past, length-take}
use Rattle.std.proofs.lemmas.Bool.{and_parts, and_from, eqb-true, eq-eqb, cases_lt}
use Rattle.lufs_base.specs.Fields.{AreBytes, u32_at, are_zeros}
use Rattle.lufs_base.specs.Layout.{IsGeometry}
use Rattle.lufs_base.specs.declared.geometry.Geometry.{Geometry}
use Rattle.lufs_base.proofs.TestedValue.{refused, given}
use Rattle.volume_model.specs.Format.{GroupRecord, bit_at, are_set, named_group, has_clear_rest, has_reserved, is_group, group_of}
use Rattle.volume_model.proofs.SetBits.{each_set}
use Rattle.cyl_groups.proofs.BitRuns.{clear_from_zeros}

pub record Passes (g : Geometry) (n : ℕ) (bytes : List ℕ) : Type 0 where
  pub magic : u32_at bytes 0 ≡ 0x00090255
  pub number : u32_at bytes 4 ≡ n
  pub gap : are_zeros (take 16 (drop 16 bytes)) ≡ true
  pub rest : has_clear_rest g (named_group bytes) ≡ true
  pub reserved : has_reserved g (named_group bytes) ≡ true

pub parts : (g : Geometry) (n : ℕ) (bytes : List ℕ) → is_group g n bytes ≡ true → Passes g n bytes
parts g n bytes test =
    let four = and_parts _ _ test in
    let three = and_parts _ _ four.0 in
    let two = and_parts _ _ three.0 in
    let one = and_parts _ _ two.0 in
    record {
      magic = eqb-true _ _ one.0;
      number = eqb-true _ _ one.1;
      gap = two.1;
      rest = three.1;
      reserved = four.1;
    }

pub no_group : (g : Geometry) (n : ℕ) (bytes : List ℕ) → (Passes g n bytes → ⊥) → None ≡ group_of g n bytes
unfolding group_of
no_group g n bytes fails = refused (is_group g n bytes) (named_group bytes) (λ test. fails (parts g n bytes test))

pub a_group : (g : Geometry) (n : ℕ) (bytes : List ℕ) (r : GroupRecord) → Passes g n bytes → r ≡ named_group bytes → Some r ≡ group_of g n bytes
unfolding group_of
a_group g n bytes r is same =
    given (is_group g n bytes) (named_group bytes) r
    (and_from _ _ (and_from _ _ (and_from _ _ (and_from _ _ (eq-eqb _ _ is.magic) (eq-eqb _ _ is.number)) is.gap) is.rest) is.reserved) same

-- of two tests one holds, and the first doesn't
second_of : (a b : Bool) → (not a || b) ≡ true → a ≡ true → b ≡ true
second_of true b either first = either
second_of false b either first = absurd (cc)

-- the two groups of bits, as a record that is read has them
pub record HasBits (g : Geometry) (r : GroupRecord) : Type 0 where
  pub inode_bits_end : (i : ℕ) → g.ipg ≤ i → bit_at r.inode_bits i ≡ false
  pub block_bits_end : (i : ℕ) → g.bpg ≤ i → bit_at r.block_bits i ≡ false
  pub reserved_blocks : (i : ℕ) → i ≤ g.ipg / 32 → bit_at r.block_bits i ≡ true
  pub reserved_inodes : r.number ≡ 0 → (i : ℕ) → i < 2 → bit_at r.inode_bits i ≡ true

pub bits_of_tests : (g : Geometry) (r : GroupRecord) → IsGeometry g → has_clear_rest g r ≡ true → has_reserved g r ≡ true → HasBits g r
bits_of_tests g r ok rest reserved =
    let clear = and_parts _ _ rest in
    let set = and_parts _ _ reserved in
    record {
      inode_bits_end = λ i past. clear_from_zeros r.inode_bits (g.ipg / 8) clear.0 i (omega (arith, ok.ipg_step));
      block_bits_end = λ i past. clear_from_zeros r.block_bits (g.bpg / 8) clear.1 i (omega (arith, ok.bpg_step));
      reserved_blocks = λ i below. each_set r.block_bits (1 + g.ipg / 32) set.0 i (omega arith);
      reserved_inodes = λ first i below. each_set r.inode_bits 2 (second_of (eqb r.number 0) (are_set r.inode_bits 2) set.1 (eq-eqb _ _ first)) i below;
    }

-- the front of bytes is bytes
pub front_is_bytes : (n : ℕ) (bytes : List ℕ) → AreBytes bytes → AreBytes (take n bytes)
front_is_bytes n bytes are i = elim (cases_lt i n) [
  | inl below ↦ rw (get_or-take n bytes i 0 below) (are i)
  | inr past ↦ let none : slice_index (take n bytes) i ≡ 0 = get_or_past (take n bytes) i 0 (omega (arith, length-take n bytes)) in omega arith
]

-- what a reader found is the record that the bytes name
pub found : (bytes : List ℕ) (r : GroupRecord) → r.number ≡ u32_at bytes 4 → r.free_inodes ≡ u32_at bytes 8 → r.free_blocks ≡ u32_at bytes 12
    → r.inode_bits ≡ take 128 (drop 32 bytes) → length bytes ≡ 416 → r.block_bits ≡ take (length bytes - 160) (drop 160 bytes) → r ≡ named_group bytes
found bytes r number free_inodes free_blocks inode_bits long rest =
    let block_bits : r.block_bits ≡ take 256 (drop 160 bytes) = rest ∙ ap (λ (n : ℕ). take (n - 160) (drop 160 bytes)) long in
    λ i. record {
      number = number i;
      free_inodes = free_inodes i;
      free_blocks = free_blocks i;
      inode_bits = inode_bits i;
      block_bits = block_bits i;
    }
