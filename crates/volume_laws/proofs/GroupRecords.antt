-- A group record and its bytes determine each other.
use Rattle.std.proofs.Common.{◌≡◌, ℕ, ◌/◌, ◌+◌, Bool, true, false, not, ◌&&◌, ◌||◌, cond, eqb, ◌==◌, List, ◌++◌, length, take, drop, replicate, Some, None, refl, ap, sym, ◌∙◌, arith}
use Rattle.std.proofs.lemmas.List.{drop-drop, drop_at, take_at, take_all, length-drop, length-take-le, take-append-drop}
use Rattle.std.proofs.lemmas.Bool.{and_parts, and_from, cond-true, eqb-true, eq-eqb}
use Rattle.lufs_base.specs.Fields.{AreBytes, u32_at, field_bytes, are_zeros}
use Rattle.lufs_base.specs.Layout.{IsGeometry}
use Rattle.lufs_base.specs.declared.geometry.Geometry.{Geometry}
use Rattle.lufs_base.proofs.Spelling.{read_back_of}
use Rattle.volume_model.specs.Format.{GroupRecord, are_set, named_group, has_clear_rest, has_reserved, is_group, group_of, group_bytes, IsGroup}
use Rattle.volume_model.proofs.Pieces.{field_again, zeros_again}
use Rattle.volume_laws.proofs.BitsOfRecords.{zeros_from_clear, set_from_each}

one_of : (a b : Bool) → (a ≡ true → b ≡ true) → (not a || b) ≡ true
one_of true b follows = follows refl
one_of false b follows = refl

tests_of_bits : (g : Geometry) (n : ℕ) (r : GroupRecord) → IsGeometry g → IsGroup g n r → (has_clear_rest g r ≡ true) × (has_reserved g r ≡ true)
tests_of_bits g n r ok is = (
  and_from _ _ (zeros_from_clear r.inode_bits (g.ipg / 8) is.inode_bits_bytes (λ i past. is.inode_bits_end i (omega (arith, ok.ipg_step))))
      (zeros_from_clear r.block_bits (g.bpg / 8) is.block_bits_bytes (λ i past. is.block_bits_end i (omega (arith, ok.bpg_step)))),
  and_from _ _ (set_from_each r.block_bits (1 + g.ipg / 32) (λ i below. is.reserved_blocks i (omega arith)))
      (one_of (eqb r.number 0) (are_set r.inode_bits 2) (λ first. set_from_each r.inode_bits 2 (is.reserved_inodes (sym is.number ∙ eqb-true _ _ first)))),
)

pub group_back : (g : Geometry) (n : ℕ) (r : GroupRecord) → IsGeometry g → IsGroup g n r → group_of g n (group_bytes r) ≡ Some r
unfolding group_of group_bytes
group_back g n r ok is =
    let r32 : List ℕ = r.inode_bits ++ r.block_bits in
    let r16 : List ℕ = replicate 16 0 ++ r32 in
    let r12 : List ℕ = field_bytes 4 r.free_blocks ++ r16 in
    let r8 : List ℕ = field_bytes 4 r.free_inodes ++ r12 in
    let r4 : List ℕ = field_bytes 4 r.number ++ r8 in
    let r0 : List ℕ = field_bytes 4 0x00090255 ++ r4 in
    let magic : u32_at r0 0 ≡ 0x00090255 = read_back_of 4 0x00090255 r4 (omega arith) in
    let number : u32_at r0 4 ≡ r.number = read_back_of 4 r.number r8 is.number_fits in
    let free_inodes : u32_at r0 8 ≡ r.free_inodes = read_back_of 4 r.free_inodes r12 is.free_inodes_fits in
    let free_blocks : u32_at r0 12 ≡ r.free_blocks = read_back_of 4 r.free_blocks r16 is.free_blocks_fits in
    let inode_bits : take 128 (drop 32 r0) ≡ r.inode_bits = take_at r.inode_bits r.block_bits 128 is.inode_bits_size in
    let behind : drop 160 r0 ≡ r.block_bits = drop_at r.inode_bits r.block_bits 128 is.inode_bits_size in
    let block_bits : take 256 (drop 160 r0) ≡ r.block_bits = ap (take 256) behind ∙ take_all 256 r.block_bits (omega (arith, is.block_bits_size)) in
    let named : named_group r0 ≡ r = λ i. record {
      number = number i;
      free_inodes = free_inodes i;
      free_blocks = free_blocks i;
      inode_bits = inode_bits i;
      block_bits = block_bits i;
    } in
    let tests = tests_of_bits g n r ok is in
    let front : (u32_at r0 0 == 0x00090255 && u32_at r0 4 == n && are_zeros (take 16 (drop 16 r0))) ≡ true =
    and_from _ _ (and_from _ _ (eq-eqb _ _ magic) (eq-eqb _ _ (number ∙ is.number))) refl in
    let test : is_group g n r0 ≡ true =
    and_from _ _ (and_from _ _ front (ap (has_clear_rest g) named ∙ tests.0)) (ap (has_reserved g) named ∙ tests.1) in
    cond-true (is_group g n r0) (Some (named_group r0)) None test ∙ ap (λ (x : GroupRecord). Some x) named

-- a value that was given passed its test
tested : (test : Bool) (x r : GroupRecord) → cond test (Some x) None ≡ Some r → (test ≡ true) × (x ≡ r)
tested true x r same = (refl, cc)
tested false x r same = absurd (cc)

named_again : (g : Geometry) (n : ℕ) (bytes : List ℕ) → AreBytes bytes → length bytes ≡ 416 → is_group g n bytes ≡ true → group_bytes (named_group bytes) ≡ bytes
unfolding group_bytes
named_again g n bytes are long test =
    let gap : are_zeros (take 16 (drop 16 bytes)) ≡ true = (and_parts _ _ (and_parts _ _ (and_parts _ _ test).0).0).1 in
    let first : u32_at bytes 0 ≡ 0x00090255 = eqb-true _ _ (and_parts _ _ (and_parts _ _ (and_parts _ _ (and_parts _ _ test).0).0).0).0 in
    let at160 : take 256 (drop 160 bytes) ≡ drop 160 bytes = take_all 256 (drop 160 bytes) (omega (arith, length-drop 160 bytes)) in
    let at32 : take 128 (drop 32 bytes) ++ take 256 (drop 160 bytes) ≡ drop 32 bytes =
    ap (λ (l : List ℕ). take 128 (drop 32 bytes) ++ l) (at160 ∙ sym (drop-drop 128 32 bytes)) ∙ take-append-drop 128 (drop 32 bytes) in
    let zeros = zeros_again 16 (take 16 (drop 16 bytes)) (length-take-le 16 (drop 16 bytes) (omega (arith, length-drop 16 bytes))) gap in
    let at16 : replicate 16 0 ++ (take 128 (drop 32 bytes) ++ take 256 (drop 160 bytes)) ≡ drop 16 bytes =
    ap (λ (l : List ℕ). replicate 16 0 ++ l) (at32 ∙ sym (drop-drop 16 16 bytes)) ∙ ap (λ (l : List ℕ). l ++ drop 16 (drop 16 bytes)) zeros
    ∙ take-append-drop 16 (drop 16 bytes) in
    let at12 = field_again 4 12 16 bytes _ are (omega arith) (omega arith) at16 in
    let at8 = field_again 4 8 12 bytes _ are (omega arith) (omega arith) at12 in
    let at4 = field_again 4 4 8 bytes _ are (omega arith) (omega arith) at8 in
    let magic = ap (λ (k : ℕ). field_bytes 4 k ++ drop 4 bytes) (sym first) in
    ap (λ (l : List ℕ). field_bytes 4 0x00090255 ++ l) at4 ∙ magic ∙ field_again 4 0 4 bytes _ are (omega arith) (omega arith) refl

pub group_again : (g : Geometry) (n : ℕ) (bytes : List ℕ) (r : GroupRecord) → AreBytes bytes → length bytes ≡ 416 → group_of g n bytes ≡ Some r
    → group_bytes r ≡ bytes
unfolding group_of
group_again g n bytes r are long same =
    let passed = tested (is_group g n bytes) (named_group bytes) r same in
    ap group_bytes (sym passed.1) ∙ named_again g n bytes are long passed.0
