-- The record of a group with one bit put: what it is for the hand with that block or inode alone, and what it keeps.
use Rattle.std.proofs.Common.{◌≡◌, ◌≢◌, ◌<◌, ◌≤◌, inl, inr, ℕ, ◌+◌, ◌-◌, ◌*◌, ◌/◌, ◌%◌, ◌^◌, Bool, true, false, ◌||◌, if◌then◌else◌, List, [], ◌∷◌, length, Option, Some, sym, ap, ◌∙◌, subst, arith}
use Rattle.std.specs.Prelude.{All, AllPairs, ◌==◌}
use Rattle.std.specs.Option.{option_map_or}
use Rattle.std.proofs.lemmas.Nat.{div-mul-add, mod-mul-add}
use Rattle.std.proofs.lemmas.Bool.{cases_eq, and_parts, and_from, eqb-true, eq-eqb, ne_eqb, lt-ltb}
use Rattle.std.proofs.lemmas.List.Elements.{All-nil, All-cons}
use Rattle.lufs_base.specs.Fields.{AreBytes}
use Rattle.lufs_base.specs.Layout.{IsGeometry, group_start}
use Rattle.lufs_base.specs.declared.geometry.Geometry.{Geometry}
use Rattle.volume_model.specs.declared.hand.Hand.{Hand}
use Rattle.volume_model.specs.Format.{is_body, GroupRecord, IsGroup, bit_at, clear_bits, HasBit}
use Rattle.volume_model.specs.Sound.{Reading, inodes_in, record_at, inode_bit, block_bit, has_right_counts, IsStored}
use Rattle.volume_laws.specs.Changes.{with_group}
use Rattle.volume_laws.proofs.BodyBlocks.{body_at}
use Rattle.change_laws.specs.Hands.{one_block, one_inode}
use Rattle.change_laws.specs.Marks.{group_of_inode, group_of_block, place_of_block, IsOfGroup, IsFree, HasHandPut, HasBlockPut, HasInodePut}
use Rattle.change_laws.proofs.BitCounts.{one_less, one_more}
use Rattle.change_laws.proofs.OneGroup.{mark_stored}
use Rattle.change_laws.proofs.HandBits.{taken_marks, back_marks}

-- all of one
only : (P : ℕ → Type 0) (x : ℕ) → P x → All P (x ∷ [])
only P x holds = All-cons P x [] holds (All-nil P)

-- no two of one
one_alone : (x : ℕ) → AllPairs (λ b c. b ≢ c) (x ∷ [])
one_alone x i j d less inside = absurd (omega (arith, less, inside))

-- a bit of a hand with one member
bit_of_one : (start place other : ℕ) (value : Bool) (old new : List ℕ) → HasBit place value old new
    → bit_at new other ≡ (if (start + place == start + other || false) then value else bit_at old other)
bit_of_one start place other value old new put = elim (cases_eq other place) [
  | inl same ↦
      let is : (start + place == start + other) ≡ true = eq-eqb (start + place) (start + other) (omega (arith, same)) in
      ap (bit_at new) same ∙ put.bit ∙ sym (ap (λ (t : Bool). if (t || false) then value else bit_at old other) is)
  | inr away ↦
      let is : (start + place == start + other) ≡ false = ne_eqb (start + place) (start + other) (λ same. away (omega (arith, same))) in
      put.others other away ∙ sym (ap (λ (t : Bool). if (t || false) then value else bit_at old other) is)
]

block_hand_put : (g : Geometry) (n place : ℕ) (value : Bool) (old new : GroupRecord) → HasBlockPut place value old new → HasHandPut g n value (one_block (group_start g n + place)) old new
block_hand_put g n place value old new put = record {
  inode_bits = λ other below. ap (λ (bits : List ℕ). bit_at bits other) put.inode_bits;
  block_bits = λ other below. bit_of_one (group_start g n) place other value old.block_bits new.block_bits put.bits;
}

inode_hand_put : (g : Geometry) (n place : ℕ) (value : Bool) (old new : GroupRecord) → HasInodePut place value old new → HasHandPut g n value (one_inode (n * g.ipg + place)) old new
inode_hand_put g n place value old new put = record {
  inode_bits = λ other below. bit_of_one (n * g.ipg) place other value old.inode_bits new.inode_bits put.bits;
  block_bits = λ other below. ap (λ (bits : List ℕ). bit_at bits other) put.block_bits;
}

module _ (g : Geometry) (n place : ℕ) where
  abbrev b : ℕ
  b = group_start g n + place

  abbrev i : ℕ
  i = n * g.ipg + place

  away : b - group_start g 0 ≡ n * g.bpg + place
  away = omega arith

  group_is : place < g.bpg → group_of_block g b ≡ n
  group_is below = ap (λ (k : ℕ). k / g.bpg) away ∙ div-mul-add n g.bpg place below

  place_is : place < g.bpg → place_of_block g b ≡ place
  place_is below = ap (λ (k : ℕ). k % g.bpg) away ∙ mod-mul-add n g.bpg place below

  inode_group_is : place < g.ipg → group_of_inode g i ≡ n
  inode_group_is below = div-mul-add n g.ipg place below

  block_of_group : place < g.bpg → IsOfGroup g n (one_block b)
  block_of_group below = record { inode = All-nil (λ j. group_of_inode g j ≡ n); blocks = only (λ c. group_of_block g c ≡ n) b (group_is below) }

  inode_of_group : place < g.ipg → IsOfGroup g n (one_inode i)
  inode_of_group below = record { inode = only (λ j. group_of_inode g j ≡ n) i (inode_group_is below); blocks = All-nil (λ c. group_of_block g c ≡ n) }

  module _ (r : Reading) (old : GroupRecord) (record_is : record_at r n ≡ Some old) where
    block_bit_is : place < g.bpg → block_bit g r b ≡ bit_at old.block_bits place
    block_bit_is below =
        let bit : Option GroupRecord → Bool = λ o. option_map_or (λ group. bit_at group.block_bits (place_of_block g b)) o false in
        ap (λ (m : ℕ). bit (record_at r m)) (group_is below) ∙ ap bit record_is ∙ ap (bit_at old.block_bits) (place_is below)

    inode_bit_is : place < g.ipg → inode_bit g r i ≡ bit_at old.inode_bits place
    inode_bit_is below =
        let bit : Option GroupRecord → Bool = λ o. option_map_or (λ group. bit_at group.inode_bits (i % g.ipg)) o false in
        ap (λ (m : ℕ). bit (record_at r m)) (inode_group_is below) ∙ ap bit record_is ∙ ap (bit_at old.inode_bits) (mod-mul-add n g.ipg place below)

    free_block : IsGeometry g → n < g.groups → g.ipg / 32 < place → place < g.bpg → bit_at old.block_bits place ≡ false → IsFree g r (one_block b)
    free_block ok within low below clear = record {
      apart = one_alone b;
      usable = All-nil (λ j. (2 ≤ j) × (j < inodes_in r));
      inode_clear = All-nil (λ j. inode_bit g r j ≡ false);
      body = only (λ c. is_body g c ≡ true) b (body_at g ok n place within below ∙ lt-ltb (g.ipg / 32) place low);
      blocks_clear = only (λ c. block_bit g r c ≡ false) b (block_bit_is below ∙ clear);
    }

    free_inode : place < g.ipg → 2 ≤ i → i < inodes_in r → bit_at old.inode_bits place ≡ false → IsFree g r (one_inode i)
    free_inode below low inside clear = record {
      apart = λ j k d less within. absurd (omega (arith, within));
      usable = only (λ j. (2 ≤ j) × (j < inodes_in r)) i (low, inside);
      inode_clear = only (λ j. inode_bit g r j ≡ false) i (inode_bit_is below ∙ clear);
      body = All-nil (λ c. is_body g c ≡ true);
      blocks_clear = All-nil (λ c. block_bit g r c ≡ false);
    }

    module _ (ok : IsGeometry g) (hands : List Hand) (new : GroupRecord) (within : n < g.groups) (counts : has_right_counts g new ≡ true) where
      pub block_taken : IsStored g r hands → g.ipg / 32 < place → place < g.bpg → bit_at old.block_bits place ≡ false → HasBlockPut place true old new
          → IsStored g (with_group r n (Some new)) (one_block b ∷ hands)
      block_taken stored low below clear put =
          mark_stored g r n new hands (one_block b ∷ hands) stored
          (taken_marks g r n (one_block b) hands old new ok within record_is counts (block_of_group below) stored (free_block ok within low below clear)
          (block_hand_put g n place true old new put))

      pub inode_taken : IsStored g r hands → place < g.ipg → 2 ≤ i → i < inodes_in r → bit_at old.inode_bits place ≡ false → HasInodePut place true old new
          → IsStored g (with_group r n (Some new)) (one_inode i ∷ hands)
      inode_taken stored below low inside clear put =
          mark_stored g r n new hands (one_inode i ∷ hands) stored
          (taken_marks g r n (one_inode i) hands old new ok within record_is counts (inode_of_group below) stored (free_inode below low inside clear)
          (inode_hand_put g n place true old new put))

      pub block_put_back : IsStored g r (one_block b ∷ hands) → place < g.bpg → HasBlockPut place false old new → IsStored g (with_group r n (Some new)) hands
      block_put_back stored below put =
          mark_stored g r n new (one_block b ∷ hands) hands stored
          (back_marks g r n (one_block b) hands old new ok within record_is counts (block_of_group below) stored (block_hand_put g n place false old new put))

      pub inode_put_back : IsStored g r (one_inode i ∷ hands) → place < g.ipg → HasInodePut place false old new → IsStored g (with_group r n (Some new)) hands
      inode_put_back stored below put =
          mark_stored g r n new (one_inode i ∷ hands) hands stored
          (back_marks g r n (one_inode i) hands old new ok within record_is counts (inode_of_group below) stored (inode_hand_put g n place false old new put))

-- the counts, as the test reads them
pub counts_if : (g : Geometry) (group : GroupRecord) → group.free_inodes ≡ clear_bits group.inode_bits g.ipg → group.free_blocks ≡ clear_bits group.block_bits g.bpg
    → has_right_counts g group ≡ true
counts_if g group inodes blocks = and_from (group.free_inodes == clear_bits group.inode_bits g.ipg) (group.free_blocks == clear_bits group.block_bits g.bpg)
    (eq-eqb group.free_inodes (clear_bits group.inode_bits g.ipg) inodes) (eq-eqb group.free_blocks (clear_bits group.block_bits g.bpg) blocks)

pub counts_of : (g : Geometry) (group : GroupRecord) → has_right_counts g group ≡ true
    → (group.free_inodes ≡ clear_bits group.inode_bits g.ipg) × (group.free_blocks ≡ clear_bits group.block_bits g.bpg)
counts_of g group right =
    let parts = and_parts (group.free_inodes == clear_bits group.inode_bits g.ipg) (group.free_blocks == clear_bits group.block_bits g.bpg) right in
    (eqb-true group.free_inodes (clear_bits group.inode_bits g.ipg) parts.0, eqb-true group.free_blocks (clear_bits group.block_bits g.bpg) parts.1)

module _ (g : Geometry) (place : ℕ) (old new : GroupRecord) (right : has_right_counts g old ≡ true) where
  inodes_beside : (value : Bool) → HasBlockPut place value old new → new.free_inodes ≡ clear_bits new.inode_bits g.ipg
  inodes_beside value put = put.free_inodes ∙ (counts_of g old right).0 ∙ ap (λ (bits : List ℕ). clear_bits bits g.ipg) (sym put.inode_bits)

  blocks_beside : (value : Bool) → HasInodePut place value old new → new.free_blocks ≡ clear_bits new.block_bits g.bpg
  blocks_beside value put = put.free_blocks ∙ (counts_of g old right).1 ∙ ap (λ (bits : List ℕ). clear_bits bits g.bpg) (sym put.block_bits)

  pub block_set : place < g.bpg → bit_at old.block_bits place ≡ false → HasBlockPut place true old new → new.free_blocks + 1 ≡ old.free_blocks → has_right_counts g new ≡ true
  block_set below clear put less =
      counts_if g new (inodes_beside true put) (omega (arith, less, (counts_of g old right).1, one_less place g.bpg old.block_bits new.block_bits put.bits clear below))

  pub block_cleared : place < g.bpg → bit_at old.block_bits place ≡ true → HasBlockPut place false old new → new.free_blocks ≡ old.free_blocks + 1 → has_right_counts g new ≡ true
  block_cleared below set put more =
      counts_if g new (inodes_beside false put) (omega (arith, more, (counts_of g old right).1, one_more place g.bpg old.block_bits new.block_bits put.bits set below))

  pub inode_set : place < g.ipg → bit_at old.inode_bits place ≡ false → HasInodePut place true old new → new.free_inodes + 1 ≡ old.free_inodes → has_right_counts g new ≡ true
  inode_set below clear put less =
      counts_if g new (omega (arith, less, (counts_of g old right).0, one_less place g.ipg old.inode_bits new.inode_bits put.bits clear below)) (blocks_beside true put)

  pub inode_cleared : place < g.ipg → bit_at old.inode_bits place ≡ true → HasInodePut place false old new → new.free_inodes ≡ old.free_inodes + 1 → has_right_counts g new ≡ true
  inode_cleared below set put more =
      counts_if g new (omega (arith, more, (counts_of g old right).0, one_more place g.ipg old.inode_bits new.inode_bits put.bits set below)) (blocks_beside false put)

-- the record stays one of its group
module _ (g : Geometry) (n place : ℕ) (value : Bool) (old new : GroupRecord) (group : IsGroup g n old) where
  pub block_group : HasBlockPut place value old new → g.ipg / 32 < place → place < g.bpg → new.free_blocks < 2 ^ 32 → length new.block_bits ≡ 256
      → AreBytes new.block_bits → IsGroup g n new
  block_group put low below fits size bytes = record {
    number = put.number ∙ group.number;
    number_fits = omega (arith, put.number, group.number_fits);
    free_inodes_fits = omega (arith, put.free_inodes, group.free_inodes_fits);
    free_blocks_fits = fits;
    inode_bits_size = ap length put.inode_bits ∙ group.inode_bits_size;
    inode_bits_bytes = subst AreBytes (sym put.inode_bits) group.inode_bits_bytes;
    block_bits_size = size;
    block_bits_bytes = bytes;
    inode_bits_end = λ i past. ap (λ (bits : List ℕ). bit_at bits i) put.inode_bits ∙ group.inode_bits_end i past;
    block_bits_end = λ i past. put.bits.others i (λ same. absurd (omega (arith, past, below, same))) ∙ group.block_bits_end i past;
    reserved_blocks = λ i early. put.bits.others i (λ same. absurd (omega (arith, early, low, same))) ∙ group.reserved_blocks i early;
    reserved_inodes = λ first i early. ap (λ (bits : List ℕ). bit_at bits i) put.inode_bits ∙ group.reserved_inodes first i early;
  }

  pub inode_group : HasInodePut place value old new → 2 ≤ n * g.ipg + place → place < g.ipg → new.free_inodes < 2 ^ 32 → length new.inode_bits ≡ 128
      → AreBytes new.inode_bits → IsGroup g n new
  inode_group put low below fits size bytes = record {
    number = put.number ∙ group.number;
    number_fits = omega (arith, put.number, group.number_fits);
    free_inodes_fits = fits;
    free_blocks_fits = omega (arith, put.free_blocks, group.free_blocks_fits);
    inode_bits_size = size;
    inode_bits_bytes = bytes;
    block_bits_size = ap length put.block_bits ∙ group.block_bits_size;
    block_bits_bytes = subst AreBytes (sym put.block_bits) group.block_bits_bytes;
    inode_bits_end = λ i past. put.bits.others i (λ same. absurd (omega (arith, past, below, same))) ∙ group.inode_bits_end i past;
    block_bits_end = λ i past. ap (λ (bits : List ℕ). bit_at bits i) put.block_bits ∙ group.block_bits_end i past;
    reserved_blocks = λ i early. ap (λ (bits : List ℕ). bit_at bits i) put.block_bits ∙ group.reserved_blocks i early;
    reserved_inodes = λ first i early.
        let row : n * g.ipg ≡ 0 = ap (λ (k : ℕ). k * g.ipg) first ∙ (let none : 0 * g.ipg ≡ 0 = omega arith in none) in
        put.bits.others i (λ same. absurd (omega (arith, early, low, row, same))) ∙ group.reserved_inodes first i early;
  }
