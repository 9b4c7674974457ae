-- The record of a group with the bit of one block or inode cleared returns that part of a hand.
use Rattle.std.proofs.Common.{◌≡◌, ◌<◌, ℕ, ◌+◌, ◌-◌, ◌*◌, ◌%◌, true, false, List, [], ◌∷◌, Some, refl, sym, ap, ◌∙◌, subst}
use Rattle.std.specs.Prelude.{All, ◌==◌, if◌then◌else◌}
use Rattle.std.proofs.lemmas.Bool.{or_left, or_right, eq-eqb}
use Rattle.std.proofs.lemmas.List.Elements.{All-nil, All-cons, All-head}
use Rattle.lufs_base.specs.Layout.{IsGeometry, group_start}
use Rattle.lufs_base.specs.declared.geometry.Geometry.{Geometry}
use Rattle.lufs_base.specs.declared.numbers.BlockNo.{BlockNo}
use Rattle.volume_model.specs.declared.hand.Hand.{Hand}
use Rattle.volume_model.specs.Format.{GroupRecord, IsGroup, bit_at, is_body, HasBit}
use Rattle.volume_model.specs.Sound.{Reading, block_bit, is_claimed, held_inodes, held_blocks, is_among, IsStored}
use Rattle.volume_laws.specs.Changes.{with_group}
use Rattle.change_laws.specs.Hands.{one_block, one_inode}
use Rattle.change_laws.specs.Marks.{group_of_inode, group_of_block, place_of_block, HasHandPut, HasBlockPut, HasInodePut}
use Rattle.change_laws.proofs.Places.{bits_of_stored, taken_block}
use Rattle.cyl_groups.specs.declared.group.Group.{Group}
use Rattle.cyl_groups.specs.Group.{record_of}
use Rattle.block_alloc.specs.Marks.{IsCountedGroup}
use Rattle.block_alloc.specs.Returning.{Returns}
use Rattle.block_alloc.proofs.CountedGroups.{counts_right}
use Rattle.block_alloc.proofs.HandPut.{block_put, inode_put, inode_at_place, block_at_place}
use Rattle.block_alloc.proofs.ReturnedRecord.{same_bits, clear_there, same_elsewhere, one_cleared, none_cleared}

all_one : {X : Type 0} (P : X → Type 0) (x : X) → P x → All P (x ∷ [])
all_one P x holds = All-cons P x [] holds (All-nil P)

-- the bits that were cleared are by the bits before
cleared_by_bits : (g : Geometry) (n : ℕ) (hand : Hand) (old mid new : GroupRecord) → mid.inode_bits ≡ old.inode_bits → mid.block_bits ≡ old.block_bits
    → HasHandPut g n false hand mid new → HasHandPut g n false hand old new
cleared_by_bits g n hand old mid new inode_bits block_bits put = record {
  inode_bits = λ place below. put.inode_bits place below
      ∙ ap (λ (bits : List ℕ). if is_among (n * g.ipg + place) (held_inodes (hand ∷ [])) then false else bit_at bits place) inode_bits;
  block_bits = λ place below. put.block_bits place below
      ∙ ap (λ (bits : List ℕ). if is_among (group_start g n + place) hand.blocks then false else bit_at bits place) block_bits;
}

-- the bit of a block that is held is set
held_bit : (g : Geometry) (r : Reading) (b : ℕ) (hands : List Hand) → is_body g b ≡ true → IsStored g r (one_block b ∷ hands) → block_bit g r b ≡ true
held_bit g r b hands body stored =
    let among : is_among b (held_blocks (one_block b ∷ hands)) ≡ true = or_left (b == b) (is_among b (held_blocks hands)) (eq-eqb b b refl) in
    (bits_of_stored g r (one_block b ∷ hands) stored).blocks b body ∙ sym (taken_block r (one_block b ∷ hands) b)
    ∙ or_right (is_claimed r b) (is_among b (held_blocks (one_block b ∷ hands))) among

pub block_returns : (g : Geometry) (b n first : ℕ) (old mid new : Group) → IsGeometry g → n < g.groups → is_body g b ≡ true → group_of_block g b ≡ n → first ≡ group_start g 0
    → mid.number ≡ n → mid.inode_bits ≡ old.inode_bits → mid.block_bits ≡ old.block_bits → IsCountedGroup g new
    → HasBlockPut ((b - first) % g.bpg) false (record_of mid) (record_of new) → Returns g (one_block b) n (record_of old) (record_of new) (record { 0 = b } ∷ [])
block_returns g b n first old mid new ok within body its_group start number inode_bits block_bits counted cleared =
    let put : HasBlockPut (place_of_block g b) false (record_of mid) (record_of new) =
    subst (λ (k : ℕ). HasBlockPut ((b - k) % g.bpg) false (record_of mid) (record_of new)) start cleared in
    record {
      within = within;
      group = subst (λ (k : ℕ). IsGroup g k (record_of new)) (put.number ∙ number) counted.group;
      counts = counts_right g new counted;
      of_its_group = record { inode = All-nil (λ i. group_of_inode g i ≡ n); blocks = all_one (λ c. group_of_block g c ≡ n) b its_group };
      put = cleared_by_bits g n (one_block b) (record_of old) (record_of mid) (record_of new) inode_bits block_bits
          (block_put g n b (place_of_block g b) false (record_of mid) (record_of new) (sym (block_at_place g b n ok body its_group)) put);
      numbers = refl;
      body = all_one (λ (c : BlockNo). is_body g c.0 ≡ true) (record { 0 = b }) body;
      unclaimed = λ r hands stored. all_one (λ (c : BlockNo). is_claimed r c.0 ≡ false) (record { 0 = b }) (All-head (λ c. is_claimed r c ≡ false) b (held_blocks hands) stored.apart.blocks_free);
      bits = λ r hands stored was.
          let its : HasBit (place_of_block g b) false (record_of old).block_bits (record_of new).block_bits = record {
            bit = put.bits.bit;
            others = λ other away. put.bits.others other away ∙ ap (λ (bits : List ℕ). bit_at bits other) block_bits;
          } in
          one_cleared g r (with_group r n (Some (record_of new))) b (held_bit g r b hands body stored)
          (clear_there g r n (record_of old) (record_of new) ok was b body its_group its) (same_elsewhere g r n (record_of old) (record_of new) ok was b body its_group its);
    }

pub inode_returns : (g : Geometry) (i n : ℕ) (old mid new : Group) → IsGeometry g → n < g.groups → group_of_inode g i ≡ n
    → mid.number ≡ n → mid.inode_bits ≡ old.inode_bits → mid.block_bits ≡ old.block_bits → IsCountedGroup g new
    → HasInodePut (i % g.ipg) false (record_of mid) (record_of new) → Returns g (one_inode i) n (record_of old) (record_of new) []
inode_returns g i n old mid new ok within its_group number inode_bits block_bits counted put =
    record {
      within = within;
      group = subst (λ (k : ℕ). IsGroup g k (record_of new)) (put.number ∙ number) counted.group;
      counts = counts_right g new counted;
      of_its_group = record { inode = all_one (λ j. group_of_inode g j ≡ n) i its_group; blocks = All-nil (λ c. group_of_block g c ≡ n) };
      put = cleared_by_bits g n (one_inode i) (record_of old) (record_of mid) (record_of new) inode_bits block_bits
          (inode_put g n i (i % g.ipg) false (record_of mid) (record_of new) (sym (inode_at_place g i n its_group)) put);
      numbers = refl;
      body = All-nil (λ (c : BlockNo). is_body g c.0 ≡ true);
      unclaimed = λ r hands stored. All-nil (λ (c : BlockNo). is_claimed r c.0 ≡ false);
      bits = λ r hands stored was.
          none_cleared g r (with_group r n (Some (record_of new))) (same_bits g r n (record_of old) (record_of new) ok was (put.block_bits ∙ block_bits));
    }
